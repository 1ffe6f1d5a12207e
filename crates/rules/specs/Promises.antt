-- What is promised of a book after any run of calls. Distances, lots and weights are those of the plain book and the source's meaning.
use Rattle.std.specs.Prelude.{◌≡◌, ℕ, ◌+◌, ◌*◌, ◌<◌, ◌≤◌, List, length, Some, Ok, Err, sum_by}
use mathlib.Core.List.{Memᴰ}
use Rattle.terms.specs.declared.points.Side.{Side}
use Rattle.terms.specs.declared.points.Side.TheVariants.{Entry, Exit}
use Rattle.terms.specs.declared.faults.BookFault.TheVariants.{NoEntryShares, NoExitShares}
use Rattle.network.specs.Net.{Net}
use Rattle.revenue.specs.Law.{Accepted, Balanced}
use Rattle.pricing.specs.declared.elements.Elements.{Elements}
use Rattle.pricing.specs.declared.figures.ElementFigures.{ElementFigures}
use Rattle.pricing.specs.declared.figures.TariffFigures.{TariffFigures}
use Rattle.pricing.specs.Fractions.{Fraction, fraction, whole, times, Same}
use Rattle.pricing.specs.Shares.{weight, HasShares}
use Rattle.pricing.specs.Methodology.{Methodical}
use Rattle.pricing.specs.Tariffs.{shared, takings, Collects, NearShares}
use Rattle.pricing.specs.Drafts.{figures_of}
use Rattle.rules.specs.declared.calls.Call.TheVariants.{Draw}
use Rattle.rules.specs.declared.calls.Answer.TheVariants.{Drawn}
use Rattle.rules.specs.Limits.{most_points, most_lots, farthest, whole_relief, most_weight}
use Rattle.rules.specs.Points.{Point, Plain, opposite, on_side, lots_of}
use Rattle.rules.specs.Weights.{km, reach, point_weight, side_lots, basis_of, drawing}
use Rattle.rules.specs.Plain.{Outcome, Handles}
use Rattle.rules.specs.Runs.{History, Led}

-- Every two open points of opposite sides have a distance, of at most 1,000 km.
abbrev pub Reached : Net → List Point → Type 0
Reached net points =
    (q x : Point) → Memᴰ q points → Memᴰ x points → x.side ≡ opposite q.side
    → (d : ℕ) × (net.distance q.station x.station ≡ Some d) × (d ≤ farthest)

-- The weighted average distance of a station to the points of a side: the sum of lots times distance, over the sum of lots.
abbrev pub average_distance : Net → ℕ → List Point → Fraction
average_distance net at others = fraction (reach net at others) (lots_of others)

-- A point's weight is its capacity times its weighted average distance, times the lots of the opposite side,
-- which all points of its side have in common.
abbrev pub Averaged : Net → List Point → Type 0
Averaged net points =
    (q : Point) → 0 < lots_of (on_side (opposite q.side) points)
    → Same (whole (point_weight net points q))
    (times (whole (q.lots * lots_of (on_side (opposite q.side) points))) (average_distance net q.station (on_side (opposite q.side) points)))

-- the sum, over all pairs of an entry and an exit, of lots times lots times distance
abbrev pub pairs_weight : Net → List Point → ℕ
pairs_weight net points =
    sum_by (λ e. sum_by (λ x. e.lots * x.lots * km (net.distance e.station x.station)) (on_side Exit points)) (on_side Entry points)

-- The limits that no side passes.
pub record Bounded (p : Plain) (s : Side) : Type 0 where
  pub points : length (on_side s p.points) ≤ most_points s
  pub lots : lots_of (on_side s p.points) ≤ most_lots
  pub relief : p.relief s ≤ whole_relief

-- a side has exact shares
abbrev pub HasExactShares : Net → Plain → Side → Type 0
HasExactShares net p s = HasShares (basis_of net p s)

-- one side of the six
abbrev pub side_in : TariffFigures → Side → Elements ElementFigures
side_in f Entry = f.entries
side_in f Exit = f.exits

-- tariffs times lots, over both sides, in RSD
abbrev pub collected : TariffFigures → Plain → ℕ
collected f p = takings f.entries (side_lots p.points Entry) + takings f.exits (side_lots p.points Exit)

-- What is promised of the figures that a draw gives.
pub record Drafted (net : Net) (p : Plain) (f : TariffFigures) : Type 0 where
  -- the six shares add up to the allowed revenue
  pub whole : shared f.entries + shared f.exits ≡ p.allowed
  -- tariffs times lots add up to the allowed revenue within half an RSD per planned lot
  pub revenue : Collects p.allowed (lots_of p.points) (collected f p)
  -- each share lies less than 2 thousand RSD from its exact share
  pub near : (s : Side) → NearShares (basis_of net p s) (side_in f s)
  -- the exact shares are those of the methodology
  pub methodical : (s : Side) → Methodical (basis_of net p s)

-- What a draw comes back with: the six shares and tariffs that the rules define on the book's figures, with what is promised of
-- them, or the refusal of the first side that has no exact shares.
pub data Draws (net : Net) (p : Plain) : Outcome → Type 0 where
  given : HasExactShares net p Entry → HasExactShares net p Exit → Drafted net p (figures_of (drawing net p))
      → Draws net p (Ok (Drawn (figures_of (drawing net p))))
  no_entry_shares : (HasExactShares net p Entry → ⊥) → Draws net p (Err NoEntryShares)
  no_exit_shares : HasExactShares net p Entry → (HasExactShares net p Exit → ⊥) → Draws net p (Err NoExitShares)

-- A draw is answered, in one way, and changes nothing.
pub record Drawable (net : Net) (p : Plain) : Type 0 where
  pub outcome : Outcome
  pub draws : Draws net p outcome
  pub handled : Handles net p Draw outcome p
  pub only : (o : Outcome) (p' : Plain) → Handles net p Draw o p' → (o ≡ outcome) × (p' ≡ p)

pub record Promised (net : Net) (p : Plain) : Type 0 where
  pub reached : Reached net p.points
  pub averaged : Averaged net p.points
  pub bounded : (s : Side) → Bounded p s
  -- a side's weight is at most 1.6 × 10^12
  pub light : (s : Side) → weight (basis_of net p s) ≤ most_weight
  -- both sides weigh the same, each the sum over all pairs of an entry and an exit
  pub level : (s : Side) → weight (basis_of net p s) ≡ pairs_weight net p.points
  pub draft : Drawable net p
  -- the closings were accepted one after another, and leave what is carried
  pub closed : Accepted p.closings p.carried
  -- the corrections add up to what was taken in and what is carried; none took in more than three tenths of its base,
  -- and a rest is left only where that limit was taken in full
  pub balanced : Balanced p.closings p.carried

-- The calls with their outcomes lead from the empty book to one of which all is promised.
pub record Known (net : Net) (h : History) : Type 0 where
  pub book : Plain
  pub led : Led net h book
  pub promised : Promised net book
