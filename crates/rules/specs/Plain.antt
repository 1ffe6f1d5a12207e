-- The rules of a book: what each call is held against, what it answers and what it leaves, on the plain book.
use Rattle.std.specs.Prelude.{◌≡◌, ℕ, suc, ◌<◌, ◌≤◌, false, cond, List, [], ◌∷◌, ◌++◌, length, Some, None, Ok, Err, Result, ◌==◌}
use mathlib.Core.List.{Memᴰ}
use Rattle.std.specs.List.{slice_get}
use Rattle.terms.specs.declared.points.Side.{Side}
use Rattle.terms.specs.declared.faults.BookFault.{BookFault}
use Rattle.terms.specs.declared.faults.BookFault.TheVariants.{KindNotOfSide, SideFull, NoStation, NoDistance, TooFar, NoPoint, TooManyLots, ReliefTooHigh}
use Rattle.terms.specs.Faults.{book_refusal}
use Rattle.terms.specs.Points.{of_side}
use Rattle.terms.specs.Refusals.{Rule, rule, FirstBroken, NoneBroken}
use Rattle.network.specs.Net.{Net}
use Rattle.revenue.specs.declared.figures.Closing.{Closing}
use Rattle.revenue.specs.Checks.{close_rules}
use Rattle.revenue.specs.Closings.{closing_of}
use Rattle.pricing.specs.Drafts.{draw_rules, figures_of}
use Rattle.rules.specs.declared.calls.Call.{Call}
use Rattle.rules.specs.declared.calls.Call.TheVariants.{Open, Plan, Relieve, Close, Draw}
use Rattle.rules.specs.declared.calls.Answer.{Answer}
use Rattle.rules.specs.declared.calls.Answer.TheVariants.{Opened, Done, Closed, Drawn}
use Rattle.rules.specs.Limits.{most_points, most_lots, farthest, whole_relief}
use Rattle.rules.specs.Points.{Point, new_point, with_lots, Plain, same_side, opposite, on_side, lots_of}
use Rattle.rules.specs.Weights.{km, drawing}

-- what a call comes back with
abbrev pub Outcome : Type 0
Outcome = Result Answer BookFault

-- Some open point of the opposite side stands at a station of which this is true.
abbrev pub Opposite : List Point → Side → (ℕ → Type 0) → Type 0
Opposite points s P = (q : Point) × Memᴰ q points × (q.side ≡ opposite s) × P q.station

-- Some open point of the opposite side has no distance to the station.
abbrev pub Unreached : Net → List Point → Side → ℕ → Type 0
Unreached net points s at = Opposite points s (λ n. net.distance at n ≡ None)

-- Some open point of the opposite side lies too far from the station.
abbrev pub Faraway : Net → List Point → Side → ℕ → Type 0
Faraway net points s at = Opposite points s (λ n. farthest < km (net.distance at n))

-- these points, numbered from b on, after the one numbered n was given other lots
abbrev pub planned : ℕ → ℕ → ℕ → List Point → List Point
planned b n lots [] = []
planned b n lots (q ∷ qs) = cond (b == n) (with_lots lots q) q ∷ planned (suc b) n lots qs

-- The side of point n would have too many lots.
abbrev pub Overplanned : List Point → ℕ → ℕ → Type 0
Overplanned points n lots =
    (q : Point) × (slice_get points n ≡ Some q) × (most_lots < lots_of (on_side q.side (planned 0 n lots points)))

-- the rules that a call is held against, in the order of the checks
abbrev pub checks : Net → Plain → Call → List Rule
checks net p (Open s k at) =
    rule (book_refusal KindNotOfSide) (of_side s k ≡ false)
    ∷ (rule (book_refusal SideFull) (most_points s ≤ length (on_side s p.points))
    ∷ (rule (book_refusal NoStation) (net.stations ≤ at)
    ∷ (rule (book_refusal NoDistance) (Unreached net p.points s at)
    ∷ (rule (book_refusal TooFar) (Faraway net p.points s at) ∷ []))))
checks net p (Plan n lots) =
    rule (book_refusal NoPoint) (length p.points ≤ n) ∷ (rule (book_refusal TooManyLots) (Overplanned p.points n lots.0) ∷ [])
checks net p (Relieve s parts) = rule (book_refusal ReliefTooHigh) (whole_relief < parts) ∷ []
checks net p (Close f) = close_rules p.carried f
checks net p Draw = draw_rules (drawing net p)

-- What an accepted call answers: an opening the point's number, counted from 0 over both sides.
abbrev pub answered : Net → Plain → Call → Answer
answered net p (Open s k at) = Opened (length p.points)
answered net p (Plan n lots) = Done
answered net p (Relieve s parts) = Done
answered net p (Close f) = Closed (closing_of p.carried f)
answered net p Draw = Drawn (figures_of (drawing net p))

-- the book with other points
abbrev pub with_points : Plain → List Point → Plain
with_points p points = record { points = points; relief = p.relief; allowed = p.allowed; carried = p.carried; closings = p.closings }

-- the book with the relief of a side set
abbrev pub with_relief : Plain → Side → ℕ → Plain
with_relief p s parts = record {
  points = p.points;
  relief = λ t. cond (same_side s t) parts (p.relief t);
  allowed = p.allowed;
  carried = p.carried;
  closings = p.closings;
}

-- the book after a closing
abbrev pub with_closing : Plain → Closing → Plain
with_closing p c = record {
  points = p.points;
  relief = p.relief;
  allowed = c.allowed.0;
  carried = c.rest.0;
  closings = p.closings ++ (c ∷ []);
}

-- What an accepted call leaves. A draw changes nothing.
abbrev pub after : Plain → Call → Plain
after p (Open s k at) = with_points p (p.points ++ (new_point s k at ∷ []))
after p (Plan n lots) = with_points p (planned 0 n lots.0 p.points)
after p (Relieve s parts) = with_relief p s parts
after p (Close f) = with_closing p (closing_of p.carried f)
after p Draw = p

-- A call on a plain book comes back with an outcome, and the book is then as the last says: where a rule is broken,
-- with the refusal of the first broken one, and nothing changes.
pub data Handles (net : Net) (p : Plain) (c : Call) : Outcome → Plain → Type 0 where
  refused : {f : BookFault} → FirstBroken (checks net p c) (book_refusal f) → Handles net p c (Err f) p
  accepted : NoneBroken (checks net p c) → Handles net p c (Ok (answered net p c)) (after p c)
