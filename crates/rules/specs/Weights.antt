-- Weights of points and elements, and what a draw is worked from.
use Rattle.std.specs.Prelude.{ℕ, ◌+◌, ◌*◌, Bool, cond, List, [], ◌∷◌, Some, None, Option, sum_by, ◌==◌}
use Rattle.terms.specs.declared.points.Side.{Side}
use Rattle.terms.specs.declared.points.Side.TheVariants.{Entry, Exit}
use Rattle.terms.specs.declared.points.Kind.{Kind}
use Rattle.terms.specs.declared.points.Kind.TheVariants.{Transmission, Production, Storage, Local, Interconnector}
use Rattle.terms.specs.declared.measures.Lots.{Lots}
use Rattle.terms.specs.Points.{kind_letter}
use Rattle.network.specs.Net.{Net}
use Rattle.pricing.specs.declared.elements.Elements.{Elements}
use Rattle.pricing.specs.Drafts.{Drawing}
use Rattle.pricing.specs.Shares.{Basis, entries_half, exits_half, basis}
use Rattle.rules.specs.Points.{Point, Plain, opposite, on_side}

-- a side's two elements beside storage: the main one is T or L, the other P or I
abbrev pub main_kind : Side → Kind
main_kind Entry = Transmission
main_kind Exit = Local

abbrev pub other_kind : Side → Kind
other_kind Entry = Production
other_kind Exit = Interconnector

-- whether two kinds are one, by their letters
abbrev pub same_kind : Kind → Kind → Bool
same_kind j k = kind_letter j == kind_letter k

-- the sum of a figure over those of one kind
abbrev pub sum_of_kind : {X : Type 0} → (X → Kind) → (X → ℕ) → Kind → List X → ℕ
sum_of_kind kind f k [] = 0
sum_of_kind kind f k (x ∷ xs) = cond (same_kind k (kind x)) (f x) 0 + sum_of_kind kind f k xs

-- the km of a distance; none counts nothing, and no two open points of opposite sides are without
abbrev pub km : Option ℕ → ℕ
km None = 0
km (Some d) = d

-- the sum, over these points, of lots times distance from a station
abbrev pub reach : Net → ℕ → List Point → ℕ
reach net at qs = sum_by (λ q. q.lots * km (net.distance at q.station)) qs

-- A point's weight: its lots times the sum, over the points of the opposite side, of lots times distance.
abbrev pub point_weight : Net → List Point → Point → ℕ
point_weight net points q = q.lots * reach net q.station (on_side (opposite q.side) points)

-- An element's weight: the sum over its points.
abbrev pub weight_of : Net → List Point → Side → Kind → ℕ
weight_of net points s k = sum_of_kind (λ q. q.kind) (λ q. q.lots * reach net q.station (on_side (opposite s) points)) k (on_side s points)

-- an element's lots
abbrev pub lots_in : List Point → Side → Kind → ℕ
lots_in points s k = sum_of_kind (λ q. q.kind) (λ q. q.lots) k (on_side s points)

-- the weights of a side's three elements
abbrev pub weights_of : Net → List Point → Side → Elements ℕ
weights_of net points s = record {
  main = weight_of net points s (main_kind s);
  other = weight_of net points s (other_kind s);
  storage = weight_of net points s Storage;
}

-- and their lots
abbrev pub side_lots : List Point → Side → Elements Lots
side_lots points s = record {
  main = record { 0 = lots_in points s (main_kind s) };
  other = record { 0 = lots_in points s (other_kind s) };
  storage = record { 0 = lots_in points s Storage };
}

-- a side's half of the allowed revenue
abbrev pub half_of : ℕ → Side → ℕ
half_of allowed Entry = entries_half allowed
half_of allowed Exit = exits_half allowed

-- what a side's shares are worked from
abbrev pub basis_of : Net → Plain → Side → Basis
basis_of net p s = basis (half_of p.allowed s) (weights_of net p.points s) (p.relief s)

-- what a draw is worked from
abbrev pub drawing : Net → Plain → Drawing
drawing net p = record {
  allowed = p.allowed;
  entries = basis_of net p Entry;
  entry_lots = side_lots p.points Entry;
  exits = basis_of net p Exit;
  exit_lots = side_lots p.points Exit;
}
