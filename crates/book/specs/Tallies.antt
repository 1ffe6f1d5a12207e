-- Sums over a side's records, by element.
use Rattle.std.specs.Prelude.{ℕ, ◌+◌, ◌*◌, ◌≤◌, cond, List, sum_by}
use Rattle.terms.specs.declared.points.Side.{Side}
use Rattle.terms.specs.declared.points.Kind.{Kind}
use Rattle.terms.specs.declared.points.Kind.TheVariants.{Storage}
use Rattle.terms.specs.declared.measures.Lots.{Lots}
use Rattle.network.specs.Limits.{longest}
use Rattle.network.specs.Net.{Net}
use Rattle.pricing.specs.declared.elements.Elements.{Elements}
use Rattle.rules.specs.Limits.{most_lots}
use Rattle.rules.specs.Weights.{main_kind, other_kind, same_kind, sum_of_kind, km}
use Rattle.book.specs.declared.record.PointRecord.{PointRecord}

abbrev pub no_weights : Elements ℕ
no_weights = record { main = 0; other = 0; storage = 0 }

-- one figure more, for the element of this side and kind
abbrev pub plus : Side → Kind → Elements ℕ → ℕ → Elements ℕ
plus s k w n = record {
  main = w.main + cond (same_kind (main_kind s) k) n 0;
  other = w.other + cond (same_kind (other_kind s) k) n 0;
  storage = w.storage + cond (same_kind Storage k) n 0;
}

-- two figures for each element, added up
abbrev pub both : Elements ℕ → Elements ℕ → Elements ℕ
both a b = record { main = a.main + b.main; other = a.other + b.other; storage = a.storage + b.storage }

-- the sum of a figure over the records of each element
abbrev pub tally : Side → (PointRecord → ℕ) → List PointRecord → Elements ℕ
tally s f rs = record {
  main = sum_of_kind (λ r. r.kind) f (main_kind s) rs;
  other = sum_of_kind (λ r. r.kind) f (other_kind s) rs;
  storage = sum_of_kind (λ r. r.kind) f Storage rs;
}

-- the lots of a side's elements
abbrev pub record_side_lots : Side → List PointRecord → Elements Lots
record_side_lots s rs = record {
  main = record { 0 = (tally s (λ r. r.lots.0) rs).main };
  other = record { 0 = (tally s (λ r. r.lots.0) rs).other };
  storage = record { 0 = (tally s (λ r. r.lots.0) rs).storage };
}

-- lots times distance from a station
abbrev pub record_load : Net → ℕ → PointRecord → ℕ
record_load net at r = r.lots.0 * km (net.distance at r.station)

-- the sum, over these records, of lots times distance from a station
abbrev pub record_reach : Net → ℕ → List PointRecord → ℕ
record_reach net at rs = sum_by (record_load net at) rs

-- the weights of a side's elements, against the records of the other side
abbrev pub record_weights : Net → Side → List PointRecord → List PointRecord → Elements ℕ
record_weights net s own other = tally s (λ r. r.lots.0 * record_reach net r.station other) own

-- what a record adds to the weight of another one, opposite to it
abbrev pub brought : Net → PointRecord → PointRecord → ℕ
brought net e x = e.lots.0 * record_load net e.station x

-- no figure is above this
pub record Within (w : Elements ℕ) (most : ℕ) : Type 0 where
  pub main : w.main ≤ most
  pub other : w.other ≤ most
  pub storage : w.storage ≤ most

-- the reach of a station where all lots of a side are at the longest distance
abbrev pub most_reach : ℕ
most_reach = longest * most_lots

-- the weight of a side where all lots of both sides are at the longest distance
abbrev pub heaviest : ℕ
heaviest = most_reach * most_lots
