-- What checks 4 and 5 say of a station and the records of the opposite side.
use Rattle.std.specs.Prelude.{◌≡◌, ℕ, ◌<◌, List, [], ◌∷◌, None, Result}
use Rattle.std.specs.List.{Any}
use Rattle.terms.specs.declared.faults.BookFault.{BookFault}
use Rattle.terms.specs.declared.faults.BookFault.TheVariants.{NoDistance, TooFar}
use Rattle.terms.specs.Faults.{book_refusal}
use Rattle.terms.specs.Refusals.{Rule, rule}
use Rattle.network.specs.Net.{Net}
use Rattle.pricing.specs.Rules.{Answered}
use Rattle.rules.specs.Limits.{farthest}
use Rattle.rules.specs.Weights.{km}
use Rattle.book.specs.declared.record.PointRecord.{PointRecord}

-- Some record has no distance to the station.
abbrev pub Lacks : Net → ℕ → List PointRecord → Type 0
Lacks net at rs = Any (λ r. net.distance at r.station ≡ None) rs

-- Some record lies too far from the station.
abbrev pub Strays : Net → ℕ → List PointRecord → Type 0
Strays net at rs = Any (λ r. farthest < km (net.distance at r.station)) rs

-- the two rules, in the order of the checks
abbrev pub distance_rules : Net → ℕ → List PointRecord → List Rule
distance_rules net at rs = rule (book_refusal NoDistance) (Lacks net at rs) ∷ (rule (book_refusal TooFar) (Strays net at rs) ∷ [])

-- The records break neither rule, or are refused by the first that they break.
abbrev pub Surveyed : Net → ℕ → List PointRecord → Result (Unit {0}) BookFault → Type 0
Surveyed net at rs r = Answered (distance_rules net at rs) (λ _. Unit {0}) r
