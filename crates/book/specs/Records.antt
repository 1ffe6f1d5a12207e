-- The records of a side's points, as a book's table holds them.
use Rattle.std.specs.Prelude.{◌≡◌, ℕ, suc, ◌<◌, cond, List, [], ◌∷◌, length, Some, None, Option, ◌≢◌, slice_index_or, sum_by}
use Rattle.std.specs.List.{All}
use Rattle.terms.specs.declared.points.Side.{Side}
use Rattle.terms.specs.declared.points.Kind.{Kind}
use Rattle.terms.specs.declared.points.Kind.TheVariants.{Transmission}
use Rattle.rules.specs.Points.{Point, same_side}
use Rattle.book.specs.declared.record.PointRecord.{PointRecord}

-- every record is built here
abbrev pub record_with : ℕ → Kind → ℕ → ℕ → PointRecord
record_with number kind station lots = record { number = number; kind = kind; station = station; lots = record { 0 = lots } }

-- the record of point n
abbrev pub record_of : ℕ → Point → PointRecord
record_of n q = record_with n q.kind q.station q.lots

-- the record with other lots
abbrev pub relotted : PointRecord → ℕ → PointRecord
relotted r lots = record_with r.number r.kind r.station lots

-- what stands past the open records
abbrev pub blank : PointRecord
blank = record_with 0 Transmission 0 0

-- the records of one side's points, in their order, where the points are numbered from b on
abbrev pub records_from : ℕ → Side → List Point → List PointRecord
records_from b s [] = []
records_from b s (q ∷ qs) = cond (same_side s q.side) (record_of b q ∷ records_from (suc b) s qs) (records_from (suc b) s qs)

-- the lots of records
abbrev pub record_lots : List PointRecord → ℕ
record_lots rs = sum_by (λ r. r.lots.0) rs

-- where the record with this number stands, if anywhere
abbrev pub Place : List PointRecord → ℕ → Option ℕ → Type 0
Place rs n (Some i) = (i < length rs) × ((slice_index_or rs i blank).number ≡ n)
Place rs n None = All (λ r. r.number ≢ n) rs
