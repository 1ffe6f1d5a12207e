-- What a book's table shows of a plain book.
use Rattle.std.specs.Prelude.{◌≡◌, List, take}
use Rattle.terms.specs.declared.points.Side.{Side}
use Rattle.terms.specs.declared.points.Side.TheVariants.{Entry, Exit}
use Rattle.rules.specs.Points.{Plain}
use Rattle.book.specs.declared.record.PointRecord.{PointRecord}
use Rattle.book.specs.declared.row.Row.{Row}
use Rattle.book.specs.declared.table.PointTable.{PointTable}
use Rattle.book.specs.Records.{records_from}

-- the open records of a row
abbrev pub held_in : Row → List PointRecord
held_in row = take row.count row.places

abbrev pub row_of : PointTable → Side → Row
row_of t Entry = t.entries
row_of t Exit = t.exits

-- The open records of a side are those of the plain book's points of that side, in their order and with their numbers.
pub record ShowsSide (row : Row) (p : Plain) (s : Side) : Type 0 where
  pub records : held_in row ≡ records_from 0 s p.points
  pub relief : row.relief.parts ≡ p.relief s

-- The table has the figures of the plain book.
pub record Shows (t : PointTable) (p : Plain) : Type 0 where
  pub sides : (s : Side) → ShowsSide (row_of t s) p s
  pub allowed : t.allowed.dinars.0 ≡ p.allowed
  pub carried : t.carried.amount.0 ≡ p.carried
