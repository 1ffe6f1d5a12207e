-- A table's row of one side, lent to be changed.
use Rattle.std.specs.Borrow.{Lends, MutBor, Fml}
use Rattle.terms.specs.declared.points.Side.{Side}
use Rattle.terms.specs.declared.points.Side.TheVariants.{Entry, Exit}
use Rattle.book.specs.declared.row.Row.{Row}
use Rattle.book.specs.declared.table.PointTable.{PointTable}
use Rattle.book.specs.contracts.row.Row as row
use Rattle.book.specs.contracts.table.PointTable as table

-- the table with this row on that side
abbrev pub with_row : PointTable → Side → Row → PointTable
with_row t Entry r = record t { entries = r }
with_row t Exit r = record t { exits = r }

-- The table ends with what the borrower leaves in the row, and is else as it was.
abbrev pub LendsRow : MutBor PointTable → Side → MutBor Row → Fml
LendsRow t s r = Lends table.the_row row.the_row t r (with_row t.now s)
