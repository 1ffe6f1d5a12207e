-- The figures of a book, as they are read from its table.
use Rattle.std.specs.Prelude.{◌≡◌, ℕ, Some, None, Option, slice_index_or}
use Rattle.rules.specs.Points.{Plain}
use Rattle.rules.specs.Points as plain
use Rattle.book.specs.declared.table.PointTable.{PointTable}
use Rattle.book.specs.declared.reading.Point.{Point}
use Rattle.book.specs.Records.{record_with, blank, Place}
use Rattle.book.specs.Shows.{held_in, row_of, Shows}
use Rattle.book.specs.Steps.{Located}

-- This is so of every plain book that the table shows.
abbrev pub Sees : PointTable → (Plain → Type 0) → Type 0
Sees t P = (p : Plain) → Shows t p → P p

-- a point as the plain book has it
abbrev pub seen_point : Option Point → Option plain.Point
seen_point None = None
seen_point (Some q) = Some (record { side = q.side; kind = q.kind; station = q.station; lots = q.lots.0 })

-- The point is that of the record with this number; there is none where no record has it.
abbrev pub Recorded : PointTable → ℕ → Option Point → Type 0
Recorded t n None = Located t n None
Recorded t n (Some q) =
    (i : ℕ) × Place (held_in (row_of t q.side)) n (Some i) × (slice_index_or (held_in (row_of t q.side)) i blank ≡ record_with n q.kind q.station q.lots.0)
