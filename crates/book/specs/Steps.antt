-- What the parts of a call find in a table.
use Rattle.std.specs.Prelude.{ℕ, ◌≤◌, List, Some, None, Option, slice_index_or, slice_set}
use Rattle.terms.specs.declared.points.Side.{Side}
use Rattle.book.specs.declared.record.PointRecord.{PointRecord}
use Rattle.book.specs.declared.table.PointTable.{PointTable}
use Rattle.rules.specs.Limits.{most_lots}
use Rattle.book.specs.Records.{record_lots, relotted, blank, Place}
use Rattle.book.specs.Shows.{held_in, row_of}

-- where the record with this number stands, if on either side
abbrev pub Located : PointTable → ℕ → Option (Side × ℕ) → Type 0
Located t n (Some w) = Place (held_in (row_of t w.0)) n (Some w.1)
Located t n None = (s : Side) → Place (held_in (row_of t s)) n None

-- a side's open records after the one at a place was given other lots
abbrev pub replanned : PointTable → Side → ℕ → ℕ → List PointRecord
replanned t s i lots = slice_set (held_in (row_of t s)) i (relotted (slice_index_or (held_in (row_of t s)) i blank) lots)

-- The record with this number stands there, and its side has room for so many lots.
pub record Plannable (t : PointTable) (n lots : ℕ) (w : Side × ℕ) : Type 0 where
  pub place : Located t n (Some w)
  pub light : record_lots (replanned t w.0 w.1 lots) ≤ most_lots
