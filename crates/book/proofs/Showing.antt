-- What a table shows, before and after a change.
use Rattle.std.proofs.Common.{◌≡◌, ◌+◌, List, length, refl, ap, ◌∙◌, arith}
use Rattle.terms.specs.declared.points.Side.{Side}
use Rattle.terms.specs.declared.points.Side.TheVariants.{Entry, Exit}
use Rattle.pricing.specs.declared.relief.Relief.{Relief}
use Rattle.rules.specs.Points.{Point, Plain, opposite, on_side, lots_of}
use Rattle.rules.specs.Plain.{with_points}
use Rattle.book.specs.declared.row.Row.{Row}
use Rattle.book.specs.declared.table.PointTable.{PointTable}
use Rattle.book.specs.Records.{records_from, record_lots}
use Rattle.book.specs.Shows.{held_in, row_of, ShowsSide, Shows}
use Rattle.book.specs.Rows.{with_row}
use Rattle.book.proofs.Records.{length_records, length_both, lots_records}

module _ (t : PointTable) (p : Plain) (sh : Shows t p) where
  pub side_count : (s : Side) → length (held_in (row_of t s)) ≡ length (on_side s p.points)
  side_count s = ap length (sh.sides s).records ∙ length_records 0 s p.points

  pub side_lots : (s : Side) → record_lots (held_in (row_of t s)) ≡ lots_of (on_side s p.points)
  side_lots s = ap record_lots (sh.sides s).records ∙ lots_records 0 s p.points

  pub point_count : length (held_in t.entries) + length (held_in t.exits) ≡ length p.points
  point_count =
      let e = ap length (sh.sides Entry).records in
      let x = ap length (sh.sides Exit).records in
      let b = length_both 0 p.points in
      omega arith

-- A table with another row on one side shows what has the other side, the allowed revenue and the carried amount in common.
pub shows_with : (t : PointTable) (s : Side) (row : Row) (p p' : Plain) → ShowsSide row p' s → ShowsSide (row_of t (opposite s)) p' (opposite s) → p.allowed ≡ p'.allowed → p.carried ≡ p'.carried → Shows t p → Shows (with_row t s row) p'
shows_with t Entry row p p' own other a c sh = record { sides = elim [ Entry ↦ own | Exit ↦ other ]; allowed = sh.allowed ∙ a; carried = sh.carried ∙ c }
shows_with t Exit row p p' own other a c sh = record { sides = elim [ Entry ↦ other | Exit ↦ own ]; allowed = sh.allowed ∙ a; carried = sh.carried ∙ c }

-- other points, where one side's records are others and the other side's stay
pub shows_points : (t : PointTable) (s : Side) (row : Row) (p : Plain) (qs : List Point) → held_in row ≡ records_from 0 s qs → row.relief ≡ (row_of t s).relief → records_from 0 (opposite s) p.points ≡ records_from 0 (opposite s) qs → Shows t p → Shows (with_row t s row) (with_points p qs)
shows_points t s row p qs h r o sh =
    shows_with t s row p (with_points p qs)
    (record { records = h; relief = ap (λ (x : Relief). x.parts) r ∙ (sh.sides s).relief })
    (record { records = (sh.sides (opposite s)).records ∙ o; relief = (sh.sides (opposite s)).relief })
    refl refl sh
