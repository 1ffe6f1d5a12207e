-- What a plan finds in a table, and what it leaves.
use Rattle.std.proofs.Common.{◌≡◌, ℕ, ◌+◌, ◌-◌, ◌<◌, ◌≤◌, false, List, length, get_or, set, Some, None, sym, refl, ap, ◌∙◌, subst, arith}
use Rattle.std.specs.List.{slice_get, All}
use Rattle.std.proofs.lemmas.Option.{slice_get_within}
use Rattle.std.proofs.lemmas.List.Sums.{sum_by-set, get_or-le-sum_by}
use Rattle.terms.specs.declared.points.Side.{Side}
use Rattle.terms.specs.declared.points.Side.TheVariants.{Entry, Exit}
use Rattle.terms.specs.declared.measures.Lots.{Lots}
use Rattle.rules.specs.declared.calls.Call.TheVariants.{Plan}
use Rattle.rules.specs.Limits.{most_lots}
use Rattle.rules.specs.Points.{Point, Plain, same_side, opposite, on_side, lots_of}
use Rattle.rules.specs.Plain.{planned, Overplanned, after}
use Rattle.book.specs.declared.record.PointRecord.{PointRecord}
use Rattle.book.specs.declared.row.Row.{Row}
use Rattle.book.specs.declared.table.PointTable.{PointTable}
use Rattle.book.specs.Records.{record_with, record_of, records_from, record_lots, relotted, blank, Place}
use Rattle.book.specs.Shows.{held_in, row_of, Shows}
use Rattle.book.specs.Rows.{with_row}
use Rattle.book.specs.Steps.{Located, replanned}
use Rattle.book.proofs.Records.{lots_records}
use Rattle.book.proofs.Places.{Standing, standing, absent, records_planned, records_still}
use Rattle.book.proofs.Showing.{shows_points}

other_side_lem : (s : Side) → same_side (opposite s) s ≡ false
other_side_lem Entry = refl
other_side_lem Exit = refl

-- the side's lots after a plan, from its row, the row's records and their lots before
pub lots_replanned : (t : PointTable) (s : Side) (i lots total : ℕ) (row : Row) (rs : List PointRecord) → i < length (held_in (row_of t s)) → row ≡ row_of t s → rs ≡ held_in row → total ≡ record_lots (held_in row) → record_lots (replanned t s i lots) ≡ (total - (get_or rs i blank).lots.0) + lots
lots_replanned t s i lots total row rs l r h k =
    let e = sum_by-set (λ (r : PointRecord). r.lots.0) (held_in (row_of t s)) i (relotted (get_or (held_in (row_of t s)) i blank) lots) blank l in
    let a = get_or-le-sum_by (λ r. r.lots.0) (held_in (row_of t s)) i blank l in
    let o = ap (λ xs. (get_or xs i blank).lots.0) (h ∙ ap held_in r) in
    let m = k ∙ ap (λ x. record_lots (held_in x)) r in
    omega arith

-- the record at its place, part by part
pub recorded : (t : PointTable) (s : Side) (i n : ℕ) → Place (held_in (row_of t s)) n (Some i) → (r : PointRecord) → r ≡ get_or (held_in (row_of t s)) i blank → get_or (held_in (row_of t s)) i blank ≡ record_with n r.kind r.station r.lots.0
recorded t s i n place r e =
    sym e ∙ ap (λ m. record_with m r.kind r.station r.lots.0) (ap (λ (x : PointRecord). x.number) e ∙ place.1)

module _ (t : PointTable) (p : Plain) (sh : Shows t p) where
  -- no such point
  pub past : (n : ℕ) → Located t n None → length p.points ≤ n
  past n l =
      let a = absent 0 n p.points (omega arith)
      (subst (All (λ r. r.number ≡ n → ⊥)) (sh.sides Entry).records (l Entry))
      (subst (All (λ r. r.number ≡ n → ⊥)) (sh.sides Exit).records (l Exit)) in
      omega arith

  module _ (s : Side) (i n : ℕ) (place : Place (held_in (row_of t s)) n (Some i)) where
    abbrev within : i < length (records_from 0 s p.points)
    within = subst (λ rs. i < length rs) (sh.sides s).records place.0

    abbrev numbered : (get_or (records_from 0 s p.points) i blank).number ≡ n
    numbered = subst (λ rs. (get_or rs i blank).number ≡ n) (sh.sides s).records place.1

    pub stands : Standing 0 n s p.points (get_or (records_from 0 s p.points) i blank)
    stands = standing 0 n s p.points i within numbered

    pub found_point : slice_get p.points n ≡ Some stands.point
    found_point = let e = stands.number in ap (slice_get p.points) (omega arith) ∙ stands.there

    pub found_record : get_or (held_in (row_of t s)) i blank ≡ record_of n stands.point
    found_record = ap (λ rs. get_or rs i blank) (sh.sides s).records ∙ stands.is

    pub known : length p.points ≤ n → ⊥
    known l = let h = slice_get_within p.points n stands.point found_point in omega arith

    module _ (lots : Lots) where
      replanned_is : replanned t s i lots.0 ≡ records_from 0 s (planned 0 n lots.0 p.points)
      replanned_is =
          ap (λ rs. set rs i (relotted (get_or rs i blank) lots.0)) (sh.sides s).records
          ∙ records_planned n lots.0 0 s p.points i within numbered

      replanned_lots : record_lots (replanned t s i lots.0) ≡ lots_of (on_side s (planned 0 n lots.0 p.points))
      replanned_lots = ap record_lots replanned_is ∙ lots_records 0 s (planned 0 n lots.0 p.points)

      pub overplanned : most_lots < record_lots (replanned t s i lots.0) → Overplanned p.points n lots.0
      overplanned l = (stands.point, found_point, subst (λ u. most_lots < lots_of (on_side u (planned 0 n lots.0 p.points))) (sym stands.side) (subst (λ k. most_lots < k) replanned_lots l))

      pub not_overplanned : record_lots (replanned t s i lots.0) ≤ most_lots → Overplanned p.points n lots.0 → ⊥
      not_overplanned l v =
          let same : v.0 ≡ stands.point = (let a = v.1 in let b = found_point in cc) in
          let w = subst (λ u. most_lots < lots_of (on_side u (planned 0 n lots.0 p.points))) (ap (λ (z : Point). z.side) same ∙ stands.side) v.2 in
          let k = replanned_lots in
          omega arith

      pub shows_planned : (row : Row) → held_in row ≡ replanned t s i lots.0 → row.relief ≡ (row_of t s).relief → Shows (with_row t s row) (after p (Plan n lots))
      shows_planned row h r =
          shows_points t s row p (planned 0 n lots.0 p.points) (h ∙ replanned_is) r
          (sym (records_still n lots.0 0 (opposite s) p.points stands.index stands.point stands.number stands.there (ap (same_side (opposite s)) stands.side ∙ other_side_lem s))) sh

    -- what a getter sees of it
    pub seen_point : (r : PointRecord) → r ≡ get_or (held_in (row_of t s)) i blank → Some (record { side = s; kind = r.kind; station = r.station; lots = r.lots.0 }) ≡ slice_get p.points n
    seen_point r e =
        let k = e ∙ found_record in
        ap (λ (x : PointRecord). Some (record { side = s; kind = x.kind; station = x.station; lots = x.lots.0 })) k
        ∙ ap (λ u. Some (record { side = u; kind = stands.point.kind; station = stands.point.station; lots = stands.point.lots })) (sym stands.side)
        ∙ sym found_point
