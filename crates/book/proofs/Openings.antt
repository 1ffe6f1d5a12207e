-- What the checks of an opening find, and what it leaves.
use Rattle.std.proofs.Common.{◌≡◌, ℕ, zero, suc, ◌+◌, ◌<◌, Bool, true, false, cond, ◌⊎◌, List, [], ◌∷◌, ◌++◌, length, get_or, None, Ok, Err, Result, sym, refl, ap, ◌∙◌, subst, inl, inr, arith}
use mathlib.Core.List.Memᴰ
use mathlib.Core.List.{Memᴰ}
use Rattle.std.proofs.lemmas.List.{append-nil}
use Rattle.std.specs.List.{Any}
use Rattle.std.proofs.lemmas.Bool.{false≢true}
use Rattle.terms.specs.declared.points.Side.{Side}
use Rattle.terms.specs.declared.points.Side.TheVariants.{Entry, Exit}
use Rattle.terms.specs.declared.points.Kind.{Kind}
use Rattle.terms.specs.declared.faults.BookFault.{BookFault}
use Rattle.terms.specs.declared.faults.BookFault.TheVariants.{NoDistance, TooFar}
use Rattle.terms.specs.Faults.{book_refusal}
use Rattle.terms.specs.Refusals.{rule, FirstBroken}
use Rattle.terms.specs.Points.{of_side}
use Rattle.network.specs.Net.{Net}
use Rattle.rules.specs.declared.calls.Call.TheVariants.{Open}
use Rattle.rules.specs.Limits.{most_points, farthest}
use Rattle.rules.specs.Points.{Point, new_point, Plain, same_side, opposite}
use Rattle.rules.specs.Weights.{km}
use Rattle.rules.specs.Plain.{Opposite, Unreached, Faraway, after}
use Rattle.rules.proofs.Sides.{side_is}
use Rattle.book.specs.declared.record.PointRecord.{PointRecord}
use Rattle.book.specs.declared.row.Row.{Row}
use Rattle.book.specs.declared.table.PointTable.{PointTable}
use Rattle.book.specs.Records.{record_with, record_of, records_from}
use Rattle.book.specs.Shows.{held_in, row_of, Shows}
use Rattle.book.specs.Rows.{with_row}
use Rattle.book.specs.Passes.{distance_rules, Surveyed}
use Rattle.book.specs.Follows.{Checked}
use Rattle.book.proofs.Records.{records_push}
use Rattle.book.proofs.Showing.{side_count, shows_points}

side_test : (s t : Side) → t ≡ s → same_side s t ≡ true
side_test Entry Entry e = refl
side_test Entry Exit e = cc
side_test Exit Entry e = cc
side_test Exit Exit e = refl

-- where P holds of the station of a record of a side, it holds of that of a point of the side
any_point : (P : ℕ → Type 0) (b : ℕ) (s : Side) (qs : List Point) → Any (λ r. P r.station) (records_from b s qs) → (q : Point) × Memᴰ q qs × (q.side ≡ s) × P q.station
any_point P b s [] a = absurd (let l = a.2 in omega arith)
any_point P b s (x ∷ qs) a = by (same_side s x.side) refl a.0 a.1 a.2 a.3 a.4 (any_point P (suc b) s qs)
  where
    later : (q : Point) × Memᴰ q qs × (q.side ≡ s) × P q.station → (q : Point) × Memᴰ q (x ∷ qs) × (q.side ≡ s) × P q.station
    later f = (f.0, Memᴰ.tail f.1, f.2, f.3)

    by : (t : Bool) → same_side s x.side ≡ t → (k : ℕ) (r : PointRecord) → k < length (cond t (record_of b x ∷ records_from (suc b) s qs) (records_from (suc b) s qs)) → get_or (cond t (record_of b x ∷ records_from (suc b) s qs) (records_from (suc b) s qs)) k r ≡ r → P r.station → (Any (λ r. P r.station) (records_from (suc b) s qs) → (q : Point) × Memᴰ q qs × (q.side ≡ s) × P q.station) → (q : Point) × Memᴰ q (x ∷ qs) × (q.side ≡ s) × P q.station
    by true c zero r l e h rest = (x, Memᴰ.head refl, side_is s x.side c, subst P (ap (λ (z : PointRecord). z.station) (sym e)) h)
    by true c (suc k) r l e h rest = later (rest (k, r, omega arith, e, h))
    by false c k r l e h rest = later (rest (k, r, l, e, h))

-- and the other way round
any_record : (P : ℕ → Type 0) (b : ℕ) (s : Side) (qs : List Point) (q : Point) → Memᴰ q qs → q.side ≡ s → P q.station → Any (λ r. P r.station) (records_from b s qs)
any_record P b s [] q m e h = absurd (Memᴰ.not-nil m)
any_record P b s (x ∷ qs) q m e h = by (same_side s x.side) refl (Memᴰ.cases_cons m) (any_record P (suc b) s qs q)
  where
    by : (t : Bool) → same_side s x.side ≡ t → (q ≡ x) ⊎ Memᴰ q qs → (Memᴰ q qs → q.side ≡ s → P q.station → Any (λ r. P r.station) (records_from (suc b) s qs)) → Any (λ r. P r.station) (cond t (record_of b x ∷ records_from (suc b) s qs) (records_from (suc b) s qs))
    by true c (inl i) rest = (0, record_of b x, omega arith, refl, subst P (ap (λ (z : Point). z.station) i) h)
    by true c (inr k) rest = let a = rest k e h in (suc a.0, a.1, (let l = a.2 in omega arith), a.3, a.4)
    by false c (inl i) rest = absurd (false≢true (sym c ∙ side_test s x.side (ap (λ (z : Point). z.side) (sym i) ∙ e)))
    by false c (inr k) rest = rest k e h

module _ (t : PointTable) (p : Plain) (sh : Shows t p) (s : Side) (P : ℕ → Type 0) where
  found : Any (λ r. P r.station) (held_in (row_of t (opposite s))) → Opposite p.points s P
  found a = any_point P 0 (opposite s) p.points (subst (Any (λ r. P r.station)) (sh.sides (opposite s)).records a)

  recorded : Opposite p.points s P → Any (λ r. P r.station) (held_in (row_of t (opposite s)))
  recorded u = subst (Any (λ r. P r.station)) (sym (sh.sides (opposite s)).records) (any_record P 0 (opposite s) p.points u.0 u.1 u.2 u.3)

module _ (net : Net) (t : PointTable) (s : Side) (k : Kind) (at : ℕ) (fits : of_side s k ≡ true) where
  pub kind_kept : of_side s k ≡ false → ⊥
  kind_kept n = false≢true (sym n ∙ fits)

  module _ (room : length (held_in (row_of t s)) < most_points s) (there : at < net.stations) where
    abbrev Lacking : ℕ → Type 0
    Lacking n = net.distance at n ≡ None

    abbrev Straying : ℕ → Type 0
    Straying n = farthest < km (net.distance at n)

    -- checks 4 and 5, where 1 to 3 find nothing
    pub checked_survey : (r : Result (Unit {0}) BookFault) → Surveyed net at (held_in (row_of t (opposite s))) r → Checked net t (Open s k at) r
    checked_survey (Ok x) v = λ p sh.
        let n = side_count t p sh s in
        (kind_kept, ((λ h. omega arith), ((λ h. omega arith), ((λ u. v.0.0 (recorded t p sh s Lacking u)), ((λ u. v.0.1.0 (recorded t p sh s Straying u)), tt)))))
    checked_survey (Err f) v = λ p sh.
        let n = side_count t p sh s in
        inr (kind_kept, inr ((λ h. omega arith), inr ((λ h. omega arith), told p sh v)))
      where
        told : (p : Plain) → Shows t p → FirstBroken (distance_rules net at (held_in (row_of t (opposite s)))) (book_refusal f) → FirstBroken (rule (book_refusal NoDistance) (Unreached net p.points s at) ∷ (rule (book_refusal TooFar) (Faraway net p.points s at) ∷ [])) (book_refusal f)
        told p sh (inl a) = inl (found t p sh s Lacking a.0, a.1)
        told p sh (inr (n, inl a)) = inr ((λ u. n (recorded t p sh s Lacking u)), inl (found t p sh s Straying a.0, a.1))
        told p sh (inr (n, inr z)) = absurd z.1

-- ---- the point more

own_new : (m : ℕ) (s : Side) (k : Kind) (at : ℕ) → records_from m s (new_point s k at ∷ []) ≡ record_with m k at 0 ∷ []
own_new m Entry k at = refl
own_new m Exit k at = refl

other_new : (m : ℕ) (s : Side) (k : Kind) (at : ℕ) → records_from m (opposite s) (new_point s k at ∷ []) ≡ []
other_new m Entry k at = refl
other_new m Exit k at = refl

pub shows_opened : (t : PointTable) (row : Row) (p : Plain) (s : Side) (k : Kind) (at n : ℕ) → n ≡ length p.points → held_in row ≡ held_in (row_of t s) ++ (record_with n k at 0 ∷ []) → row.relief ≡ (row_of t s).relief → Shows t p → Shows (with_row t s row) (after p (Open s k at))
shows_opened t row p s k at n e h r sh =
    shows_points t s row p (p.points ++ (new_point s k at ∷ []))
    (h
    ∙ ap (λ rs. rs ++ (record_with n k at 0 ∷ [])) (sh.sides s).records
    ∙ ap (λ m. records_from 0 s p.points ++ (record_with m k at 0 ∷ [])) (let z : n ≡ 0 + length p.points = omega arith in z)
    ∙ ap (λ rs. records_from 0 s p.points ++ rs) (sym (own_new (0 + length p.points) s k at))
    ∙ sym (records_push 0 s p.points (new_point s k at)))
    r
    (sym (append-nil (records_from 0 (opposite s) p.points))
    ∙ ap (λ rs. records_from 0 (opposite s) p.points ++ rs) (sym (other_new (0 + length p.points) s k at))
    ∙ sym (records_push 0 (opposite s) p.points (new_point s k at)))
    sh
