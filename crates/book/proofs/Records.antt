-- The records of a row, and how they follow the points of a plain book.
use Rattle.std.proofs.Common.{◌≡◌, ℕ, suc, ◌+◌, Bool, true, false, cond, List, [], ◌∷◌, ◌++◌, length, refl, ap, ◌∙◌, arith}
use Rattle.std.proofs.lemmas.List.Sums.{sum_by-cons}
use Rattle.terms.specs.declared.points.Side.{Side}
use Rattle.terms.specs.declared.points.Side.TheVariants.{Entry, Exit}
use Rattle.rules.specs.Points.{Point, same_side, on_side, lots_of}
use Rattle.book.specs.declared.record.PointRecord.{PointRecord}
use Rattle.book.specs.Records.{record_of, records_from, record_lots}

pub length_records : (b : ℕ) (s : Side) (qs : List Point) → length (records_from b s qs) ≡ length (on_side s qs)
length_records b s [] = refl
length_records b s (q ∷ qs) = by (same_side s q.side) (length_records (suc b) s qs)
  where
    by : (t : Bool) → length (records_from (suc b) s qs) ≡ length (on_side s qs) → length (cond t (record_of b q ∷ records_from (suc b) s qs) (records_from (suc b) s qs)) ≡ length (cond t (q ∷ on_side s qs) (on_side s qs))
    by true e = ap suc e
    by false e = e

pub length_both : (b : ℕ) (qs : List Point) → length (records_from b Entry qs) + length (records_from b Exit qs) ≡ length qs
length_both b [] = refl
length_both b (q ∷ qs) = by q.side (length_both (suc b) qs)
  where
    by : (t : Side) → length (records_from (suc b) Entry qs) + length (records_from (suc b) Exit qs) ≡ length qs → length (cond (same_side Entry t) (record_of b q ∷ records_from (suc b) Entry qs) (records_from (suc b) Entry qs)) + length (cond (same_side Exit t) (record_of b q ∷ records_from (suc b) Exit qs) (records_from (suc b) Exit qs)) ≡ suc (length qs)
    by Entry e = omega arith
    by Exit e = omega arith

pub lots_records : (b : ℕ) (s : Side) (qs : List Point) → record_lots (records_from b s qs) ≡ lots_of (on_side s qs)
lots_records b s [] = refl
lots_records b s (q ∷ qs) = by (same_side s q.side) (lots_records (suc b) s qs)
  where
    by : (t : Bool) → record_lots (records_from (suc b) s qs) ≡ lots_of (on_side s qs) → record_lots (cond t (record_of b q ∷ records_from (suc b) s qs) (records_from (suc b) s qs)) ≡ lots_of (cond t (q ∷ on_side s qs) (on_side s qs))
    by true e = omega (arith, sum_by-cons (λ (r : PointRecord). r.lots.0) (record_of b q) (records_from (suc b) s qs), sum_by-cons (λ (z : Point). z.lots) q (on_side s qs), e)
    by false e = e

-- a point more
pub records_push : (b : ℕ) (s : Side) (qs : List Point) (q : Point) → records_from b s (qs ++ (q ∷ [])) ≡ records_from b s qs ++ records_from (b + length qs) s (q ∷ [])
records_push b s [] q = ap (λ n. records_from n s (q ∷ [])) (omega arith)
records_push b s (x ∷ qs) q = by (same_side s x.side) (records_push (suc b) s qs q ∙ ap (λ n. records_from (suc b) s qs ++ records_from n s (q ∷ [])) (omega arith))
  where
    by : (t : Bool) → records_from (suc b) s (qs ++ (q ∷ [])) ≡ records_from (suc b) s qs ++ records_from (b + suc (length qs)) s (q ∷ []) → cond t (record_of b x ∷ records_from (suc b) s (qs ++ (q ∷ []))) (records_from (suc b) s (qs ++ (q ∷ []))) ≡ cond t (record_of b x ∷ records_from (suc b) s qs) (records_from (suc b) s qs) ++ records_from (b + suc (length qs)) s (q ∷ [])
    by true e = ap (λ rs. record_of b x ∷ rs) e
    by false e = e
