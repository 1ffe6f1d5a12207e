-- Where the record of a point stands, and what a plan of it changes.
use Rattle.std.proofs.Common.{◌≡◌, ℕ, zero, suc, ◌+◌, ◌<◌, ◌≤◌, Bool, true, false, cond, List, [], ◌∷◌, length, get_or, set, Some, sym, refl, ap, ◌∙◌, arith}
use Rattle.std.specs.List.{slice_get, All}
use Rattle.terms.specs.declared.points.Side.{Side}
use Rattle.terms.specs.declared.points.Side.TheVariants.{Entry, Exit}
use Rattle.rules.specs.Points.{Point, with_lots, same_side}
use Rattle.rules.specs.Plain.{planned}
use Rattle.book.specs.declared.record.PointRecord.{PointRecord}
use Rattle.rules.proofs.Sides.{side_is, planned_here, planned_later, planned_past}
use Rattle.book.specs.Records.{record_of, records_from, relotted, blank}

-- the numbers of records are b and more
pub number_from : (b : ℕ) (s : Side) (qs : List Point) (i : ℕ) (d : PointRecord) → i < length (records_from b s qs) → b ≤ (get_or (records_from b s qs) i d).number
number_from b s [] i d l = absurd (omega arith)
number_from b s (q ∷ qs) i d l = by (same_side s q.side) i l (λ j k. number_from (suc b) s qs j d k)
  where
    by : (t : Bool) (j : ℕ) → j < length (cond t (record_of b q ∷ records_from (suc b) s qs) (records_from (suc b) s qs)) → ((k : ℕ) → k < length (records_from (suc b) s qs) → suc b ≤ (get_or (records_from (suc b) s qs) k d).number) → b ≤ (get_or (cond t (record_of b q ∷ records_from (suc b) s qs) (records_from (suc b) s qs)) j d).number
    by true zero m f = omega arith
    by true (suc j) m f = let e = f j (omega arith) in omega arith
    by false j m f = let e = f j m in omega arith

-- a point of this number, and its record
pub record Standing (b n : ℕ) (s : Side) (qs : List Point) (r : PointRecord) : Type 0 where
  pub index : ℕ
  pub point : Point
  pub number : n ≡ b + index
  pub there : slice_get qs index ≡ Some point
  pub side : point.side ≡ s
  pub is : r ≡ record_of n point

later : (b n : ℕ) (s : Side) (q : Point) (qs : List Point) (r : PointRecord) → Standing (suc b) n s qs r → Standing b n s (q ∷ qs) r
later b n s q qs r l = record { index = suc l.index; point = l.point; number = (let e = l.number in omega arith); there = l.there; side = l.side; is = l.is }

pub standing : (b n : ℕ) (s : Side) (qs : List Point) (i : ℕ) → i < length (records_from b s qs) → (get_or (records_from b s qs) i blank).number ≡ n → Standing b n s qs (get_or (records_from b s qs) i blank)
standing b n s [] i l e = absurd (omega arith)
standing b n s (q ∷ qs) i l e = by (same_side s q.side) refl i l e (λ j k f. standing (suc b) n s qs j k f)
  where
    by : (t : Bool) → same_side s q.side ≡ t → (j : ℕ) → j < length (cond t (record_of b q ∷ records_from (suc b) s qs) (records_from (suc b) s qs)) → (get_or (cond t (record_of b q ∷ records_from (suc b) s qs) (records_from (suc b) s qs)) j blank).number ≡ n → ((k : ℕ) → k < length (records_from (suc b) s qs) → (get_or (records_from (suc b) s qs) k blank).number ≡ n → Standing (suc b) n s qs (get_or (records_from (suc b) s qs) k blank)) → Standing b n s (q ∷ qs) (get_or (cond t (record_of b q ∷ records_from (suc b) s qs) (records_from (suc b) s qs)) j blank)
    by true c zero m f rest = record { index = 0; point = q; number = omega arith; there = refl; side = side_is s q.side c; is = ap (λ x. record_of x q) f }
    by true c (suc j) m f rest = later b n s q qs _ (rest j (omega arith) f)
    by false c j m f rest = later b n s q qs _ (rest j m f)

-- a number that no record of either side has is past the points
pub absent : (b n : ℕ) (qs : List Point) → b ≤ n → All (λ r. r.number ≡ n → ⊥) (records_from b Entry qs) → All (λ r. r.number ≡ n → ⊥) (records_from b Exit qs) → b + length qs ≤ n
absent b n [] l e x = omega arith
absent b n (q ∷ qs) l e x = by q.side e x (λ k f g. absent (suc b) n qs k f g)
  where
    by : (t : Side) → All (λ r. r.number ≡ n → ⊥) (cond (same_side Entry t) (record_of b q ∷ records_from (suc b) Entry qs) (records_from (suc b) Entry qs)) → All (λ r. r.number ≡ n → ⊥) (cond (same_side Exit t) (record_of b q ∷ records_from (suc b) Exit qs) (records_from (suc b) Exit qs)) → (suc b ≤ n → All (λ r. r.number ≡ n → ⊥) (records_from (suc b) Entry qs) → All (λ r. r.number ≡ n → ⊥) (records_from (suc b) Exit qs) → suc b + length qs ≤ n) → b + suc (length qs) ≤ n
    by Entry f g rest = let ne = f 0 (record_of b q) (omega arith) in let h = rest (omega arith) (λ k d l. f (suc k) d (omega arith)) g in omega arith
    by Exit f g rest = let ne = g 0 (record_of b q) (omega arith) in let h = rest (omega arith) f (λ k d l. g (suc k) d (omega arith)) in omega arith

-- ---- a plan

module _ (n lots : ℕ) where
  -- the side's records
  pub records_planned : (b : ℕ) (s : Side) (qs : List Point) (i : ℕ) → i < length (records_from b s qs) → (get_or (records_from b s qs) i blank).number ≡ n → set (records_from b s qs) i (relotted (get_or (records_from b s qs) i blank) lots) ≡ records_from b s (planned b n lots qs)
  records_planned b s [] i l e = absurd (omega arith)
  records_planned b s (q ∷ qs) i l e = by (same_side s q.side) refl i l e (λ j k f. records_planned (suc b) s qs j k f)
    where
      by : (t : Bool) → same_side s q.side ≡ t → (j : ℕ) → j < length (cond t (record_of b q ∷ records_from (suc b) s qs) (records_from (suc b) s qs)) → (get_or (cond t (record_of b q ∷ records_from (suc b) s qs) (records_from (suc b) s qs)) j blank).number ≡ n → ((k : ℕ) → k < length (records_from (suc b) s qs) → (get_or (records_from (suc b) s qs) k blank).number ≡ n → set (records_from (suc b) s qs) k (relotted (get_or (records_from (suc b) s qs) k blank) lots) ≡ records_from (suc b) s (planned (suc b) n lots qs)) → set (cond t (record_of b q ∷ records_from (suc b) s qs) (records_from (suc b) s qs)) j (relotted (get_or (cond t (record_of b q ∷ records_from (suc b) s qs) (records_from (suc b) s qs)) j blank) lots) ≡ records_from b s (planned b n lots (q ∷ qs))
      by true c zero m f rest =
          sym (ap (records_from b s) (planned_here n lots b q qs f)
          ∙ ap (λ t. cond t (record_of b (with_lots lots q) ∷ records_from (suc b) s (planned (suc b) n lots qs)) (records_from (suc b) s (planned (suc b) n lots qs))) c
          ∙ ap (λ l'. record_of b (with_lots lots q) ∷ records_from (suc b) s l') (planned_past n lots (suc b) qs (omega arith)))
      by true c (suc j) m f rest =
          let o = number_from (suc b) s qs j blank (omega arith) in
          sym (ap (records_from b s) (planned_later n lots b q qs (omega (arith, o, f)))
          ∙ ap (λ t. cond t (record_of b q ∷ records_from (suc b) s (planned (suc b) n lots qs)) (records_from (suc b) s (planned (suc b) n lots qs))) c
          ∙ ap (λ l'. record_of b q ∷ l') (sym (rest j (omega arith) f)))
      by false c j m f rest =
          let o = number_from (suc b) s qs j blank m in
          sym (ap (records_from b s) (planned_later n lots b q qs (omega (arith, o, f)))
          ∙ ap (λ t. cond t (record_of b q ∷ records_from (suc b) s (planned (suc b) n lots qs)) (records_from (suc b) s (planned (suc b) n lots qs))) c
          ∙ sym (rest j m f))

  -- the other side's records
  pub records_still : (b : ℕ) (u : Side) (qs : List Point) (k : ℕ) (q : Point) → n ≡ b + k → slice_get qs k ≡ Some q → same_side u q.side ≡ false → records_from b u (planned b n lots qs) ≡ records_from b u qs
  records_still b u [] k q e f c = refl
  records_still b u (x ∷ qs) zero q e f c =
      let g : x ≡ q = cc in
      let d : same_side u x.side ≡ false = ap (λ (z : Point). same_side u z.side) g ∙ c in
      ap (records_from b u) (planned_here n lots b x qs (omega arith))
      ∙ ap (λ t. cond t (record_of b (with_lots lots x) ∷ records_from (suc b) u (planned (suc b) n lots qs)) (records_from (suc b) u (planned (suc b) n lots qs))) d
      ∙ ap (records_from (suc b) u) (planned_past n lots (suc b) qs (omega arith))
      ∙ ap (λ t. cond t (record_of b x ∷ records_from (suc b) u qs) (records_from (suc b) u qs)) (sym d)
  records_still b u (x ∷ qs) (suc k) q e f c =
      ap (records_from b u) (planned_later n lots b x qs (omega arith))
      ∙ ap (λ l. cond (same_side u x.side) (record_of b x ∷ l) l) (records_still (suc b) u qs k q (omega arith) f c)
