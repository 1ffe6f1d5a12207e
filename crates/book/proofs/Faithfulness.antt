-- A table shows one list of points.
use Rattle.std.proofs.Common.{◌≡◌, ℕ, suc, ◌<◌, cond, List, [], ◌∷◌, length, get_or, sym, refl, ap, ◌∙◌, arith}
use Rattle.terms.specs.declared.points.Side.{Side}
use Rattle.terms.specs.declared.points.Side.TheVariants.{Entry, Exit}
use Rattle.rules.specs.Points.{Point, same_side}
use Rattle.book.specs.declared.record.PointRecord.{PointRecord}
use Rattle.book.specs.Records.{record_of, records_from, blank}
use Rattle.book.specs.Law.{Faithful}
use Rattle.book.proofs.Places.{number_from}

same_point : (x y : Point) (n : ℕ) → x.side ≡ y.side → record_of n x ≡ record_of n y → x ≡ y
same_point x y n s e =
    let k = ap (λ (r : PointRecord). r.kind) e in
    let t = ap (λ (r : PointRecord). r.station) e in
    let l = ap (λ (r : PointRecord). r.lots.0) e in
    ap (λ z. record { side = z; kind = x.kind; station = x.station; lots = x.lots }) s
    ∙ ap (λ z. record { side = y.side; kind = z; station = x.station; lots = x.lots }) k
    ∙ ap (λ z. record { side = y.side; kind = y.kind; station = z; lots = x.lots }) t
    ∙ ap (λ z. record { side = y.side; kind = y.kind; station = y.station; lots = z }) l

-- no record of later points has the number b
apart : (b : ℕ) (s : Side) (x : Point) (rs : List PointRecord) (ys : List Point) → record_of b x ∷ rs ≡ records_from (suc b) s ys → ⊥
apart b s x rs ys e =
    let l : 0 < length (records_from (suc b) s ys) = let n = ap length e in omega arith in
    let n = number_from (suc b) s ys 0 blank l in
    let m = ap (λ zs. (get_or zs 0 blank).number) e in
    omega arith

not_none : (b : ℕ) (y : Point) (ys : List Point) → [] ≡ records_from b Entry (y ∷ ys) → [] ≡ records_from b Exit (y ∷ ys) → ⊥
not_none b y ys e x = by y.side (ap length e) (ap length x)
  where
    by : (t : Side) → 0 ≡ length (cond (same_side Entry t) (record_of b y ∷ records_from (suc b) Entry ys) (records_from (suc b) Entry ys)) → 0 ≡ length (cond (same_side Exit t) (record_of b y ∷ records_from (suc b) Exit ys) (records_from (suc b) Exit ys)) → ⊥
    by Entry f g = omega arith
    by Exit f g = omega arith

same_points : (b : ℕ) (xs ys : List Point) → records_from b Entry xs ≡ records_from b Entry ys → records_from b Exit xs ≡ records_from b Exit ys → xs ≡ ys
same_points b [] [] e x = refl
same_points b [] (q ∷ ys) e x = absurd (not_none b q ys e x)
same_points b (p ∷ xs) [] e x = absurd (not_none b p xs (sym e) (sym x))
same_points b (p ∷ xs) (q ∷ ys) e x = by p.side q.side refl refl e x (same_points (suc b) xs ys)
  where
    each : p.side ≡ q.side → record_of b p ≡ record_of b q → xs ≡ ys → p ∷ xs ≡ q ∷ ys
    each s r t = ap (λ z. z ∷ xs) (same_point p q b s r) ∙ ap (λ l. q ∷ l) t

    by : (s t : Side) → p.side ≡ s → q.side ≡ t → cond (same_side Entry s) (record_of b p ∷ records_from (suc b) Entry xs) (records_from (suc b) Entry xs) ≡ cond (same_side Entry t) (record_of b q ∷ records_from (suc b) Entry ys) (records_from (suc b) Entry ys) → cond (same_side Exit s) (record_of b p ∷ records_from (suc b) Exit xs) (records_from (suc b) Exit xs) ≡ cond (same_side Exit t) (record_of b q ∷ records_from (suc b) Exit ys) (records_from (suc b) Exit ys) → (records_from (suc b) Entry xs ≡ records_from (suc b) Entry ys → records_from (suc b) Exit xs ≡ records_from (suc b) Exit ys → xs ≡ ys) → p ∷ xs ≡ q ∷ ys
    by Entry Entry f g e₁ x₁ rest = each (f ∙ sym g) (cc) (rest (cc) x₁)
    by Exit Exit f g e₁ x₁ rest = each (f ∙ sym g) (cc) (rest e₁ (cc))
    by Entry Exit f g e₁ x₁ rest = absurd (apart b Entry p _ ys e₁)
    by Exit Entry f g e₁ x₁ rest = absurd (apart b Entry q _ xs (sym e₁))

pub faithful : Faithful
faithful t p q f g = record {
  points = same_points 0 p.points q.points (sym (f.sides Entry).records ∙ (g.sides Entry).records) (sym (f.sides Exit).records ∙ (g.sides Exit).records);
  relief = λ s. sym (f.sides s).relief ∙ (g.sides s).relief;
  allowed = sym f.allowed ∙ g.allowed;
  carried = sym f.carried ∙ g.carried;
}
