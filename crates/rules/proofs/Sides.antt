-- The points of a side, after an opening and after a plan.
use Rattle.std.proofs.Common.{◌≡◌, ℕ, zero, suc, ◌+◌, ◌<◌, Bool, true, false, cond, not, eqb, ◌⊎◌, List, [], ◌∷◌, ◌++◌, length, Some, sym, refl, ap, ◌∙◌, subst, inl, inr, arith}
use mathlib.Core.List.Memᴰ
use mathlib.Core.List.{Memᴰ}
use Rattle.std.specs.List.{slice_get}
use Rattle.std.proofs.lemmas.List.Filters.{sum_by-filter_both}
use Rattle.std.proofs.lemmas.Bool.{eq-eqb, ne_eqb, cond-false, cond_both}
use Rattle.terms.specs.declared.points.Side.{Side}
use Rattle.terms.specs.declared.points.Side.TheVariants.{Entry, Exit}
use Rattle.rules.specs.Points.{Point, with_lots, same_side, on_side, lots_of}
use Rattle.rules.specs.Plain.{planned}

pub side_is : (s t : Side) → same_side s t ≡ true → t ≡ s
side_is Entry Entry e = refl
side_is Entry Exit e = cc
side_is Exit Entry e = cc
side_is Exit Exit e = refl

-- ---- one point more

pub mem_push : {X : Type 0} (q : X) (xs : List X) (x : X) → Memᴰ q (xs ++ (x ∷ [])) → Memᴰ q xs ⊎ (q ≡ x)
mem_push q [] x m = elim (Memᴰ.cases_cons m) [ inl e ↦ inr e | inr k ↦ inl k ]
mem_push q (y ∷ xs) x m =
    elim (Memᴰ.cases_cons m) [
      | inl e ↦ inl (Memᴰ.head e)
      | inr k ↦ elim (mem_push q xs x k) [ inl l ↦ inl (Memᴰ.tail l) | inr e ↦ inr e ]
    ]

-- ---- other lots at one point

pub nth_there : (qs : List Point) (n : ℕ) → n < length qs → (q : Point) × (slice_get qs n ≡ Some q)
nth_there [] n l = absurd (omega arith)
nth_there (q ∷ qs) zero l = (q, refl)
nth_there (q ∷ qs) (suc n) l = nth_there qs n (omega arith)

module _ (n lots : ℕ) where
  planned_if :
      (b : ℕ) (q : Point) (qs : List Point) (t : Bool) → eqb b n ≡ t →
      planned b n lots (q ∷ qs) ≡ cond t (with_lots lots q) q ∷ planned (suc b) n lots qs
  planned_if b q qs t e = ap (λ z. cond z (with_lots lots q) q ∷ planned (suc b) n lots qs) e

  pub planned_here : (b : ℕ) (q : Point) (qs : List Point) → b ≡ n → planned b n lots (q ∷ qs) ≡ with_lots lots q ∷ planned (suc b) n lots qs
  planned_here b q qs e = planned_if b q qs true (eq-eqb b n e)

  pub planned_later : (b : ℕ) (q : Point) (qs : List Point) → b < n → planned b n lots (q ∷ qs) ≡ q ∷ planned (suc b) n lots qs
  planned_later b q qs l = planned_if b q qs false (ne_eqb b n (λ e. omega arith))

  pub planned_past : (b : ℕ) (qs : List Point) → n < b → planned b n lots qs ≡ qs
  planned_past b [] l = refl
  planned_past b (q ∷ qs) l =
      planned_if b q qs false (ne_eqb b n (λ e. omega arith)) ∙ ap (λ rest. q ∷ rest) (planned_past (suc b) qs (omega arith))

  -- a side keeps its number of points
  length_more : (t : Bool) (y q : Point) (xs ys : List Point) → length xs ≡ length ys → length (cond t (y ∷ xs) xs) ≡ length (cond t (q ∷ ys) ys)
  length_more true y q xs ys e = ap suc e
  length_more false y q xs ys e = e

  pub planned_length : (b : ℕ) (s : Side) (qs : List Point) → length (on_side s (planned b n lots qs)) ≡ length (on_side s qs)
  planned_length b s [] = refl
  planned_length b s (q ∷ qs) =
      let rest = planned_length (suc b) s qs in
      cond_both (eqb b n) (with_lots lots q) q (λ y. length (on_side s (y ∷ planned (suc b) n lots qs)) ≡ length (on_side s (q ∷ qs)))
      (λ _. length_more (same_side s q.side) (with_lots lots q) q _ _ rest) (λ _. length_more (same_side s q.side) q q _ _ rest)

  -- a plan leaves the points of the other side
  pub planned_other :
      (b : ℕ) (s : Side) (qs : List Point) (k : ℕ) (q : Point) → n ≡ b + k → slice_get qs k ≡ Some q → same_side s q.side ≡ false →
      on_side s (planned b n lots qs) ≡ on_side s qs
  planned_other b s [] k q e f c = refl
  planned_other b s (x ∷ qs) zero q e f c =
      let is : x ≡ q = cc in
      let off : same_side s x.side ≡ false = ap (λ (z : Point). same_side s z.side) is ∙ c in
      ap (on_side s) (planned_here b x qs (omega arith) ∙ ap (λ l. with_lots lots x ∷ l) (planned_past (suc b) qs (omega arith)))
      ∙ cond-false (same_side s x.side) (with_lots lots x ∷ on_side s qs) (on_side s qs) off
      ∙ sym (cond-false (same_side s x.side) (x ∷ on_side s qs) (on_side s qs) off)
  planned_other b s (x ∷ qs) (suc k) q e f c =
      ap (on_side s) (planned_later b x qs (omega arith))
      ∙ ap (λ l. cond (same_side s x.side) (x ∷ l) l) (planned_other (suc b) s qs k q (omega arith) f c)

-- a point but for its lots is among these
pub record Stood (q : Point) (qs : List Point) : Type 0 where
  pub point : Point
  pub there : Memᴰ point qs
  pub side : q.side ≡ point.side
  pub kind : q.kind ≡ point.kind
  pub station : q.station ≡ point.station

stood_first : (t : Bool) (lots : ℕ) (y : Point) (qs : List Point) → Stood (cond t (with_lots lots y) y) (y ∷ qs)
stood_first true lots y qs = record { point = y; there = Memᴰ.head refl; side = refl; kind = refl; station = refl }
stood_first false lots y qs = record { point = y; there = Memᴰ.head refl; side = refl; kind = refl; station = refl }

stood_later : (q y : Point) (qs : List Point) → Stood q qs → Stood q (y ∷ qs)
stood_later q y qs s = record { point = s.point; there = Memᴰ.tail s.there; side = s.side; kind = s.kind; station = s.station }

pub mem_planned : (b n lots : ℕ) (qs : List Point) (q : Point) → Memᴰ q (planned b n lots qs) → Stood q qs
mem_planned b n lots [] q m = absurd (Memᴰ.not-nil m)
mem_planned b n lots (y ∷ qs) q m =
    elim (Memᴰ.cases_cons m) [
      | inl e ↦ subst (λ z. Stood z (y ∷ qs)) (sym e) (stood_first (eqb b n) lots y qs)
      | inr k ↦ stood_later q y qs (mem_planned (suc b) n lots qs q k)
    ]

-- ---- the points of a side, and those of both

pub mem_side : (s : Side) (qs : List Point) (q : Point) → Memᴰ q (on_side s qs) → Memᴰ q qs × (q.side ≡ s)
mem_side s [] q m = absurd (Memᴰ.not-nil m)
mem_side s (y ∷ qs) q m =
    cond_both (same_side s y.side) (y ∷ on_side s qs) (on_side s qs) (λ l. Memᴰ q l → Memᴰ q (y ∷ qs) × (q.side ≡ s))
    (λ c k.
    elim (Memᴰ.cases_cons k) [
      | inl e ↦ (Memᴰ.head e, ap (λ (z : Point). z.side) e ∙ side_is s y.side c)
      | inr l ↦ let r = mem_side s qs q l in (Memᴰ.tail r.0, r.1)
    ])
    (λ c k. let r = mem_side s qs q k in (Memᴰ.tail r.0, r.1))
    m

other_side : (q : Point) → same_side Exit q.side ≡ not (same_side Entry q.side)
other_side q = elim q.side as (λ s. same_side Exit s ≡ not (same_side Entry s)) [ Entry ↦ refl | Exit ↦ refl ]

pub sides_lots : (qs : List Point) → lots_of (on_side Entry qs) + lots_of (on_side Exit qs) ≡ lots_of qs
sides_lots = sum_by-filter_both _ _ other_side (λ q. q.lots)
