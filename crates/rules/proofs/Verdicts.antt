-- Every call has an outcome: each rule is broken or not, and that can be told.
use Rattle.std.proofs.Common.{◌≡◌, ℕ, ◌<◌, ◌≤◌, Bool, true, false, ◌⊎◌, List, [], ◌∷◌, ℤ, ◌<ℤ◌, Some, None, Ok, Err, Option, sym, refl, ap, ◌∙◌, subst, inl, inr, arith}
use mathlib.Core.List.Memᴰ
use lib.Signed.{lt_z}
use Rattle.std.specs.List.{slice_get}
use Rattle.std.proofs.lemmas.Bool.{cases_lt, cases_eq, true≢false}
use Rattle.std.proofs.lemmas.Int.{ints}
use Rattle.terms.specs.declared.points.Side.{Side}
use Rattle.terms.specs.declared.points.Side.TheVariants.{Entry, Exit}
use Rattle.terms.specs.declared.faults.ClosingFigure.TheVariants.{Operating, Depreciation, Assets, Rate, Delivered, Loss, GasPrice, NonStandard, OtherRevenue, Justified, Realised, Index}
use Rattle.terms.specs.declared.faults.BookFault.{BookFault}
use Rattle.terms.specs.declared.faults.BookFault.TheVariants.{KindNotOfSide, SideFull, NoStation, NoDistance, TooFar, NoPoint, TooManyLots, ReliefTooHigh, OutOfRange, BaseBelowZero, CarriedTooLarge, AllowedTooLarge, NoEntryShares, NoExitShares}
use Rattle.terms.specs.Faults.{book_refusal}
use Rattle.terms.specs.Points.{of_side}
use Rattle.terms.specs.Refusals.{Rule, rule, FirstBroken, NoneBroken}
use Rattle.network.specs.Net.{Net}
use Rattle.revenue.specs.Limits.{least_index, most_index}
use Rattle.rules.specs.declared.calls.Call.{Call}
use Rattle.rules.specs.declared.calls.Call.TheVariants.{Open, Plan, Relieve, Close, Draw}
use Rattle.rules.specs.Limits.{most_lots, farthest}
use Rattle.rules.specs.Points.{Point, Plain, opposite, on_side, lots_of}
use Rattle.rules.specs.Weights.{km}
use Rattle.rules.specs.Plain.{Opposite, Overplanned, planned, checks, answered, after, refused, accepted}
use Rattle.rules.specs.Laws.{Total}

abbrev Decided : Type 0 → Type 0
Decided A = A ⊎ (A → ⊥)

decide_lt : (a b : ℕ) → Decided (a < b)
decide_lt a b = elim (cases_lt a b) [ inl l ↦ inl l | inr l ↦ inr (λ h. omega arith) ]

decide_le : (a b : ℕ) → Decided (a ≤ b)
decide_le a b = elim (cases_lt b a) [ inl l ↦ inr (λ h. omega arith) | inr l ↦ inl l ]

decide_false : (t : Bool) → Decided (t ≡ false)
decide_false true = inr true≢false
decide_false false = inl refl

decide_none : (o : Option ℕ) → Decided (o ≡ None)
decide_none None = inl refl
decide_none (Some d) = inr (λ e. let z : ◌≡◌ {A = ℕ} 0 1 = cc in omega arith)

decide_side : (s t : Side) → Decided (s ≡ t)
decide_side Entry Entry = inl refl
decide_side Entry Exit = inr (λ e. let z : ◌≡◌ {A = ℕ} 0 1 = cc in omega arith)
decide_side Exit Entry = inr (λ e. let z : ◌≡◌ {A = ℕ} 0 1 = cc in omega arith)
decide_side Exit Exit = inl refl

decide_index : (x : ℤ) → Decided ((x <ℤ least_index) ⊎ (most_index <ℤ x))
decide_index x = by (lt_z x least_index) (lt_z most_index x) refl refl
  where
    neither : lt_z x least_index ≡ false → lt_z most_index x ≡ false → (x <ℤ least_index) ⊎ (most_index <ℤ x) → ⊥
    neither a b (inl h) = grind (arith, ints)
    neither a b (inr h) = grind (arith, ints)

    by : (t u : Bool) → lt_z x least_index ≡ t → lt_z most_index x ≡ u → Decided ((x <ℤ least_index) ⊎ (most_index <ℤ x))
    by true u a b = inl (inl (grind (arith, ints)))
    by false true a b = inl (inr (grind (arith, ints)))
    by false false a b = inr (neither a b)

-- whether some open point of the opposite side is as told is told point by point
module _ (s : Side) (P : ℕ → Type 0) (decide : (n : ℕ) → Decided (P n)) where
  none_more :
      (q : Point) (qs : List Point) → (q.side ≡ opposite s → P q.station → ⊥) → (Opposite qs s P → ⊥) → Opposite (q ∷ qs) s P → ⊥
  none_more q qs here rest u =
      elim (Memᴰ.cases_cons u.1) [
        | inl e ↦ here (ap (λ (z : Point). z.side) (sym e) ∙ u.2) (subst (λ (z : Point). P z.station) e u.3)
        | inr m ↦ rest (u.0, m, u.2, u.3)
      ]

  decide_opposite : (qs : List Point) → Decided (Opposite qs s P)
  decide_opposite [] = inr (λ u. Memᴰ.not-nil u.1)
  decide_opposite (q ∷ qs) = by (decide_side q.side (opposite s)) (decide q.station) (decide_opposite qs)
    where
      by : Decided (q.side ≡ opposite s) → Decided (P q.station) → Decided (Opposite qs s P) → Decided (Opposite (q ∷ qs) s P)
      by side here (inl u) = inl (u.0, Memᴰ.tail u.1, u.2, u.3)
      by (inl e) (inl h) (inr r) = inl (q, Memᴰ.head refl, e, h)
      by (inl e) (inr n) (inr r) = inr (none_more q qs (λ _ h. n h) r)
      by (inr n) here (inr r) = inr (none_more q qs (λ e _. n e) r)

decide_overplanned : (points : List Point) (n lots : ℕ) → Decided (Overplanned points n lots)
decide_overplanned points n lots = by (slice_get points n) refl
  where
    same : (q x : Point) → slice_get points n ≡ Some q → slice_get points n ≡ Some x → x ≡ q
    same q x a b = cc

    unlike : (x : Point) → slice_get points n ≡ None → slice_get points n ≡ Some x → ⊥
    unlike x a b = let z : ◌≡◌ {A = ℕ} 0 1 = cc in omega arith

    by : (o : Option Point) → slice_get points n ≡ o → Decided (Overplanned points n lots)
    by None e = inr (λ v. unlike v.0 e v.1)
    by (Some q) e =
        elim (decide_lt most_lots (lots_of (on_side q.side (planned 0 n lots points)))) [
          | inl h ↦ inl (q, e, h)
          | inr h ↦ inr (λ v. h (subst (λ (z : Point). most_lots < lots_of (on_side z.side (planned 0 n lots points))) (same q v.0 e v.1) v.2))
        ]

-- rules that can be told, each with its fault
data Told : List Rule → Type 1 where
  none_left : Told []
  next : {B : Type 0} {rs : List Rule} (f : BookFault) → Decided B → Told rs → Told (rule (book_refusal f) B ∷ rs)

abbrev Verdict : List Rule → Type 0
Verdict rs = ((f : BookFault) × FirstBroken rs (book_refusal f)) ⊎ NoneBroken rs

verdict : (rs : List Rule) → Told rs → Verdict rs
verdict rs none_left = inr tt
verdict rs (next {B} {rs = qs} f d r) = by d (verdict qs r)
  where
    by : Decided B → Verdict qs → Verdict (rule (book_refusal f) B ∷ qs)
    by (inl b) v = inl (f, inl (b, refl))
    by (inr n) (inl v) = inl (v.0, inr (n, v.1))
    by (inr n) (inr v) = inr (n, v)

told : (net : Net) (p : Plain) (c : Call) → Told (checks net p c)
told net p (Open s k at) =
    next KindNotOfSide (decide_false (of_side s k))
    (next SideFull (decide_le _ _)
    (next NoStation (decide_le _ _)
    (next NoDistance (decide_opposite s (λ n. net.distance at n ≡ None) (λ n. decide_none (net.distance at n)) p.points)
    (next TooFar (decide_opposite s (λ n. farthest < km (net.distance at n)) (λ n. decide_lt _ _) p.points) none_left))))
told net p (Plan n lots) = next NoPoint (decide_le _ _) (next TooManyLots (decide_overplanned p.points n lots.0) none_left)
told net p (Relieve s parts) = next ReliefTooHigh (decide_lt _ _) none_left
told net p (Close f) =
    next (OutOfRange Operating) (decide_lt _ _)
    (next (OutOfRange Depreciation) (decide_lt _ _)
    (next (OutOfRange Assets) (decide_lt _ _)
    (next (OutOfRange Rate) (decide_lt _ _)
    (next (OutOfRange Delivered) (decide_lt _ _)
    (next (OutOfRange Loss) (decide_lt _ _)
    (next (OutOfRange GasPrice) (decide_lt _ _)
    (next (OutOfRange NonStandard) (decide_lt _ _)
    (next (OutOfRange OtherRevenue) (decide_lt _ _)
    (next (OutOfRange Justified) (decide_lt _ _)
    (next (OutOfRange Realised) (decide_lt _ _)
    (next (OutOfRange Index) (decide_index f.index.0)
    (next BaseBelowZero (decide_lt _ _)
    (next CarriedTooLarge (decide_lt _ _)
    (next AllowedTooLarge (decide_lt _ _) none_left))))))))))))))
told net p Draw = next NoEntryShares (cases_eq _ _) (next NoExitShares (cases_eq _ _) none_left)

pub total : Total
total net p c =
    elim (verdict (checks net p c) (told net p c)) [
      | inl v ↦ (Err v.0, p, refused v.1)
      | inr n ↦ (Ok (answered net p c), after p c, accepted n)
    ]
