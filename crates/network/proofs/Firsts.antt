-- The first broken of the rules for each place.
use Rattle.std.proofs.Common.{◌≡◌, ℕ, zero, suc, ◌+◌, ◌<◌, ◌≤◌, Some, None, Option, MatchOption, sym, ap, subst, inl, inr, arith}
use Rattle.terms.specs.declared.faults.SourceFault.TheVariants.{BadFigure}
use Rattle.terms.specs.Faults.{source_refusal}
use Rattle.terms.specs.Refusals.{FirstBroken, NoneBroken}
use Rattle.network.specs.Rules.{each, First}

module _ (Bad : ℕ → Type 0) where
  none_from : (i k : ℕ) → ((j : ℕ) → j < k → Bad (i + j) → ⊥) → NoneBroken (each Bad i k)
  none_from i zero h = tt
  none_from i (suc k) h = (
    λ b. h 0 (omega arith) (subst Bad (omega arith) b),
    none_from (i + 1) k (λ j l b. h (suc j) (omega arith) (subst Bad (omega arith) b)),
  )

  first_from : (i k n : ℕ) → n < k → ((j : ℕ) → j < n → Bad (i + j) → ⊥) → Bad (i + n) → FirstBroken (each Bad i k) (source_refusal (BadFigure (i + n)))
  first_from i zero n l h b = absurd (omega arith)
  first_from i (suc k) zero l h b = inl (subst Bad (omega arith) b, ap (λ (x : ℕ). source_refusal (BadFigure x)) (omega arith))
  first_from i (suc k) (suc n) l h b =
      let same : (i + 1) + n ≡ i + suc n = omega arith in
      inr (
        λ c. h 0 (omega arith) (subst Bad (omega arith) c),
        subst (λ (x : ℕ). FirstBroken (each Bad (i + 1) k) (source_refusal (BadFigure x))) same
            (first_from (i + 1) k n (omega arith) (λ j m c. h (suc j) (omega arith) (subst Bad (omega arith) c)) (subst Bad (sym same) b)),
      )

  pub none_bad : (k : ℕ) → First Bad k None → NoneBroken (each Bad 0 k)
  none_bad k h = none_from 0 k (λ j l b. h j l (subst Bad (omega arith) b))

  pub first_bad_lem : (k i : ℕ) → First Bad k (Some i) → FirstBroken (each Bad 0 k) (source_refusal (BadFigure i))
  first_bad_lem k i h =
      subst (λ (x : ℕ). FirstBroken (each Bad 0 k) (source_refusal (BadFigure x))) (omega arith)
      (first_from 0 k i h.0 (λ j m c. h.1.0 j m (subst Bad (omega arith) c)) (subst Bad (omega arith) h.1.1))

-- the first number of a range from 0 that a search found, or none
pub first_below : (Bad : ℕ → Type 0) (n : ℕ) (r : Option ℕ)
    → MatchOption r ((k : ℕ) → 0 ≤ k → k < n → Bad k → ⊥) (λ i. (0 ≤ i) × (i < n) × Bad i × ((k : ℕ) → 0 ≤ k → k < i → Bad k → ⊥))
    → First Bad n r
first_below Bad n None h = λ k l. h k (omega arith) l
first_below Bad n (Some i) h = (h.1, (λ k l. h.3 k (omega arith) l, h.2))
