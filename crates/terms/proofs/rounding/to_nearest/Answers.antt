use Rattle.std.proofs.Common.{◌≡◌, ℕ, ◌+◌, ◌/◌, ◌%◌, ◌^◌, ◌<◌, ◌≤◌, sym, ap, ◌∙◌, subst, mod-lt, arith, rules}
use Rattle.std.specs.Int.NonZero.{non_zero_u64_get}
use Rattle.terms.specs.Rounding.{carry, nearest, Within, HalfUp}
use Rattle.terms.proofs.Halves.{carried_fits, nearest_le, nearest_within, nearest_half_up}
use Rattle.terms.proofs.rounding.to_nearest.Goals as goal

-- the quotient and what is added to it, where what was divided by is the divisor
sum_is : (n d e k : ℕ) → d ≡ e → k ≡ carry (n / d) (n % d) d → n / d + k ≡ nearest n e
unfolding nearest
sum_is n d e k p h = ap (λ x. n / d + x) h ∙ ap (λ x. n / x + carry (n / x) (n % x) x) p

-- what holds of the nearest whole holds of that sum
of_sum : (Holds : ℕ → Type 0) (n d e k : ℕ) → Holds (nearest n e) → d ≡ e → k ≡ carry (n / d) (n % d) d → Holds (n / d + k)
of_sum Holds n d e k holds p h = subst Holds (sym (sum_is n d e k p h)) holds

pub overflow_add-result : goal.overflow_add-result
overflow_add-result c =
    let fits : c.args.n < 2 ^ 64 = omega arith in
    let sum = carried_fits _ _ _ _ (omega arith) (mod-lt _ (omega arith)) fits c.half_up.ensures in
    omega arith

-- No answer names what was divided by: that it is the divisor is a goal of its own.
pub returns : goal.returns
returns c =
    let n = c.args.n in
    let d = non_zero_u64_get c.args.by in
    let some : 0 < d = search rules in
    record {
      value = sum_is _ _ d _ (grind arith) c.half_up.ensures;
      bound = of_sum (λ q. q ≤ n) _ _ d _ (nearest_le n d some) (grind arith) c.half_up.ensures;
      within = of_sum (Within n d) _ _ d _ (nearest_within n d some) (grind arith) c.half_up.ensures;
      half = of_sum (HalfUp n d) _ _ d _ (nearest_half_up n d some) (grind arith) c.half_up.ensures;
    }
