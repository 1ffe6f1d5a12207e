-- The laws of division to the nearest whole. What callers use of `nearest` is here.
use Rattle.std.proofs.Common.{◌≡◌, ℕ, ◌+◌, ◌*◌, ◌/◌, ◌%◌, ◌^◌, ◌<◌, ◌≤◌, ltb, ap, inl, inr, mul-le-mul_right, mod-lt, mul-le-mul_left, div-le_self, arith}
use native.Mathlib.Nat.{div-add-mod}
use Rattle.std.proofs.lemmas.Bool.{cond_both, ltb-true, ltb-false, cases_order, cases_lt}
use Rattle.terms.specs.Rounding.{carry, nearest, Within, HalfUp}

-- what a rule for halves has to give: nothing is added below the half, 1 above it, and never more than 1
pub record Carries (r d c : ℕ) : Type 0 where
  pub few : c ≤ 1
  pub down : 2 * r < d → c ≡ 0
  pub up : d < 2 * r → c ≡ 1

pub carries : (q r d : ℕ) → Carries r d (carry q r d)
unfolding carry
carries q r d =
    cond_both (ltb (2 * r) d) 0 1 (Carries r d)
    (λ e. let h : 2 * r < d = ltb-true _ _ e in record { few = omega arith; down = λ _. omega arith; up = λ k. omega arith })
    (λ e. let h : d ≤ 2 * r = ltb-false _ _ e in record { few = omega arith; down = λ k. omega arith; up = λ _. omega arith })

-- the rule in force sends a half up
carry_half : (q r d : ℕ) → 2 * r ≡ d → carry q r d ≡ 1
unfolding carry
carry_half q r d e = grind arith

-- a quotient with such a carry lies within half
within : (n d q r c : ℕ) → d * q + r ≡ n → Carries r d c → r < d → Within n d (q + c)
within n d q r c e k m =
    let one : c * d ≤ 1 * d = mul-le-mul_right d k.few in
    elim (cases_order (2 * r) d) [
      | inl h ↦ record { high = omega arith; low = omega arith }
      | inr (inl h) ↦ let z : c * d ≡ 0 * d = ap (λ x. x * d) (k.down h) in record { high = omega arith; low = omega arith }
      | inr (inr h) ↦ let z : c * d ≡ 1 * d = ap (λ x. x * d) (k.up h) in record { high = omega arith; low = omega arith }
    ]

pub nearest_within : (n d : ℕ) → 0 < d → Within n d (nearest n d)
unfolding nearest
nearest_within n d h =
    within n d (n / d) (n % d) (carry (n / d) (n % d) d) (div-add-mod n d) (carries (n / d) (n % d) d) (mod-lt n h)

-- where n / d is a whole and a half, the whole above it is taken
up_at_half : (n d q r c : ℕ) → d * q + r ≡ n → r < d → c ≤ 1 → (2 * r ≡ d → c ≡ 1) → 2 * n ≡ 2 * ((q + c) * d) + d → ⊥
up_at_half n d q r c e m few half t =
    elim (cases_lt c 1) [
      | inl h ↦
          let none : c ≡ 0 = omega arith in
          let z : c * d ≡ 0 * d = ap (λ x. x * d) none in
          let one : c ≡ 1 = half (omega arith) in
          omega arith
      | inr h ↦
          let one : c ≡ 1 = omega arith in
          let z : c * d ≡ 1 * d = ap (λ x. x * d) one in
          omega arith
    ]

pub nearest_half_up : (n d : ℕ) → 0 < d → HalfUp n d (nearest n d)
unfolding nearest
nearest_half_up n d h =
    record {
      within = nearest_within n d h;
      tie = up_at_half n d (n / d) (n % d) (carry (n / d) (n % d) d) (div-add-mod n d) (mod-lt n h) (carries (n / d) (n % d) d).few (carry_half (n / d) (n % d) d);
    }

-- the carry makes the quotient no larger than the dividend
carried_le : (n d c : ℕ) → 0 < d → Carries (n % d) d c → n / d + c ≤ n
carried_le n d c h k =
    elim (cases_lt (2 * (n % d)) d) [
      | inl l ↦ omega (arith, k.down l, div-le_self n d)
      | inr g ↦ let m : n / d * 1 ≤ n / d * d = mul-le-mul_left (n / d) h in omega (arith, k.few, div-add-mod n d)
    ]

pub nearest_le : (n d : ℕ) → 0 < d → nearest n d ≤ n
unfolding nearest
nearest_le n d h = carried_le n d (carry (n / d) (n % d) d) h (carries (n / d) (n % d) d)

-- a quotient of 64 bits with a carry has 64 bits, whatever the remainder was
pub carried_fits : (n d r c : ℕ) → 0 < d → r < d → n < 2 ^ 64 → c ≡ carry (n / d) r d → n / d + c < 2 ^ 64
carried_fits n d r c h k fits e =
    let s = carries (n / d) r d in
    elim (cases_lt 1 d) [
      | inl l ↦ let m : n / d * 2 ≤ n / d * d = mul-le-mul_left (n / d) l in omega (arith, s.few, div-add-mod n d)
      | inr g ↦ let z : carry (n / d) r d ≡ 0 = s.down (omega arith) in omega (arith, div-le_self n d)
    ]
