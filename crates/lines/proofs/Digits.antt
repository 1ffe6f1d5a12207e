-- One digit more.
use Rattle.std.proofs.Common.{◌≡◌, ℕ, ◌+◌, ◌-◌, ◌*◌, ◌^◌, ◌<◌, ◌≤◌, true, length, get_or, drop, ◌∙◌, arith, pow-add}
use native.Mathlib.Nat.{pow-le-pow_right}
use Rattle.std.specs.Char.{is_ascii_digit}
use Rattle.std.proofs.lemmas.List.{at_drop_more}
use Rattle.std.proofs.lemmas.Bool.Decides.{nat_tests}
use Rattle.lines.specs.Bytes.{Text}
use Rattle.lines.specs.Numbers.{read_on}

pub read_digit : (n : ℕ) (w : Text) (i : ℕ) → i < length w → is_ascii_digit (get_or w i 0) ≡ true → read_on n (drop i w) ≡ read_on (n * 10 + (get_or w i 0 - 48)) (drop (i + 1) w)
read_digit n w i lt e = at_drop_more (read_on n) w i 0 lt ∙ rw e

-- one digit more stays below the power of ten
pub below_ten : (n d i : ℕ) → n < 10 ^ i → d ≤ 9 → i < 9 → (n * 10 + d < 10 ^ (i + 1)) × (n * 10 + d < 1000000000)
below_ten n d i h k lt =
    let p = pow-add 10 i 1 in
    let q = pow-le-pow_right {n = 10} (omega arith) {i = i + 1} {j = 9} (omega arith) in
    let r : n * 10 + d < 10 ^ (i + 1) = omega arith in
    (r, omega arith)

pub digit_le : (c : ℕ) → is_ascii_digit c ≡ true → (48 ≤ c) × (c ≤ 57)
digit_le c e = (grind (arith, nat_tests), grind (arith, nat_tests))
