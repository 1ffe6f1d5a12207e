-- A number is read exactly where the word is its decimal text.
use Rattle.std.proofs.Common.{◌≡◌, ℕ, zero, suc, ◌+◌, ◌-◌, ◌*◌, ◌^◌, ◌<◌, ◌≤◌, Bool, true, false, cond, not, ◌&&◌, eqb, leb, ◌⊎◌, [], ◌∷◌, length, get_or, ℤ, pos, negsuc, Some, None, decimal, Option, sym, refl, ap, ◌∙◌, subst, inl, inr, ⊎_elim, arith, rules}
use Rattle.std.specs.Char.{is_ascii_digit}
use Rattle.std.specs.Str.{all_ascii_digits}
use Rattle.std.proofs.lemmas.Option.{none-some}
use Rattle.std.proofs.lemmas.Fmt.{decimal-digits_value, digits_decimal, digits_value-decimal, length-decimal-le, decimal_nonempty, first_decimal}
use Rattle.std.proofs.lemmas.Str.Parse.{IsNumeralModel, numerals_by_fold, digits_value_short, tells_all_ascii_digits}
use Rattle.std.proofs.lemmas.Bool.{cases_lt, eqb-true, ne_eqb}
use Rattle.std.proofs.lemmas.Bool.Decides.{nat_tests}
use Rattle.lines.specs.Bytes.{Text}
use Rattle.lines.specs.Numbers.{read_on, padded, number_of, with_plus, with_minus, signed_of, Writes, WritesSigned, Reads}
use Rattle.lines.proofs.Digits.{digit_le}

abbrev total_on : ℕ → Text → ℕ
total_on n [] = n
total_on n (c ∷ cs) = total_on (n * 10 + (c - 48)) cs

own : IsNumeralModel (λ ds. all_ascii_digits ds ≡ true) (total_on 0)
own = numerals_by_fold _ tells_all_ascii_digits total_on (search rules)

read_all : (n : ℕ) (cs : Text) → read_on n cs ≡ cond (all_ascii_digits cs) (Some (total_on n cs)) None
read_all n [] = refl
read_all n (c ∷ cs) = go (is_ascii_digit c) refl (read_all (n * 10 + (c - 48)) cs)
  where
    go : (t : Bool) → is_ascii_digit c ≡ t → read_on (n * 10 + (c - 48)) cs ≡ cond (all_ascii_digits cs) (Some (total_on (n * 10 + (c - 48)) cs)) None → read_on n (c ∷ cs) ≡ cond (all_ascii_digits (c ∷ cs)) (Some (total_on n (c ∷ cs))) None
    go true e ih = rw e ih
    go false e ih = rw e

abbrev shapely : Text → Bool
shapely w = leb 1 (length w) && (leb (length w) 9 && not (padded w))

number_is : (w : Text) → number_of w ≡ cond (shapely w) (cond (all_ascii_digits w) (Some (total_on 0 w)) None) None
number_is w = ap (λ r. cond (shapely w) r None) (read_all 0 w)

both : (s d : Bool) (v n : ℕ) → cond s (cond d (Some v) None) None ≡ Some n → (s ≡ true) × (d ≡ true) × (v ≡ n)
both true true v n e = (refl, refl, cc)
both true false v n e = absurd (none-some n e)
both false d v n e = absurd (none-some n e)

written : (w : Text) (n : ℕ) → number_of w ≡ Some n → Writes w n
written w n e =
    let p = both (shapely w) (all_ascii_digits w) (total_on 0 w) n (sym (number_is w) ∙ e) in
    let lo : 1 ≤ length w = grind (arith, nat_tests, p.0) in
    let hi : length w ≤ 9 = grind (arith, nat_tests, p.0) in
    let lead : get_or w 0 0 ≡ 48 → length w ≡ 1 = λ z. grind (arith, nat_tests, p.0) in
    let small : total_on 0 w < 1000000000 = digits_value_short own w 9 p.1 hi in
    record { small = omega (arith, p.2); digits = sym (decimal-digits_value own w p.1 (omega arith) lead (omega arith)) ∙ ap decimal p.2 }

number_decimal : (n : ℕ) → n < 1000000000 → number_of (decimal n) ≡ Some n
number_decimal n few =
    let fits : n < 2 ^ 64 = omega arith in
    let long = length-decimal-le 9 n (omega arith) few fits in
    let some = decimal_nonempty n fits in
    let lead : (length (decimal n) ≤ 1) ⊎ (49 ≤ get_or (decimal n) 0 0) = ⊎_elim (λ more. inr (first_decimal n more fits)) (λ none. inl (length-decimal-le 1 n (omega arith) (omega arith) fits)) (cases_lt 0 n) in
    let shape : shapely (decimal n) ≡ true = grind (arith, nat_tests, lead) in
    number_is (decimal n) ∙ rw (shape, digits_decimal own n fits, digits_value-decimal own n fits)

pub decimal_digits : (n : ℕ) → n < 1000000000 → all_ascii_digits (decimal n) ≡ true
decimal_digits n few = digits_decimal own n (omega arith)

pub decimal_short : (n : ℕ) → n < 1000000000 → length (decimal n) ≤ 9
decimal_short n few = length-decimal-le 9 n (omega arith) few (omega arith)

pub reads : (w : Text) → Reads Writes w (number_of w)
reads w = record { only = written w; all = λ n h. ap number_of h.digits ∙ number_decimal n h.small }

pub reads_is : (w : Text) (r : Option ℕ) → r ≡ number_of w → Reads Writes w r
reads_is w r e = subst (Reads Writes w) (sym e) (reads w)

-- a number begins with a digit, and so with no minus
unsigned : (w : Text) (n : ℕ) → number_of w ≡ Some n → get_or w 0 0 ≡ 45 → ⊥
unsigned [] n e h = absurd (omega arith)
unsigned (b ∷ v) n e h =
    let p = both (shapely (b ∷ v)) (all_ascii_digits (b ∷ v)) (total_on 0 (b ∷ v)) n (sym (number_is (b ∷ v)) ∙ e) in
    let d : is_ascii_digit b ≡ true = grind (arith, p.1) in
    omega (arith, digit_le b d)

minus_suc : (m : ℕ) → with_minus (Some (suc m)) ≡ Some (negsuc m)
minus_suc m = rw (ne_eqb (suc m) 0 (λ e. omega arith))

-- what a minus before digits writes
below_zero : (v : Text) (r : Option ℕ) (z : ℤ) → Reads Writes v r → with_minus r ≡ Some z → WritesSigned (45 ∷ v) z
below_zero v None z h e = absurd (none-some z e)
below_zero v (Some zero) z h e = absurd (none-some z e)
below_zero v (Some (suc m)) z h e =
    let k = h.only (suc m) refl in
    let is : negsuc m ≡ z = cc (minus_suc m) in
    subst (WritesSigned (45 ∷ v)) is (record { small = k.small; digits = ap (λ l. 45 ∷ l) k.digits })

plain : (w : Text) (r : Option ℕ) (z : ℤ) → Reads Writes w r → with_plus r ≡ Some z → WritesSigned w z
plain w None z h e = absurd (none-some z e)
plain w (Some n) z h e =
    let k = h.only n refl in
    let is : pos n ≡ z = cc in
    subst (WritesSigned w) is (record { small = k.small; digits = k.digits })

written_signed : (w : Text) (z : ℤ) → signed_of w ≡ Some z → WritesSigned w z
written_signed [] z e = plain [] (number_of []) z (reads []) e
written_signed (b ∷ v) z e = go (eqb b 45) refl e
  where
    go : (t : Bool) → eqb b 45 ≡ t → signed_of (b ∷ v) ≡ Some z → WritesSigned (b ∷ v) z
    go true p q = subst (λ x. WritesSigned (x ∷ v) z) (sym (eqb-true b 45 p)) (below_zero v (number_of v) z (reads v) (rw p at q))
    go false p q = plain (b ∷ v) (number_of (b ∷ v)) z (reads (b ∷ v)) (rw p at q)

read_signed : (w : Text) (z : ℤ) → WritesSigned w z → signed_of w ≡ Some z
read_signed w (pos n) h =
    let is : number_of w ≡ Some n = (reads w).all n (record { small = h.small; digits = h.digits }) in
    rw (ne_eqb (get_or w 0 0) 45 (unsigned w n is)) (ap with_plus is)
read_signed w (negsuc m) h =
    let is : number_of (decimal (suc m)) ≡ Some (suc m) = (reads (decimal (suc m))).all (suc m) (record { small = h.small; digits = refl }) in
    ap signed_of h.digits ∙ ap with_minus is ∙ minus_suc m

pub reads_signed : (w : Text) → Reads WritesSigned w (signed_of w)
reads_signed w = record { only = written_signed w; all = read_signed w }

pub reads_signed_is : (w : Text) (r : Option ℤ) → r ≡ signed_of w → Reads WritesSigned w r
reads_signed_is w r e = subst (Reads WritesSigned w) (sym e) (reads_signed w)
