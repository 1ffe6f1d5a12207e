-- The numbers that words write.
use Rattle.std.specs.Prelude.{◌≡◌, ℕ, ◌+◌, ◌-◌, ◌*◌, ◌<◌, Bool, cond, not, ◌&&◌, [], ◌∷◌, length, drop, ℤ, pos, neg_ℤ, Some, None, decimal, Option, ◌==◌, nat_le, nat_lt, slice_index, unsigned_abs}
use Rattle.std.specs.Char.{is_ascii_digit}
use Rattle.std.specs.Fmt.{signed_decimal}
use Rattle.lines.specs.Bytes.{Text, minus_sign, zero_digit}
use Rattle.lines.specs.Limits.{most_digits, ten_digits}

-- the number that digits write after those of n
abbrev pub read_on : ℕ → Text → Option ℕ
read_on n [] = Some n
read_on n (c ∷ cs) = cond (is_ascii_digit c) (read_on (n * 10 + (c - zero_digit)) cs) None

-- a 0 stands in front of other digits
abbrev pub padded : Text → Bool
padded w = nat_lt 1 (length w) && slice_index w 0 == zero_digit

-- A number is 0, or one to nine digits with no 0 in front.
abbrev pub number_of : Text → Option ℕ
number_of w = cond (nat_le 1 (length w) && (nat_le (length w) most_digits && not (padded w))) (read_on 0 w) None

abbrev pub with_plus : Option ℕ → Option ℤ
with_plus None = None
with_plus (Some n) = Some (pos n)

-- there is no -0
abbrev pub with_minus : Option ℕ → Option ℤ
with_minus None = None
with_minus (Some n) = cond (n == 0) None (Some (neg_ℤ (pos n)))

-- A signed number is a number, or a minus directly before a number above 0.
abbrev pub signed_of : Text → Option ℤ
signed_of w = cond (slice_index w 0 == minus_sign) (with_minus (number_of (drop 1 w))) (with_plus (number_of w))

-- The word is n in decimal, and n has at most nine digits.
pub record Writes (w : Text) (n : ℕ) : Type 0 where
  pub small : n < ten_digits
  pub digits : w ≡ decimal n

-- The word is z in decimal, with a minus in front where z is below 0, and z has at most nine digits.
pub record WritesSigned (w : Text) (z : ℤ) : Type 0 where
  pub small : unsigned_abs z < ten_digits
  pub digits : w ≡ signed_decimal z

-- What is read from the word is x exactly where the word writes x, so nothing is read where it writes nothing.
pub record Reads {X : Type 0} (writes : Text → X → Type 0) (w : Text) (r : Option X) : Type 0 where
  pub only : (x : X) → r ≡ Some x → writes w x
  pub all : (x : X) → writes w x → r ≡ Some x
