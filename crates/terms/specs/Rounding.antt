-- Division to the nearest whole.
use Rattle.std.specs.Prelude.{◌≡◌, ℕ, suc, ◌+◌, ◌*◌, ◌/◌, ◌%◌, ◌≤◌, cond, ℤ, pos, negsuc, neg_ℤ, nat_lt}

-- What the remainder r of a division by d adds to the quotient q: a remainder of half of d or more adds 1, so a half goes up.
-- Another rule for halves is another definition here.
unfoldable pub carry : ℕ → ℕ → ℕ → ℕ
carry q r d = cond (nat_lt (2 * r) d) 0 1

-- n / d to the nearest whole
unfoldable pub nearest : ℕ → ℕ → ℕ
nearest n d = n / d + carry (n / d) (n % d) d

-- q lies within half of n / d
pub record Within (n d q : ℕ) : Type 0 where
  pub high : 2 * (q * d) ≤ 2 * n + d
  pub low : 2 * n ≤ 2 * (q * d) + d

-- q is the whole nearest to n / d, and n / d is not the half above it: a half went up
pub record HalfUp (n d q : ℕ) : Type 0 where
  pub within : Within n d q
  pub tie : 2 * n ≡ 2 * (q * d) + d → ⊥

-- z / d to the nearest whole, rounded as its size is: a half that goes up there goes away from 0
abbrev pub nearest_away : ℤ → ℕ → ℤ
nearest_away (pos n) d = pos (nearest n d)
nearest_away (negsuc n) d = neg_ℤ (pos (nearest (suc n) d))
