-- Fractions of whole numbers. None is ever divided out: two are compared multiplied out.
use Rattle.std.specs.Prelude.{◌≡◌, ℕ, ◌+◌, ◌-◌, ◌*◌, ◌<◌}

-- over / under
pub record Fraction : Type 0 where
  pub over : ℕ
  pub under : ℕ

-- n / d
abbrev pub fraction : ℕ → ℕ → Fraction
fraction n d = record { over = n; under = d }

-- a whole number
abbrev pub whole : ℕ → Fraction
whole n = fraction n 1

-- their sum
abbrev pub plus : Fraction → Fraction → Fraction
plus f g = fraction (f.over * g.under + g.over * f.under) (f.under * g.under)

-- their difference, where the second is no larger
abbrev pub less : Fraction → Fraction → Fraction
less f g = fraction (f.over * g.under - g.over * f.under) (f.under * g.under)

-- their product
abbrev pub times : Fraction → Fraction → Fraction
times f g = fraction (f.over * g.over) (f.under * g.under)

-- their quotient
abbrev pub divided : Fraction → Fraction → Fraction
divided f g = fraction (f.over * g.under) (f.under * g.over)

-- Two fractions have one value.
pub record Same (f g : Fraction) : Type 0 where
  pub first : 0 < f.under
  pub second : 0 < g.under
  pub equal : f.over * g.under ≡ g.over * f.under

-- x lies less than 2 from the fraction
pub record Near (x : ℕ) (f : Fraction) : Type 0 where
  pub high : x * f.under < f.over + 2 * f.under
  pub low : f.over < x * f.under + 2 * f.under
