-- The exact shares in the words of the methodology: weighting factors, the storage discount, final weighting factors.
use Rattle.std.specs.Prelude.{ℕ}
use Rattle.pricing.specs.Limits.{whole_relief}
use Rattle.pricing.specs.Fractions.{Fraction, fraction, whole, plus, less, times, divided, Same}
use Rattle.pricing.specs.Shares.{Basis, weight}
use Rattle.pricing.specs.Exact.{exact_storage, exact_other}

-- An element's weighting factor is its weight, capacity times weighted average distance, over the sum of the side's.
abbrev pub factor : Basis → ℕ → Fraction
factor b w = fraction w (weight b)

-- The storage discount is its relief, out of the whole.
abbrev pub discount : Basis → Fraction
discount b = fraction b.relief whole_relief

-- Storage keeps one minus the discount of its factor.
abbrev pub final_storage : Basis → Fraction
final_storage b = times (less (whole 1) (discount b)) (factor b b.storage)

-- Another element adds to its factor what storage gave up, in the proportion of its factor to that of both others.
abbrev pub final_other : Basis → ℕ → Fraction
final_other b w =
    plus (factor b w)
    (times (times (discount b) (factor b b.storage)) (divided (factor b w) (plus (factor b b.main) (factor b b.other))))

-- An exact share is the side's amount times the final weighting factor.
pub record Methodical (b : Basis) : Type 0 where
  pub storage : Same (exact_storage b) (times (whole b.amount.0) (final_storage b))
  pub main : Same (exact_other b b.main) (times (whole b.amount.0) (final_other b b.main))
  pub other : Same (exact_other b b.other) (times (whole b.amount.0) (final_other b b.other))
