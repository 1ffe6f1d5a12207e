use Rattle.std.proofs.Common.{ℤ, ◌≤◌, ◌*ℤ◌, nat_abs, w64, SFits, mul-le-mul, rules, arith}
use Rattle.std.proofs.lemmas.Int.{to_z-of_z, fits_signed_mul, unsigned_abs-mul}
use Rattle.revenue.specs.Limits.{most_money}
use Rattle.revenue.proofs.checked.CheckedFigures.correction.Goals as goal

product_fits : (d k : ℤ) → nat_abs d ≤ most_money → nat_abs k ≤ 20000 → SFits w64 (d *ℤ k)
product_fits d k h l = fits_signed_mul w64 d k most_money 20000 h l (omega arith)

pub overflow_mul-difference : goal.overflow_mul-difference
overflow_mul-difference c = search (rules, to_z-of_z, product_fits)

pub returns-clause-value : goal.returns-clause-value
returns-clause-value c =
    grind (arith, to_z-of_z, product_fits, c.to_nearest_signed.ensures.value, c.difference.ensures.value, c.factor.ensures.value)

pub returns-clause-bound : goal.returns-clause-bound
returns-clause-bound c =
    let product_le = mul-le-mul c.difference.ensures.bound c.factor.ensures.bound in
    grind (arith, to_z-of_z, product_fits, unsigned_abs-mul, c.to_nearest_signed.ensures.bound)
