-- The months of a quarter add up to its days, of which there are at most 93.
use Rattle.std.proofs.Common.{◌≡◌, ℕ, suc, zero, ◌+◌, ◌*◌, ◌≤◌, refl, sum, slice_range, arith}
use Rattle.pricing.specs.Limits.{last_quarter}
use Rattle.pricing.specs.Products.{months, quarter_days}

pub quarter_sum : (q : ℕ) → q ≤ last_quarter → (sum (slice_range months (3 * q) (3 * q + 3)) ≡ quarter_days q) × (quarter_days q ≤ 93)
quarter_sum zero h = (refl, omega arith)
quarter_sum (suc zero) h = (refl, omega arith)
quarter_sum (suc (suc zero)) h = (refl, omega arith)
quarter_sum (suc (suc (suc zero))) h = (refl, omega arith)
quarter_sum (suc (suc (suc (suc q)))) h = absurd (omega arith)

-- three months, from whichever on, have at most 93 days
pub three_months : (k : ℕ) → k ≤ 9 → sum (slice_range months k (k + 3)) ≤ 93
three_months zero h = omega arith
three_months (suc zero) h = omega arith
three_months (suc (suc zero)) h = omega arith
three_months (suc (suc (suc zero))) h = omega arith
three_months (suc (suc (suc (suc zero)))) h = omega arith
three_months (suc (suc (suc (suc (suc zero))))) h = omega arith
three_months (suc (suc (suc (suc (suc (suc zero)))))) h = omega arith
three_months (suc (suc (suc (suc (suc (suc (suc zero))))))) h = omega arith
three_months (suc (suc (suc (suc (suc (suc (suc (suc zero)))))))) h = omega arith
three_months (suc (suc (suc (suc (suc (suc (suc (suc (suc zero))))))))) h = omega arith
three_months (suc (suc (suc (suc (suc (suc (suc (suc (suc (suc k)))))))))) h = absurd (omega arith)
