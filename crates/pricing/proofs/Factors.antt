-- The exact shares are the amount times the final weighting factors.
use Rattle.std.proofs.Common.{◌≡◌, ℕ, ◌+◌, ◌-◌, ◌*◌, ◌<◌, ◌≤◌, refl, ap, mul-pos, one-mul, arith}
use Rattle.pricing.specs.Limits.{whole_relief}
use Rattle.pricing.specs.Fractions.{whole, times, Same}
use Rattle.pricing.specs.Shares.{Basis, weight, others, HasShares}
use Rattle.pricing.specs.Exact.{exact_storage, exact_other}
use Rattle.pricing.specs.Methodology.{Methodical, final_other}
use Rattle.pricing.proofs.Nearness.{scale_pos}

storage_equal : (A k s W n : ℕ) → n ≡ k → A * k * s * (1 * (10000 * W)) ≡ A * (n * s) * (10000 * W)
storage_equal A k s W n e = grind arith

-- X is the 10,000 W less k s that the exact share multiplies out, and comes to 10,000 V + r s
other_equal :
    (A m p s w r k X E V W : ℕ) → r + k ≡ 10000 → m + p ≡ V → V + s ≡ W → X + k * s ≡ 10000 * W → E ≡ A * X →
    E * w * (1 * (W * (10000 * W * (W * (m * W + p * W))))) ≡
    A * (w * (10000 * W * (W * (m * W + p * W))) + r * s * (w * (W * W)) * W) * (10000 * W * V)
other_equal A m p s w r k X E V W a b c d e =
    let x : X ≡ 10000 * V + r * s = omega (arith, ap (λ y. y * s) a) in
    let v : m * W + p * W ≡ V * W = omega (arith, ap (λ y. y * W) b) in
    rw (v, e, x) (omega arith)

module _ (b : Basis) (some : HasShares b) (relieved : b.relief ≤ whole_relief) where
  w_pos : 0 < weight b
  w_pos = omega arith

  parts_le : (whole_relief - b.relief) * b.storage ≤ whole_relief * weight b
  parts_le = grind arith

  -- the sum of both others' factors, multiplied out
  sum_pos : 0 < b.main * weight b + b.other * weight b
  sum_pos = omega (arith, mul-pos some w_pos)

  by_factor : (w : ℕ) → Same (exact_other b w) (times (whole b.amount.0) (final_other b w))
  by_factor w =
      let W = weight b in
      let X = whole_relief * W - (whole_relief - b.relief) * b.storage in
      let x : X + (whole_relief - b.relief) * b.storage ≡ whole_relief * W = omega (arith, parts_le) in
      record {
        first = mul-pos (scale_pos b some relieved) some;
        second = rw one-mul (mul-pos w_pos (mul-pos (scale_pos b some relieved) (mul-pos w_pos sum_pos)));
        equal =
            other_equal b.amount.0 b.main b.other b.storage w b.relief (whole_relief - b.relief) X
            (b.amount.0 * (exact_storage b).under - (exact_storage b).over) (others b) W
            (omega arith) refl refl x (omega (arith, ap (λ y. b.amount.0 * y) x));
      }

pub methodical : (b : Basis) → HasShares b → b.relief ≤ whole_relief → Methodical b
methodical b some relieved =
    record {
      storage =
          record {
            first = scale_pos b some relieved;
            second = let d = scale_pos b some relieved in omega arith;
            equal = storage_equal b.amount.0 (whole_relief - b.relief) b.storage (weight b) (1 * whole_relief - b.relief * 1) (omega arith);
          };
      main = by_factor b some relieved b.main;
      other = by_factor b some relieved b.other;
    }
