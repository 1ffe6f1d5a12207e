-- The shares of a side lie near the exact ones.
use Rattle.std.proofs.Common.{◌≡◌, ℕ, ◌+◌, ◌-◌, ◌*◌, ◌<◌, ◌≤◌, ap, mul-le-mul_right, mul-le-mul_left, mul-lt-mul_of_pos_right, div-mul-le_self, arith}
use native.Mathlib.Nat.{lt-div-mul-add}
use Rattle.pricing.specs.Limits.{whole_relief}
use Rattle.pricing.specs.Fractions.{fraction, Near}
use Rattle.pricing.specs.Shares.{Basis, weight, others, HasShares, first_storage, released, storage_share, left_over, main_share, other_share}
use Rattle.pricing.specs.Exact.{exact_storage, exact_other}
use Rattle.pricing.proofs.Parts.{released_le, storage_le, main_le}

-- Of an amount R, storage first gets F = R s / W and releases L = F r / 10,000, both rounded down; it keeps S, which lies within
-- one of the exact R k s / (10,000 W), where k is what the relief r leaves of 10,000.
kept_above : (R s W r k F L S : ℕ) → r + k ≡ 10000 → S + L ≡ F → F * W ≤ R * s → F * r < L * 10000 + 10000 → S * (10000 * W) ≤ R * k * s + 10000 * W
kept_above R s W r k F L S e f h g =
    let a : S * 10000 ≤ F * k + 10000 = omega (arith, ap (λ x. F * x) e) in
    omega (arith, mul-le-mul_right W a, mul-le-mul_right k h)

kept_below : (R s W r k F L S : ℕ) → r + k ≡ 10000 → S + L ≡ F → R * s < F * W + W → L * 10000 ≤ F * r → R * k * s ≤ S * (10000 * W) + 10000 * W
kept_below R s W r k F L S e f h g =
    let a : F * k ≤ S * 10000 = omega (arith, ap (λ x. F * x) e) in
    let b : R * s ≤ F * W + W = omega arith in
    let c : k ≤ 10000 = omega arith in
    omega (arith, mul-le-mul_right W a, mul-le-mul_right k b, mul-le-mul_left W c)

-- A share x by weight w of V, rounded either way, of what S left of R; S lies within one of N / D, and E / D is what N / D leaves.
other_near :
    (R D N S V w x left E : ℕ) → left + S ≡ R → E + N ≡ R * D → S * D ≤ N + D → N ≤ S * D + D → w ≤ V → 0 < D →
    x * V < left * w + V → left * w < x * V + V → Near x (fraction (E * w) (D * V))
other_near R D N S V w x left E l e a b h d p q =
    let m : left * D + S * D ≡ R * D = omega (arith, ap (λ y. y * D) l) in
    let up : left * D ≤ E + D = omega arith in
    let low : E ≤ left * D + D = omega arith in
    record {
      high = omega (arith, mul-lt-mul_of_pos_right p d, mul-le-mul_right w up, mul-le-mul_left D h);
      low = omega (arith, mul-lt-mul_of_pos_right q d, mul-le-mul_right w low, mul-le-mul_left D h);
    }

module _ (b : Basis) (some : HasShares b) (relieved : b.relief ≤ whole_relief) where
  w_pos : 0 < weight b
  w_pos = omega arith

  pub scale_pos : 0 < (exact_storage b).under
  scale_pos = let h = w_pos in omega arith

  above : storage_share b * (exact_storage b).under ≤ (exact_storage b).over + (exact_storage b).under
  above =
      kept_above b.amount.0 b.storage (weight b) b.relief (whole_relief - b.relief) (first_storage b) (released b) (storage_share b)
      (omega arith) (omega (arith, released_le b relieved)) (div-mul-le_self (b.amount.0 * b.storage) (weight b)) (lt-div-mul-add {a = first_storage b * b.relief} {b = whole_relief} (omega arith))

  below : (exact_storage b).over ≤ storage_share b * (exact_storage b).under + (exact_storage b).under
  below =
      kept_below b.amount.0 b.storage (weight b) b.relief (whole_relief - b.relief) (first_storage b) (released b) (storage_share b)
      (omega arith) (omega (arith, released_le b relieved)) (lt-div-mul-add {a = b.amount.0 * b.storage} {b = weight b} w_pos) (div-mul-le_self (first_storage b * b.relief) whole_relief)

  -- exact storage is no more than the amount
  pub exact_le : (exact_storage b).over ≤ b.amount.0 * (exact_storage b).under
  exact_le = grind arith

  pub near_storage : Near (storage_share b) (exact_storage b)
  near_storage = record { high = omega (arith, above, scale_pos); low = omega (arith, below, scale_pos) }

  -- an element of weight w among the two others
  near_by_weight :
      (w x : ℕ) → w ≤ others b → x * others b < left_over b * w + others b → left_over b * w < x * others b + others b → Near x (exact_other b w)
  near_by_weight w x h p q =
      other_near b.amount.0 (exact_storage b).under (exact_storage b).over (storage_share b) (others b) w x (left_over b) (b.amount.0 * (exact_storage b).under - (exact_storage b).over)
      (omega (arith, storage_le b)) (omega (arith, exact_le)) above below h scale_pos p q

  pub near_main : Near (main_share b) (exact_other b b.main)
  near_main =
      near_by_weight b.main (main_share b) (omega arith)
      (omega (arith, div-mul-le_self (left_over b * b.main) (others b), some)) (lt-div-mul-add {a = left_over b * b.main} some)

  pub near_other : Near (other_share b) (exact_other b b.other)
  near_other =
      let m : other_share b + main_share b ≡ left_over b = omega (arith, main_le b) in
      let e : other_share b * others b + main_share b * others b ≡ left_over b * b.main + left_over b * b.other =
      omega (arith, ap (λ y. y * others b) m) in
      near_by_weight b.other (other_share b) (omega arith)
      (omega (arith, e, lt-div-mul-add {a = left_over b * b.main} some)) (omega (arith, e, some, div-mul-le_self (left_over b * b.main) (others b)))
