-- The exact shares of a side, before any rounding.
use Rattle.std.specs.Prelude.{ℕ, ◌-◌, ◌*◌}
use Rattle.pricing.specs.Limits.{whole_relief}
use Rattle.pricing.specs.Fractions.{Fraction, fraction}
use Rattle.pricing.specs.Shares.{Basis, weight, others}

-- amount × (10,000 - relief) × storage's weight / (10,000 × the side's weight)
abbrev pub exact_storage : Basis → Fraction
exact_storage b = fraction (b.amount.0 * (whole_relief - b.relief) * b.storage) (whole_relief * weight b)

-- (amount - exact storage share) × its weight / the weight of the elements other than storage
abbrev pub exact_other : Basis → ℕ → Fraction
exact_other b w =
    fraction ((b.amount.0 * (exact_storage b).under - (exact_storage b).over) * w) ((exact_storage b).under * others b)
