-- Parts that are rounded down are no more than what they are of.
use Rattle.std.proofs.Common.{◌≤◌, arith}
use Rattle.pricing.specs.Limits.{whole_relief}
use Rattle.pricing.specs.Shares.{Basis, first_storage, released, storage_share, left_over, main_share}

pub first_le : (b : Basis) → first_storage b ≤ b.amount.0
first_le b = grind arith

pub released_le : (b : Basis) → b.relief ≤ whole_relief → released b ≤ first_storage b
released_le b h = grind arith

pub storage_le : (b : Basis) → storage_share b ≤ b.amount.0
storage_le b = grind arith

pub main_le : (b : Basis) → main_share b ≤ left_over b
main_le b = grind arith
