-- The laws of short prices, in a year of any length.
use Rattle.std.proofs.Common.{◌≡◌, ℕ, ◌*◌, ◌<◌, arith}
use Rattle.terms.specs.Rounding.{nearest, Within}
use Rattle.terms.proofs.Halves.{nearest_within}
use Rattle.pricing.specs.declared.products.Term.{Term}
use Rattle.pricing.specs.declared.products.Term.TheVariants.{Year, Quarter, Month, Day, Hours}
use Rattle.pricing.specs.declared.products.Product.{Product}
use Rattle.pricing.specs.Limits.{multiplier_one}
use Rattle.pricing.specs.Products.{runs_in, year_in}
use Rattle.pricing.specs.Prices.{PriceLaw}

-- only a whole number lies within half of itself
within_whole : (t d q : ℕ) → 0 < d → Within (t * d) d q → q ≡ t
within_whole t d q h w = grind (arith, w.high, w.low)

nearest_whole : (t d : ℕ) → 0 < d → nearest (t * d) d ≡ t
nearest_whole t d h = within_whole t d _ h (nearest_within (t * d) d h)

year_pos : (year : ℕ) (t : Term) → 0 < year → 0 < multiplier_one * year_in year t
year_pos year Year h = omega arith
year_pos year Quarter h = omega arith
year_pos year Month h = omega arith
year_pos year Day h = omega arith
year_pos year Hours h = omega arith

-- at multiplier 1, a whole year costs the tariff
year_is : (year m tariff n : ℕ) (t : Term) → 0 < year → t ≡ Year → m ≡ multiplier_one → nearest (m * tariff * runs_in year t n) (multiplier_one * year_in year t) ≡ tariff
year_is year m tariff n t h e k =
    let y : m * tariff * year ≡ tariff * (multiplier_one * year) = rw k (omega arith) in
    rw (e, y) (nearest_whole tariff (multiplier_one * year) (omega arith))

pub price_law : (year m tariff : ℕ) (p : Product) → 0 < year → PriceLaw year m tariff p
price_law year m tariff p h =
    record {
      near = nearest_within (m * tariff * runs_in year p.term p.number) (multiplier_one * year_in year p.term) (year_pos year p.term h);
      yearly = year_is year m tariff p.number p.term h;
    }
