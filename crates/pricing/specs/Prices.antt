-- Short prices of an approved decision, and the rules that a price is asked under.
use Rattle.std.specs.Prelude.{◌≡◌, ℕ, ◌*◌, false, List, [], ◌∷◌, None, Option}
use Rattle.terms.specs.declared.measures.PriceSteps.{PriceSteps}
use Rattle.terms.specs.declared.points.Side.{Side}
use Rattle.terms.specs.declared.points.Side.TheVariants.{Entry, Exit}
use Rattle.terms.specs.declared.points.Kind.{Kind}
use Rattle.terms.specs.declared.points.Kind.TheVariants.{Transmission, Production, Storage, Local, Interconnector}
use Rattle.terms.specs.declared.faults.BookFault.TheVariants.{KindNotOfSide, NoProduct, MultiplierOutOfRange, NoTariff}
use Rattle.terms.specs.Faults.{book_refusal}
use Rattle.terms.specs.Points.{of_side}
use Rattle.terms.specs.Refusals.{Rule, rule}
use Rattle.terms.specs.Rounding.{nearest, Within}
use Rattle.pricing.specs.declared.figures.TariffFigures.{TariffFigures}
use Rattle.pricing.specs.declared.products.Product.{Product}
use Rattle.pricing.specs.declared.products.Term.TheVariants.{Year}
use Rattle.pricing.specs.Limits.{multiplier_one}
use Rattle.pricing.specs.Products.{NoSuch, OutOfRange, runs_in, year_in}

-- the tariff of an element
abbrev pub tariff_in : TariffFigures → Side → Kind → Option PriceSteps
tariff_in f Entry Transmission = f.entries.main.tariff
tariff_in f Entry Production = f.entries.other.tariff
tariff_in f Entry Storage = f.entries.storage.tariff
tariff_in f Entry Local = None
tariff_in f Entry Interconnector = None
tariff_in f Exit Transmission = None
tariff_in f Exit Production = None
tariff_in f Exit Storage = f.exits.storage.tariff
tariff_in f Exit Local = f.exits.main.tariff
tariff_in f Exit Interconnector = f.exits.other.tariff

-- In this order a price is refused: the kind is not of that side, there is no such product, the multiplier is out of its range,
-- the element has no tariff.
abbrev pub price_rules : TariffFigures → Side → Kind → Product → ℕ → List Rule
price_rules f side kind p m =
    rule (book_refusal KindNotOfSide) (of_side side kind ≡ false)
    ∷ (rule (book_refusal NoProduct) (NoSuch p)
    ∷ (rule (book_refusal MultiplierOutOfRange) (OutOfRange p.term m)
    ∷ (rule (book_refusal NoTariff) (tariff_in f side kind ≡ None) ∷ [])))

-- In a year of so many days: multiplier × tariff × the product's days / the year's days, or the same in hours, to the nearest step.
abbrev pub price_in : ℕ → ℕ → ℕ → Product → ℕ
price_in year m tariff p = nearest (m * tariff * runs_in year p.term p.number) (multiplier_one * year_in year p.term)

-- What is promised of a price: it lies within half a step of the exact one, and the price of a year at multiplier 1 is the tariff.
pub record PriceLaw (year m tariff : ℕ) (p : Product) : Type 0 where
  pub near : Within (m * tariff * runs_in year p.term p.number) (multiplier_one * year_in year p.term) (price_in year m tariff p)
  pub yearly : p.term ≡ Year → m ≡ multiplier_one → price_in year m tariff p ≡ tariff
