-- The rules that a closing is held against, in the order of the checks.
use Rattle.std.specs.Prelude.{ℕ, ◌<◌, ◌≤◌, ◌⊎◌, List, [], ◌∷◌, ◌++◌, ℤ, ◌≤ℤ◌, ◌<ℤ◌, unsigned_abs}
use Rattle.terms.specs.Refusals.{Rule, rule}
use Rattle.terms.specs.Faults.{book_refusal}
use Rattle.terms.specs.declared.faults.BookFault.TheVariants.{OutOfRange, BaseBelowZero, CarriedTooLarge, AllowedTooLarge}
use Rattle.terms.specs.declared.faults.ClosingFigure.{ClosingFigure}
use Rattle.terms.specs.declared.faults.ClosingFigure.TheVariants.{Operating, Depreciation, Assets, Rate, Delivered, Loss, GasPrice, NonStandard, OtherRevenue, Justified, Realised, Index}
use Rattle.revenue.specs.declared.figures.Figures.{Figures}
use Rattle.revenue.specs.Limits.{most_money, most_assets, most_rate, most_delivered, most_loss, most_price, least_index, most_index, most_carried, most_allowed}
use Rattle.revenue.specs.Closings.{costs, revenues, base_of, due_of, rest_of, allowed_of}

-- the figure may be at most so much
abbrev pub over : ClosingFigure → ℕ → ℕ → Rule
over figure most x = rule (book_refusal (OutOfRange figure)) (most < x)

-- each figure is in its range
abbrev pub figure_rules : Figures → List Rule
figure_rules f =
    over Operating most_money f.operating.0
    ∷ (over Depreciation most_money f.depreciation.0
    ∷ (over Assets most_assets f.assets.0
    ∷ (over Rate most_rate f.rate.0
    ∷ (over Delivered most_delivered f.delivered.0
    ∷ (over Loss most_loss f.loss.0
    ∷ (over GasPrice most_price f.price.0
    ∷ (over NonStandard most_money f.nonstandard.0
    ∷ (over OtherRevenue most_money f.other.0
    ∷ (over Justified most_money f.justified.0
    ∷ (over Realised most_money f.realised.0
    ∷ (rule (book_refusal (OutOfRange Index)) ((f.index.0 <ℤ least_index) ⊎ (most_index <ℤ f.index.0)) ∷ [])))))))))))

-- What would be carried on, and what would be allowed, are in their ranges.
abbrev pub settling_rules : ℕ → ℤ → List Rule
settling_rules base due =
    rule (book_refusal CarriedTooLarge) (most_carried < unsigned_abs (rest_of base due))
    ∷ (rule (book_refusal AllowedTooLarge) (most_allowed < allowed_of base due) ∷ [])

-- each figure is in its range, and the base is no less than 0
abbrev pub close_rules : ℤ → Figures → List Rule
close_rules carried f =
    figure_rules f ++ (rule (book_refusal BaseBelowZero) (costs f < revenues f) ∷ settling_rules (base_of f) (due_of carried f))

-- the figures that break none of their rules
pub record InRange (f : Figures) : Type 0 where
  pub operating : f.operating.0 ≤ most_money
  pub depreciation : f.depreciation.0 ≤ most_money
  pub assets : f.assets.0 ≤ most_assets
  pub rate : f.rate.0 ≤ most_rate
  pub delivered : f.delivered.0 ≤ most_delivered
  pub loss : f.loss.0 ≤ most_loss
  pub price : f.price.0 ≤ most_price
  pub nonstandard : f.nonstandard.0 ≤ most_money
  pub other : f.other.0 ≤ most_money
  pub justified : f.justified.0 ≤ most_money
  pub realised : f.realised.0 ≤ most_money
  pub low : least_index ≤ℤ f.index.0
  pub high : f.index.0 ≤ℤ most_index
