-- Capacity products: their letters, their numbers, their multipliers and how long they run.
use Rattle.std.specs.Prelude.{ℕ, ◌+◌, ◌*◌, ◌<◌, ◌≤◌, cond, ◌⊎◌, List, [], ◌∷◌, Some, None, Option, ◌==◌, slice_index}
use Rattle.pricing.specs.declared.products.Term.{Term}
use Rattle.pricing.specs.declared.products.Term.TheVariants.{Year, Quarter, Month, Day, Hours}
use Rattle.pricing.specs.declared.products.Product.{Product}
use Rattle.pricing.specs.Limits.{last_quarter, last_month, hours_per_day, multiplier_one, most_by_month, most_by_day}

-- Y, Q, M, D and H
abbrev pub term_letter : Term → ℕ
term_letter Year = 89
term_letter Quarter = 81
term_letter Month = 77
term_letter Day = 68
term_letter Hours = 72

-- the term with that letter
abbrev pub term_of : ℕ → Option Term
term_of c =
    cond (c == 89) (Some Year)
    (cond (c == 81) (Some Quarter)
    (cond (c == 77) (Some Month)
    (cond (c == 68) (Some Day)
    (cond (c == 72) (Some Hours) None))))

-- The products of a term are numbered Y 0, Q 0 to 3, M 0 to 11, D 0 and H 1 to 24.
abbrev pub first_number : Term → ℕ
first_number Year = 0
first_number Quarter = 0
first_number Month = 0
first_number Day = 0
first_number Hours = 1

-- the last of them
abbrev pub last_number : Term → ℕ
last_number Year = 0
last_number Quarter = last_quarter
last_number Month = last_month
last_number Day = 0
last_number Hours = hours_per_day

-- There is such a product.
abbrev pub Exists : Product → Type 0
Exists p = (first_number p.term ≤ p.number) × (p.number ≤ last_number p.term)

-- There is none.
abbrev pub NoSuch : Product → Type 0
NoSuch p = (p.number < first_number p.term) ⊎ (last_number p.term < p.number)

-- the largest multiplier of a term; the least is 1 for all
abbrev pub most_multiplier : Term → ℕ
most_multiplier Year = multiplier_one
most_multiplier Quarter = most_by_month
most_multiplier Month = most_by_month
most_multiplier Day = most_by_day
most_multiplier Hours = most_by_day

-- The term takes that multiplier.
abbrev pub InRange : Term → ℕ → Type 0
InRange t m = (multiplier_one ≤ m) × (m ≤ most_multiplier t)

-- It does not.
abbrev pub OutOfRange : Term → ℕ → Type 0
OutOfRange t m = (m < multiplier_one) ⊎ (most_multiplier t < m)

-- the months of a gas year, from October
abbrev pub months : List ℕ
months = 31 ∷ 30 ∷ 31 ∷ 31 ∷ 28 ∷ 31 ∷ 30 ∷ 31 ∷ 30 ∷ 31 ∷ 31 ∷ 30 ∷ []

-- the days of month k
abbrev pub month_days : ℕ → ℕ
month_days k = slice_index months k

-- a quarter is three months
abbrev pub quarter_days : ℕ → ℕ
quarter_days k = month_days (3 * k) + month_days (3 * k + 1) + month_days (3 * k + 2)

-- How long product n of a term runs in a year of so many days: in days, and in hours within a day.
abbrev pub runs_in : ℕ → Term → ℕ → ℕ
runs_in year Year n = year
runs_in year Quarter n = quarter_days n
runs_in year Month n = month_days n
runs_in year Day n = 1
runs_in year Hours n = n

-- The year in the same unit.
abbrev pub year_in : ℕ → Term → ℕ
year_in year Year = year
year_in year Quarter = year
year_in year Month = year
year_in year Day = year
year_in year Hours = hours_per_day * year
