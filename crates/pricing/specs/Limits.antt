-- The limits and units of the figures that prices are worked from.
use Rattle.std.specs.Prelude.{ℕ, ◌*◌}

-- An allowed revenue is at most ten million thousands of RSD.
abbrev pub most_amount : ℕ
most_amount = 10000000

-- A relief is counted in ten-thousandths: this one takes the whole.
abbrev pub whole_relief : ℕ
whole_relief = 10000

-- Money is counted in thousands of RSD, while a price step for one lot is 1 RSD.
abbrev pub rsd_per_thousand : ℕ
rsd_per_thousand = 1000

-- No tariff is above what a single lot would bear that bears a whole allowed revenue.
abbrev pub most_tariff : ℕ
most_tariff = rsd_per_thousand * most_amount

-- The last quarter of a gas year, counted from 0.
abbrev pub last_quarter : ℕ
last_quarter = 3

-- The last month of a gas year, counted from 0.
abbrev pub last_month : ℕ
last_month = 11

-- A product within a day runs at most a whole one.
abbrev pub hours_per_day : ℕ
hours_per_day = 24

-- A multiplier is counted in hundredths: this one is 1, the least of every product.
abbrev pub multiplier_one : ℕ
multiplier_one = 100

-- A quarter and a month cost at most 1.5 times their part of the year.
abbrev pub most_by_month : ℕ
most_by_month = 150

-- A day and what runs within a day cost at most 3 times their part of the year.
abbrev pub most_by_day : ℕ
most_by_day = 300

-- The days that a gas year is counted with.
abbrev pub year_days : ℕ
year_days = 365

-- No year has more days.
abbrev pub longest_year : ℕ
longest_year = 366
