-- The ranges of a closing's figures and amounts. Money is in thousands of dinars.
use Rattle.std.specs.Prelude.{ℕ, ℤ, pos, negsuc}

-- the largest sum of money among the figures, but for the assets
abbrev pub most_money : ℕ
most_money = 10000000

abbrev pub most_assets : ℕ
most_assets = 100000000

-- 30 %, in hundredths of a percent
abbrev pub most_rate : ℕ
most_rate = 3000

-- in MWh
abbrev pub most_delivered : ℕ
most_delivered = 50000000

-- a tenth, in hundred-thousandths
abbrev pub most_loss : ℕ
most_loss = 10000

-- 100 RSD per kWh, in hundredths
abbrev pub most_price : ℕ
most_price = 10000

-- -20 %, in hundredths of a percent
abbrev pub least_index : ℤ
least_index = negsuc 1999

-- 100 %
abbrev pub most_index : ℤ
most_index = pos 10000

-- what may be carried on, up or down
abbrev pub most_carried : ℕ
most_carried = 100000000

abbrev pub most_allowed : ℕ
most_allowed = 10000000

-- Where the figures are in their ranges, no base, no correction and nothing that is due is larger than these, up or down.
abbrev pub most_base : ℕ
most_base = 10000000000000000

abbrev pub most_correction : ℕ
most_correction = 200000000000

abbrev pub most_due : ℕ
most_due = 1000000000000
