-- The limits of a sheet.
use Rattle.std.specs.Prelude.{ℕ}

-- bytes of a sheet
abbrev pub longest_sheet : ℕ
longest_sheet = 65536

-- bytes of a line before its line feed
abbrev pub longest_line : ℕ
longest_line = 400

-- digits of a number
abbrev pub most_digits : ℕ
most_digits = 9

-- the first number that has more digits than that
abbrev pub ten_digits : ℕ
ten_digits = 1000000000

-- figures of a closing
abbrev pub closing_figures : ℕ
closing_figures = 12
