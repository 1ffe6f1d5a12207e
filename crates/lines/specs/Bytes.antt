-- The bytes that a sheet is made of, and parts of it.
use Rattle.std.specs.Prelude.{ℕ, List, take, drop, ◌≢◌}
use Rattle.std.specs.List.{AllByRecursion}

-- bytes in a row: a sheet, a line or a word
abbrev pub Text : Type 0
Text = List ℕ

abbrev pub line_feed : ℕ
line_feed = 10

abbrev pub space : ℕ
space = 32

abbrev pub minus_sign : ℕ
minus_sign = 45

-- the digit 0; the others follow it
abbrev pub zero_digit : ℕ
zero_digit = 48

-- the k bytes of a sheet that stand at the place at
abbrev pub part : Text → ℕ → ℕ → Text
part sheet at k = take k (drop at sheet)

-- no byte of the text is s
abbrev pub Lacks : ℕ → Text → Type 0
Lacks s bs = AllByRecursion (λ b. b ≢ s) bs
