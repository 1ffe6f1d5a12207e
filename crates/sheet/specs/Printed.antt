-- The lines that a sheet prints.
use Rattle.std.specs.Prelude.{ℕ, ◌+◌, List, [], ◌∷◌, ◌++◌, Ok, Err, codes, decimal, Result}
use Rattle.std.specs.Fmt.{signed_decimal}
use Rattle.revenue.specs.declared.figures.Closing.{Closing}
use Rattle.lines.specs.Bytes.{Text}
use Rattle.lines.specs.Faults.{sheet_refusal}
use Rattle.lines.specs.declared.faults.SheetFault.{SheetFault}

-- what a line comes back with: a closing, or why it is refused
abbrev pub Outcome : Type 0
Outcome = Result Closing SheetFault

-- line n refused m
abbrev pub refused_text : ℕ → ℕ → Text
refused_text n m = codes "line " ++ (decimal n ++ (codes " refused " ++ (decimal m ++ codes "\n")))

-- R, the allowed revenue and the amount carried on
abbrev pub closed_text : Closing → Text
closed_text c = codes "R " ++ (decimal c.allowed.0 ++ (codes " " ++ (signed_decimal c.rest.0 ++ codes "\n")))

-- what line n prints
abbrev pub line_text : ℕ → Outcome → Text
line_text n (Ok c) = closed_text c
line_text n (Err f) = refused_text n (sheet_refusal f).number

-- what lines print, the first of them being line n
abbrev pub printed : ℕ → List Outcome → Text
printed n [] = []
printed n (o ∷ os) = line_text n o ++ printed (n + 1) os
