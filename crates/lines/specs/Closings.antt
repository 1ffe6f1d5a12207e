-- The line that asks for a closing, in other words than those of its reading.
use Rattle.std.specs.Prelude.{◌≡◌, ℕ, ◌<◌, true, List, [], ◌∷◌, ◌++◌, map, Ok, codes, decimal, Result, unsigned_abs}
use Rattle.std.specs.Fmt.{signed_decimal}
use Rattle.std.specs.List.{AllByRecursion}
use Rattle.revenue.specs.declared.figures.Figures.{Figures}
use Rattle.lines.specs.declared.faults.SheetFault.{SheetFault}
use Rattle.lines.specs.Bytes.{Text}
use Rattle.lines.specs.Limits.{ten_digits}
use Rattle.lines.specs.Lines.{Raw}
use Rattle.lines.specs.Reading.{DueOrNoMemory}
use Rattle.lines.specs.Words.{spaced}

-- the figures that are never below 0: all but the consumer index
abbrev pub amounts : Figures → List ℕ
amounts x =
    x.operating.0 ∷ x.depreciation.0 ∷ x.assets.0 ∷ x.rate.0 ∷ x.delivered.0 ∷ x.loss.0 ∷ x.price.0
    ∷ x.nonstandard.0 ∷ x.other.0 ∷ x.justified.0 ∷ x.realised.0 ∷ []

-- the words that ask for a closing with these figures
abbrev pub closing_words : Figures → List Text
closing_words x = codes "close" ∷ map decimal (amounts x) ++ signed_decimal x.index.0 ∷ []

-- The line asks for a closing with these figures: it is ended, it is the word close and the twelve figures in decimal, with one space
-- between each two words, and no figure has more than nine digits.
pub record AsksFor (l : Raw) (x : Figures) : Type 0 where
  pub ended : l.ended ≡ true
  pub text : l.bytes ≡ spaced (closing_words x)
  pub short : AllByRecursion (λ n. n < ten_digits) (unsigned_abs x.index.0 ∷ amounts x)

-- The figures come back exactly where the line asks for a closing with them, unless memory is wanting.
pub record ReadsClosing (l : Raw) (r : Result Figures SheetFault) : Type 0 where
  pub only : (x : Figures) → r ≡ Ok x → AsksFor l x
  pub all : (x : Figures) → AsksFor l x → DueOrNoMemory (Ok x) r
