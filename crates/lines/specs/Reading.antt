-- What a line asks. Its checks run 23, then 20 for the first word, then 22, then 21 from the left.
use Rattle.std.specs.Prelude.{◌≡◌, ℕ, ◌-◌, cond, ◌&&◌, ◌⊎◌, List, [], ◌∷◌, length, ℤ, Some, None, Ok, Err, codes, Option, Result, ◌==◌, nat_le, slice_index_or}
use Rattle.std.specs.Option.{ok_or}
use Rattle.std.specs.Str.{bytes_eq}
use Rattle.terms.specs.Faults.{figure_number}
use Rattle.terms.specs.declared.faults.ClosingFigure.{ClosingFigure}
use Rattle.terms.specs.declared.faults.ClosingFigure.TheVariants.{Operating, Depreciation, Assets, Rate, Delivered, Loss, GasPrice, NonStandard, OtherRevenue, Justified, Realised, Index}
use Rattle.revenue.specs.declared.figures.Figures.{Figures}
use Rattle.lines.specs.declared.faults.SheetFault.{SheetFault}
use Rattle.lines.specs.declared.faults.SheetFault.TheVariants.{UnknownWord, BadNumber, WordCount, TooLong, NoMemory}
use Rattle.lines.specs.declared.line.Verb.{Verb}
use Rattle.lines.specs.declared.line.Verb.TheVariants.{Close}
use Rattle.lines.specs.Bytes.{Text}
use Rattle.lines.specs.Limits.{longest_sheet, longest_line, closing_figures}
use Rattle.lines.specs.Lines.{Raw}
use Rattle.lines.specs.Numbers.{number_of, signed_of}
use Rattle.lines.specs.Words.{words}

-- go on with what came, unless it was refused
abbrev pub bind : {A B E : Type 0} → Result A E → (A → Result B E) → Result B E
bind (Ok x) f = f x
bind (Err e) f = Err e

-- A call comes back with what is due, or for want of memory.
abbrev pub DueOrNoMemory : {A : Type 0} → Result A SheetFault → Result A SheetFault → Type 0
DueOrNoMemory due r = (r ≡ due) ⊎ (r ≡ Err NoMemory)

-- Check 23 of a whole sheet, whose line is 0.
abbrev pub sheet_fits : Text → Result (Unit {0}) SheetFault
sheet_fits sheet = cond (nat_le (length sheet) longest_sheet) (Ok tt) (Err (TooLong 0))

-- Check 23 of line n: it is ended and not too long.
abbrev pub whole : ℕ → Raw → Result Text SheetFault
whole n l = cond (l.ended && nat_le (length l.bytes) longest_line) (Ok l.bytes) (Err (TooLong n))

-- what the words of line n write, once check 23 has passed
abbrev pub read : {A : Type 0} → (ℕ → List Text → Result A SheetFault) → ℕ → Raw → Result A SheetFault
read writes n l = bind (whole n l) (λ bs. writes n (words bs))

-- the first words
abbrev pub verb_of : Text → Option Verb
verb_of w = cond (bytes_eq w (codes "close")) (Some Close) None

-- A line by its first word, with the words after it.
pub data Command : Type 0 where
  close : List Text → Command

-- Check 22: close has its twelve figures.
abbrev pub asked : ℕ → Verb → List Text → Result Command SheetFault
asked n Close ws = cond (length ws == closing_figures) (Ok (close ws)) (Err (WordCount n))

-- what the words of line n ask: check 20 of the first, then 22
abbrev pub command_of : ℕ → List Text → Result Command SheetFault
command_of n [] = Err (UnknownWord n)
command_of n (w ∷ ws) = bind (ok_or (verb_of w) (UnknownWord n)) (λ v. asked n v ws)

-- the word that writes a figure of a closing: they stand in the order of the figures' numbers, and one that is missing is empty
abbrev pub figure_word : List Text → ClosingFigure → Text
figure_word ws f = slice_index_or ws (figure_number f - 1) []

-- Check 21 of one figure on line n.
abbrev pub figure_of : ℕ → List Text → ClosingFigure → Result ℕ SheetFault
figure_of n ws f = ok_or (number_of (figure_word ws f)) (BadNumber n)

-- the same of one that may bear a minus
abbrev pub signed_figure_of : ℕ → List Text → ClosingFigure → Result ℤ SheetFault
signed_figure_of n ws f = ok_or (signed_of (figure_word ws f)) (BadNumber n)

-- The figures of a closing, from the left. Only the last, the consumer index, may bear a minus.
abbrev pub closing_of : ℕ → List Text → Result Figures SheetFault
closing_of n ws =
    bind (figure_of n ws Operating) (λ operating.
    bind (figure_of n ws Depreciation) (λ depreciation.
    bind (figure_of n ws Assets) (λ assets.
    bind (figure_of n ws Rate) (λ rate.
    bind (figure_of n ws Delivered) (λ delivered.
    bind (figure_of n ws Loss) (λ loss.
    bind (figure_of n ws GasPrice) (λ price.
    bind (figure_of n ws NonStandard) (λ nonstandard.
    bind (figure_of n ws OtherRevenue) (λ other.
    bind (figure_of n ws Justified) (λ justified.
    bind (figure_of n ws Realised) (λ realised.
    bind (signed_figure_of n ws Index) (λ index.
    Ok (record {
      operating = record { 0 = operating };
      depreciation = record { 0 = depreciation };
      assets = record { 0 = assets };
      rate = record { 0 = rate };
      delivered = record { 0 = delivered };
      loss = record { 0 = loss };
      price = record { 0 = price };
      nonstandard = record { 0 = nonstandard };
      other = record { 0 = other };
      justified = record { 0 = justified };
      realised = record { 0 = realised };
      index = record { 0 = index };
    })))))))))))))

-- the figures that a command gives
abbrev pub figures_of : ℕ → Command → Result Figures SheetFault
figures_of n (close ws) = closing_of n ws

-- the figures that the words of line n write
abbrev pub close_of : ℕ → List Text → Result Figures SheetFault
close_of n ws = bind (command_of n ws) (figures_of n)

-- The figures of the closing that line n asks for.
abbrev pub read_close : ℕ → Raw → Result Figures SheetFault
read_close n l = read close_of n l
