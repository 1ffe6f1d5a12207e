-- What each fault tells: the number of the rule, the part that raised it and the place.
use Rattle.std.specs.Prelude.{ℕ}
use Rattle.terms.specs.declared.faults.ClosingFigure.{ClosingFigure}
use Rattle.terms.specs.declared.faults.ClosingFigure.TheVariants.{Operating, Depreciation, Assets, Rate, Delivered, Loss, GasPrice, NonStandard, OtherRevenue, Justified, Realised, Index}
use Rattle.terms.specs.declared.faults.SourceFault.{SourceFault}
use Rattle.terms.specs.declared.faults.SourceFault.TheVariants as source
use Rattle.terms.specs.declared.faults.BookFault.{BookFault}
use Rattle.terms.specs.declared.faults.BookFault.TheVariants as book
use Rattle.terms.specs.declared.refusals.Part.TheVariants as part
use Rattle.terms.specs.declared.refusals.Refusal.{Refusal}
use Rattle.terms.specs.Refusals.{refusal}

-- the twelve figures of a closing are counted from 1
abbrev pub figure_number : ClosingFigure → ℕ
figure_number Operating = 1
figure_number Depreciation = 2
figure_number Assets = 3
figure_number Rate = 4
figure_number Delivered = 5
figure_number Loss = 6
figure_number GasPrice = 7
figure_number NonStandard = 8
figure_number OtherRevenue = 9
figure_number Justified = 10
figure_number Realised = 11
figure_number Index = 12

-- Want of memory breaks no rule: its number is 0.
abbrev pub source_refusal : SourceFault → Refusal
source_refusal source.NoStation = refusal 3 part.Source 0
source_refusal source.WrongCount = refusal 18 part.Source 0
source_refusal (source.BadFigure index) = refusal 19 part.Source index
source_refusal source.NoMemory = refusal 0 part.Source 0

-- A source's fault keeps its number, part and place inside the book's.
abbrev pub book_refusal : BookFault → Refusal
book_refusal (book.Source fault) = source_refusal fault
book_refusal book.KindNotOfSide = refusal 1 part.Book 0
book_refusal book.SideFull = refusal 2 part.Book 0
book_refusal book.NoStation = refusal 3 part.Book 0
book_refusal book.NoDistance = refusal 4 part.Book 0
book_refusal book.TooFar = refusal 5 part.Book 0
book_refusal book.NoPoint = refusal 6 part.Book 0
book_refusal book.TooManyLots = refusal 7 part.Book 0
book_refusal book.ReliefTooHigh = refusal 8 part.Book 0
book_refusal (book.OutOfRange figure) = refusal 9 part.Book (figure_number figure)
book_refusal book.BaseBelowZero = refusal 10 part.Book 0
book_refusal book.CarriedTooLarge = refusal 11 part.Book 0
book_refusal book.AllowedTooLarge = refusal 12 part.Book 0
book_refusal book.NoEntryShares = refusal 13 part.Book 0
book_refusal book.NoExitShares = refusal 14 part.Book 0
book_refusal book.NoProduct = refusal 15 part.Book 0
book_refusal book.MultiplierOutOfRange = refusal 16 part.Book 0
book_refusal book.NoTariff = refusal 17 part.Book 0
