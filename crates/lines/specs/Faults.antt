-- What each of the sheet's faults tells: the number of the rule, the part that raised it and the place.
use Rattle.terms.specs.Faults.{book_refusal}
use Rattle.terms.specs.Refusals.{refusal}
use Rattle.terms.specs.declared.refusals.Part.TheVariants.{Sheet}
use Rattle.terms.specs.declared.refusals.Refusal.{Refusal}
use Rattle.lines.specs.declared.faults.SheetFault.{SheetFault}
use Rattle.lines.specs.declared.faults.SheetFault.TheVariants.{Book, UnknownWord, BadNumber, WordCount, TooLong, NoMemory}

-- The book's fault keeps its number, part and place inside the sheet's. Want of memory breaks no rule: its number is 0.
abbrev pub sheet_refusal : SheetFault → Refusal
sheet_refusal (Book fault) = book_refusal fault
sheet_refusal (UnknownWord line) = refusal 20 Sheet line
sheet_refusal (BadNumber line) = refusal 21 Sheet line
sheet_refusal (WordCount line) = refusal 22 Sheet line
sheet_refusal (TooLong line) = refusal 23 Sheet line
sheet_refusal NoMemory = refusal 0 Sheet 0
