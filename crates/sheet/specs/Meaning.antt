-- What a sheet of closings means: each line closes the next period, or is refused and closes nothing.
use Rattle.std.specs.Prelude.{◌≡◌, ℕ, ◌+◌, ◌<◌, ◌≤◌, List, [], ◌∷◌, length, ℤ, pos, Ok, Err, Result}
use Rattle.terms.specs.Faults.{book_refusal}
use Rattle.terms.specs.Refusals.{FirstBroken, NoneBroken}
use Rattle.terms.specs.declared.faults.BookFault.{BookFault}
use Rattle.revenue.specs.declared.figures.Figures.{Figures}
use Rattle.revenue.specs.declared.figures.Closing.{Closing}
use Rattle.revenue.specs.Checks.{close_rules}
use Rattle.revenue.specs.Closings.{closing_of}
use Rattle.revenue.specs.Law.{Accepted, Balanced}
use Rattle.lines.specs.Bytes.{Text}
use Rattle.lines.specs.Limits.{longest_sheet}
use Rattle.lines.specs.Lines.{Raw, lines}
use Rattle.lines.specs.Reading.{read_close}
use Rattle.lines.specs.declared.faults.SheetFault.{SheetFault}
use Rattle.lines.specs.declared.faults.SheetFault.TheVariants.{Book}
use Rattle.sheet.specs.Printed.{Outcome, refused_text, printed}

-- What a line comes back with, where so much is carried on to it.
pub data Comes (carried : ℤ) : Result Figures SheetFault → Outcome → Type 0 where
  -- the line does not write a closing
  misread : {fault : SheetFault} → Comes carried (Err fault) (Err fault)
  -- it does, and the closing breaks a rule; the book's fault stays whole inside the sheet's
  refused : {f : Figures} {fault : BookFault} → FirstBroken (close_rules carried f) (book_refusal fault) → Comes carried (Ok f) (Err (Book fault))
  -- it does, and the period is closed
  closed : {f : Figures} → NoneBroken (close_rules carried f) → Comes carried (Ok f) (Ok (closing_of carried f))

-- What is carried on after a line: a refused one changes nothing.
abbrev pub carried_after : ℤ → Outcome → ℤ
carried_after carried (Ok c) = c.rest.0
carried_after carried (Err f) = carried

-- What lines come back with, the first of them being line n, and what is carried on after the last.
pub data Answers : ℕ → ℤ → List Raw → List Outcome → ℤ → Type 0 where
  none : {n : ℕ} {carried : ℤ} → Answers n carried [] [] carried
  more : {n : ℕ} {carried last : ℤ} {l : Raw} {ls : List Raw} {o : Outcome} {os : List Outcome}
      → Comes carried (read_close n l) o → Answers (n + 1) (carried_after carried o) ls os last → Answers n carried (l ∷ ls) (o ∷ os) last

-- the closings among them
abbrev pub closings_in : List Outcome → List Closing
closings_in [] = []
closings_in (Ok c ∷ os) = c ∷ closings_in os
closings_in (Err f ∷ os) = closings_in os

-- Lines that print this text.
pub record Printed (ls : List Raw) (text : Text) : Type 0 where
  pub outcomes : List Outcome
  pub carried : ℤ
  -- the lines come back with these outcomes, from line 1 and nothing carried on
  pub answered : Answers 1 (pos 0) ls outcomes carried
  -- and these are what is printed
  pub shown : text ≡ printed 1 outcomes
  -- the periods that were closed follow one another
  pub accepted : Accepted (closings_in outcomes) carried
  -- all that was corrected was taken in or is still carried, within the limits
  pub balanced : Balanced (closings_in outcomes) carried

-- What a sheet prints.
pub data Means (sheet : Text) : Text → Type 0 where
  long : longest_sheet < length sheet → Means sheet (refused_text 0 23)
  fits : {text : Text} → length sheet ≤ longest_sheet → Printed (lines sheet) text → Means sheet text

-- A sheet prints this text, and no other.
pub record Output (sheet text : Text) : Type 0 where
  pub means : Means sheet text
  pub only : (other : Text) → Means sheet other → other ≡ text
