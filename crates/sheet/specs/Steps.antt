-- What the steps of a run are held to. A reader of the rules can pass this by.
use Rattle.std.specs.Prelude.{◌≡◌, ℕ, ◌⊎◌, ◌++◌, ℤ, Err, Result}
use Rattle.revenue.specs.declared.figures.Figures.{Figures}
use Rattle.lines.specs.Bytes.{Text}
use Rattle.lines.specs.Lines.{Raw}
use Rattle.lines.specs.Reading.{read_close}
use Rattle.lines.specs.declared.faults.SheetFault.{SheetFault}
use Rattle.lines.specs.declared.faults.SheetFault.TheVariants.{NoMemory}
use Rattle.sheet.specs.Printed.{Outcome, line_text}
use Rattle.sheet.specs.Meaning.{Comes, carried_after}

-- A line comes back as its meaning says, or for want of memory.
abbrev pub ComesOrNoMemory : ℤ → Result Figures SheetFault → Outcome → Type 0
ComesOrNoMemory carried asked o = Comes carried asked o ⊎ (o ≡ Err NoMemory)

-- Line n puts what it comes back with after what was printed, and carries on what it leaves.
pub record Turns (n : ℕ) (carried : ℤ) (l : Raw) (old new : Text) (next : ℤ) : Type 0 where
  pub outcome : Outcome
  pub comes : Comes carried (read_close n l) outcome
  pub put : new ≡ old ++ line_text n outcome
  pub left : next ≡ carried_after carried outcome
