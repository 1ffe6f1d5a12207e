-- A line's turn in a run.
use Rattle.std.proofs.Common.{◌≡◌, ℕ, ℤ, Ok, Err, Result, sym, ap, subst, inl, inr, arith}
use Rattle.terms.specs.Faults.{book_refusal}
use Rattle.terms.specs.Refusals.{FirstBroken, NoneBroken}
use Rattle.terms.specs.declared.faults.BookFault.{BookFault}
use Rattle.revenue.specs.declared.figures.Figures.{Figures}
use Rattle.revenue.specs.declared.figures.Closing.{Closing}
use Rattle.revenue.specs.Checks.{close_rules}
use Rattle.revenue.specs.Closings.{closing_of}
use Rattle.lines.specs.Reading.{DueOrNoMemory}
use Rattle.lines.specs.declared.faults.SheetFault.{SheetFault}
use Rattle.lines.specs.declared.faults.SheetFault.TheVariants.{Book, NoMemory}
use Rattle.sheet.specs.Meaning.{Comes, misread, refused, closed}
use Rattle.sheet.specs.Steps.{ComesOrNoMemory}

-- what was read is what was due
read_is : (due : Result Figures SheetFault) (f : Figures) → DueOrNoMemory due (Ok f) → Ok f ≡ due
read_is due f (inl e) = e
read_is due f (inr e) = let z : ◌≡◌ {A = ℕ} 0 1 = cc in absurd (omega arith)

pub misread_comes : (carried : ℤ) (due : Result Figures SheetFault) (fault : SheetFault) → DueOrNoMemory due (Err fault) → ComesOrNoMemory carried due (Err fault)
misread_comes carried due fault (inl e) = inl (subst (λ d. Comes carried d (Err fault)) e misread)
misread_comes carried due fault (inr e) = inr (let f : fault ≡ NoMemory = cc in ap (λ x. Err x) f)

pub refused_comes : (carried : ℤ) (due : Result Figures SheetFault) (f : Figures) (fault : BookFault) → DueOrNoMemory due (Ok f)
    → FirstBroken (close_rules carried f) (book_refusal fault) → ComesOrNoMemory carried due (Err (Book fault))
refused_comes carried due f fault d b = inl (subst (λ a. Comes carried a (Err (Book fault))) (read_is due f d) (refused b))

pub closed_comes : (carried : ℤ) (due : Result Figures SheetFault) (f : Figures) (c : Closing) → DueOrNoMemory due (Ok f)
    → NoneBroken (close_rules carried f) × (c ≡ closing_of carried f) → ComesOrNoMemory carried due (Ok c)
closed_comes carried due f c d r =
    inl (subst (λ k. Comes carried due (Ok k)) (sym r.1) (subst (λ a. Comes carried a (Ok (closing_of carried f))) (read_is due f d) (closed r.0)))
