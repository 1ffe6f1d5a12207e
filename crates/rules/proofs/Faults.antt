-- A book's fault is known by what its refusal tells: the number, the part and the place.
use Rattle.std.proofs.Common.{◌≡◌, ℕ, cond, eqb, sym, refl, ap, ◌∙◌}
use Rattle.terms.specs.declared.faults.ClosingFigure.{ClosingFigure}
use Rattle.terms.specs.declared.faults.ClosingFigure.TheVariants.{Operating, Depreciation, Assets, Rate, Delivered, Loss, GasPrice, NonStandard, OtherRevenue, Justified, Realised, Index}
use Rattle.terms.specs.declared.faults.SourceFault.{SourceFault}
use Rattle.terms.specs.declared.faults.SourceFault.TheVariants as source
use Rattle.terms.specs.declared.faults.BookFault.{BookFault}
use Rattle.terms.specs.declared.faults.BookFault.TheVariants as book
use Rattle.terms.specs.declared.refusals.Part.{Part}
use Rattle.terms.specs.declared.refusals.Part.TheVariants as part
use Rattle.terms.specs.declared.refusals.Refusal.{Refusal}
use Rattle.terms.specs.Faults.{figure_number, source_refusal, book_refusal}

-- the figure with this number
abbrev figure_of : ℕ → ClosingFigure
figure_of n =
    cond (eqb n 1) Operating (cond (eqb n 2) Depreciation (cond (eqb n 3) Assets (cond (eqb n 4) Rate
    (cond (eqb n 5) Delivered (cond (eqb n 6) Loss (cond (eqb n 7) GasPrice (cond (eqb n 8) NonStandard
    (cond (eqb n 9) OtherRevenue (cond (eqb n 10) Justified (cond (eqb n 11) Realised Index))))))))))

-- the source's fault with this number and place
abbrev source_fault_of : ℕ → ℕ → SourceFault
source_fault_of n at = cond (eqb n 3) source.NoStation (cond (eqb n 18) source.WrongCount (cond (eqb n 19) (source.BadFigure at) source.NoMemory))

-- the book's own fault with this number and place
abbrev own_fault_of : ℕ → ℕ → BookFault
own_fault_of n at =
    cond (eqb n 1) book.KindNotOfSide (cond (eqb n 2) book.SideFull (cond (eqb n 3) book.NoStation (cond (eqb n 4) book.NoDistance
    (cond (eqb n 5) book.TooFar (cond (eqb n 6) book.NoPoint (cond (eqb n 7) book.TooManyLots (cond (eqb n 8) book.ReliefTooHigh
    (cond (eqb n 9) (book.OutOfRange (figure_of at)) (cond (eqb n 10) book.BaseBelowZero (cond (eqb n 11) book.CarriedTooLarge
    (cond (eqb n 12) book.AllowedTooLarge (cond (eqb n 13) book.NoEntryShares (cond (eqb n 14) book.NoExitShares
    (cond (eqb n 15) book.NoProduct (cond (eqb n 16) book.MultiplierOutOfRange book.NoTariff)))))))))))))))

-- the fault that this part tells so; no book's fault is of the sheet
abbrev part_fault_of : Part → ℕ → ℕ → BookFault
part_fault_of part.Source n at = book.Source (source_fault_of n at)
part_fault_of part.Book n at = own_fault_of n at
part_fault_of part.Sheet n at = own_fault_of n at

abbrev fault_of_lem : Refusal → BookFault
fault_of_lem r = part_fault_of r.part r.number r.place

source_told : (f : SourceFault) → fault_of_lem (source_refusal f) ≡ book.Source f
source_told source.NoStation = refl
source_told source.WrongCount = refl
source_told (source.BadFigure index) = refl
source_told source.NoMemory = refl

figure_told : (f : ClosingFigure) → figure_of (figure_number f) ≡ f
figure_told Operating = refl
figure_told Depreciation = refl
figure_told Assets = refl
figure_told Rate = refl
figure_told Delivered = refl
figure_told Loss = refl
figure_told GasPrice = refl
figure_told NonStandard = refl
figure_told OtherRevenue = refl
figure_told Justified = refl
figure_told Realised = refl
figure_told Index = refl

told : (f : BookFault) → fault_of_lem (book_refusal f) ≡ f
told (book.Source f) = source_told f
told book.KindNotOfSide = refl
told book.SideFull = refl
told book.NoStation = refl
told book.NoDistance = refl
told book.TooFar = refl
told book.NoPoint = refl
told book.TooManyLots = refl
told book.ReliefTooHigh = refl
told (book.OutOfRange f) = ap book.OutOfRange (figure_told f)
told book.BaseBelowZero = refl
told book.CarriedTooLarge = refl
told book.AllowedTooLarge = refl
told book.NoEntryShares = refl
told book.NoExitShares = refl
told book.NoProduct = refl
told book.MultiplierOutOfRange = refl
told book.NoTariff = refl

-- faults with one refusal are one
pub same_fault : (x y : BookFault) → book_refusal x ≡ book_refusal y → x ≡ y
same_fault x y e = sym (told x) ∙ ap fault_of_lem e ∙ told y
