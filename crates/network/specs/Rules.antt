-- What making a source comes back with, under rules in the order of their checks.
use Rattle.std.specs.Prelude.{◌≡◌, ℕ, zero, suc, ◌+◌, ◌<◌, List, [], ◌∷◌, Some, None, Ok, Err, Option, Result}
use Rattle.terms.specs.declared.faults.SourceFault.{SourceFault}
use Rattle.terms.specs.declared.faults.SourceFault.TheVariants.{NoStation, WrongCount, BadFigure, NoMemory}
use Rattle.terms.specs.Faults.{source_refusal}
use Rattle.terms.specs.Refusals.{Rule, rule, FirstBroken, NoneBroken}
use Rattle.network.specs.declared.refused.RefusedLayer.{RefusedLayer}

-- the rule that is broken where Bad holds, and refused with that fault
abbrev pub refused : SourceFault → Type 0 → Rule
refused fault Bad = rule (source_refusal fault) Bad

-- A rule for each of the k places from i on: it is broken where Bad holds of the place, and names the place.
abbrev pub each : (ℕ → Type 0) → ℕ → ℕ → List Rule
each Bad i zero = []
each Bad i (suc k) = refused (BadFigure i) (Bad i) ∷ each Bad (i + 1) k

-- A source of which P holds is made where no rule is broken; else the first broken rule is told.
-- Memory may be wanting where no rule is broken.
abbrev pub Made : {T : Type 0} → List Rule → (T → Type 0) → Result T SourceFault → Type 0
Made rules P (Ok s) = NoneBroken rules × P s
Made rules P (Err NoStation) = FirstBroken rules (source_refusal NoStation)
Made rules P (Err WrongCount) = FirstBroken rules (source_refusal WrongCount)
Made rules P (Err (BadFigure i)) = FirstBroken rules (source_refusal (BadFigure i))
Made rules P (Err NoMemory) = NoneBroken rules

-- A layer of which P holds is made where no rule is broken; else what it was to stand on comes back with the first broken rule.
abbrev pub Layered : {T S : Type 0} → List Rule → S → (T → Type 0) → Result T (RefusedLayer S) → Type 0
Layered rules below P (Ok layer) = NoneBroken rules × P layer
Layered rules below P (Err e) = FirstBroken rules (source_refusal e.fault) × (e.below ≡ below)

-- the first of the k places at which Bad holds, or none
abbrev pub First : (ℕ → Type 0) → ℕ → Option ℕ → Type 0
First Bad k None = (j : ℕ) → j < k → Bad j → ⊥
First Bad k (Some i) = (i < k) × (((j : ℕ) → j < i → Bad j → ⊥) × Bad i)
