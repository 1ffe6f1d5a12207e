-- What a `?` passes on where a source is made.
use Rattle.std.proofs.Common.{◌≡◌, List, Result}
use Rattle.std.specs.Prelude.{IsErrAnd}
use Rattle.std.proofs.lemmas.Result.{err_from_is_err_and}
use Rattle.terms.specs.declared.faults.SourceFault.{SourceFault}
use Rattle.terms.specs.declared.faults.SourceFault.TheVariants.{NoMemory}
use Rattle.terms.specs.Refusals.{Rule, NoneBroken}
use Rattle.network.specs.Rules.{Made}

-- no rule is broken, but memory is wanting
pub no_memory : {T : Type 0} (rules : List Rule) (P : T → Type 0) (r : Result T SourceFault) → NoneBroken rules → IsErrAnd r (λ e. e ≡ NoMemory) → Made rules P r
no_memory rules P r none h = let p = err_from_is_err_and r h in rw (p.1, p.2) none
