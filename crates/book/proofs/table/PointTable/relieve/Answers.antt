use Rattle.std.proofs.Common.{◌≡◌, ap, ◌∙◌, inl, refl, arith}
use Rattle.std.proofs.lemmas.Result.{err_from_is_err_and}
use Rattle.terms.specs.declared.faults.BookFault.TheVariants.{ReliefTooHigh}
use Rattle.pricing.specs.declared.relief.Relief.{Relief}
use Rattle.rules.specs.declared.calls.Call.TheVariants.{Relieve}
use Rattle.rules.specs.Plain.{refused, accepted, after}
use Rattle.book.specs.Shows.{held_in}
use Rattle.book.proofs.Settling.{shows_relieved}
use Rattle.book.proofs.table.PointTable.relieve.Goals as goal

pub returns-in_err-relief-clause-step : goal.returns-in_err-relief-clause-step
returns-in_err-relief-clause-step c =
    let e = err_from_is_err_and c.from_residual.result c.from_residual.ensures.1 in
    let v = c.in_err-relief.ensures.value in
    let w = c.in_err-relief.was in
    let none = c.in_err-relief.ensures.ok_part in
    let told : c.in_err-relief.field-0.0 ≡ ReliefTooHigh = grind (arith, v, w, none) in
    rw (e.1, e.2, told) (λ net p sh. (p, refused (inl (rw none at c.new.ensures, refl)), sh))

pub returns-clause-step : goal.returns-clause-step
returns-clause-step c =
    let e = rw c.in_ok-relief.ensures.ok_part at c.new.ensures in
    let b = c.in_ok-relief.relief.bounded in
    λ net p sh. (
      after p (Relieve c.args.side c.args.parts),
      accepted ((λ k. omega (arith, e, b)), tt),
      shows_relieved c.args.self.now c.args.side c.relieve.new.self p c.args.parts (c.relieve.ensures.held ∙ ap held_in c.row_mut.ensures.row) (ap (λ (r : Relief). r.parts) c.relieve.ensures.relief ∙ e) sh,
    )
