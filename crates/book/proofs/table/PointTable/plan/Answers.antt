use Rattle.std.proofs.Common.{get_or, set, ap, ◌∙◌}
use Rattle.std.proofs.lemmas.Result.{err_from_is_err_and}
use Rattle.rules.specs.declared.calls.Call.TheVariants.{Plan}
use Rattle.rules.specs.Plain.{refused, accepted, after}
use Rattle.book.specs.declared.row.Row.{Row}
use Rattle.book.specs.Records.{relotted, blank}
use Rattle.book.specs.Shows.{held_in, row_of}
use Rattle.book.proofs.Plans.{shows_planned}
use Rattle.book.proofs.table.PointTable.plan.Goals as goal

pub returns-in_err-side-clause-step : goal.returns-in_err-side-clause-step
returns-in_err-side-clause-step c =
    let e = err_from_is_err_and c.from_residual.result c.from_residual.ensures.1 in
    rw (e.1, e.2) (λ net p sh. (p, refused (c.in_err-side.ensures.checked net p sh), sh))

pub returns-clause-step : goal.returns-clause-step
returns-clause-step c =
    let t = c.args.self.now in
    let side = c.in_ok-side.side in
    let at = c.in_ok-side.at in
    let found = c.in_ok-side.ensures in
    let e = c.held.ensures.value ∙ ap held_in c.row.ensures in
    let row = c.row_mut.ensures.row in
    λ net p sh. (
      after p (Plan c.args.point c.args.lots),
      accepted (found.checked net p sh),
      shows_planned t p sh side at c.args.point found.place.place c.args.lots c.put.new.self
          (c.put.ensures.held
          ∙ ap (λ rs. set rs at (relotted (get_or c.held.result.now at blank) c.args.lots.0)) (ap held_in row)
          ∙ ap (λ rs. set (held_in (row_of t side)) at (relotted (get_or rs at blank) c.args.lots.0)) e)
          (c.put.ensures.relief ∙ ap (λ (r : Row). r.relief) row),
    )
