use Rattle.std.proofs.Common.{◌≡◌, refl, inl, inr, arith}
use Rattle.std.proofs.lemmas.Result.{err_from_is_err_and}
use Rattle.terms.specs.declared.faults.BookFault.TheVariants.{NoPoint}
use Rattle.book.proofs.Plans.{past, known, overplanned, not_overplanned, lots_replanned}
use Rattle.book.proofs.table.PointTable.check_plan.Goals as goal

pub returns-in_err-side-clause-checked : goal.returns-in_err-side-clause-checked
returns-in_err-side-clause-checked c =
    let e = err_from_is_err_and c.from_residual.result c.from_residual.ensures.1 in
    let v = c.in_err-side.ensures.value in
    let w = c.in_err-side.was in
    let none = c.in_err-side.ensures.ok_part in
    let told : c.in_err-side.field-0.0 ≡ NoPoint = grind (arith, v, w, none) in
    rw (e.1, e.2, told) (λ net p sh. inl (past c.args.self.now p sh c.args.point (rw none at c.locate.ensures), refl))

pub returns-then-lots-others-clause-checked : goal.returns-then-lots-others-clause-checked
returns-then-lots-others-clause-checked c =
    let t = c.args.self.now in
    let found = rw c.in_ok-side.ensures.ok_part at c.locate.ensures in
    let k = lots_replanned t c.in_ok-side.side c.in_ok-side.at c.args.lots.0 _ _ _ found.0 c.row-row.ensures c.held.ensures.value c.lots.ensures.value in
    let b = c.lots.ensures.bound in
    λ net p sh. inr (
      known t p sh c.in_ok-side.side c.in_ok-side.at c.args.point found,
      inl (overplanned t p sh c.in_ok-side.side c.in_ok-side.at c.args.point found c.args.lots (omega (arith, k, b)), refl),
    )

pub returns-clause-checked : goal.returns-clause-checked
returns-clause-checked c =
    let t = c.args.self.now in
    let found = rw c.in_ok-side.ensures.ok_part at c.locate.ensures in
    let k = lots_replanned t c.in_ok-side.side c.in_ok-side.at c.args.lots.0 _ _ _ found.0 c.row-row.ensures c.held.ensures.value c.lots.ensures.value in
    let b = c.lots.ensures.bound in
    λ net p sh. (
      known t p sh c.in_ok-side.side c.in_ok-side.at c.args.point found,
      (not_overplanned t p sh c.in_ok-side.side c.in_ok-side.at c.args.point found c.args.lots (omega (arith, k, b)), tt),
    )
