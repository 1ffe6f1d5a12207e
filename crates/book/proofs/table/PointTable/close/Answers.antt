use Rattle.std.proofs.Common.{ℕ, ℤ, refl, ap}
use Rattle.std.proofs.lemmas.Result.{err_from_is_err_and}
use Rattle.terms.specs.declared.measures.Dinars.{Dinars}
use Rattle.book.proofs.Settling.{closing_refused, closing_accepted}
use Rattle.book.proofs.table.PointTable.close.Goals as goal

pub returns-in_err-closing-clause-step : goal.returns-in_err-closing-clause-step
returns-in_err-closing-clause-step c =
    let e = err_from_is_err_and c.from_residual.result c.from_residual.ensures.1 in
    rw (e.1, e.2) (λ net p sh. closing_refused net c.args.self.now p c.args.figures sh _ c.in_err-closing.ensures.ruled)

pub returns-clause-step : goal.returns-clause-step
returns-clause-step c =
    let closing = c.in_ok-closing.closing in
    let allowed = rw c.unwrap-self.ensures at c.new.ensures in
    let rest = rw c.unwrap-self-2.ensures at c.new-2.ensures in
    λ net p sh.
    closing_accepted net c.args.self.now p c.args.figures sh closing _ c.in_ok-closing.ensures.ruled refl refl
    (ap (λ (d : Dinars ℕ). d.0) allowed) (ap (λ (d : Dinars ℤ). d.0) rest)
