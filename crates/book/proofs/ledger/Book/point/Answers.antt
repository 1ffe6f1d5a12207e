use Rattle.std.proofs.Common.{get_or, sym, ap, ◌∙◌}
use Rattle.std.proofs.lemmas.Option.{slice_get_past}
use Rattle.book.specs.Records.{blank}
use Rattle.book.specs.Shows.{held_in}
use Rattle.book.proofs.Plans.{past, seen_point}
use Rattle.book.proofs.ledger.Book.point.Goals as goal

pub returns-in_err-side-clause-figure : goal.returns-in_err-side-clause-figure
returns-in_err-side-clause-figure g c = rw c.from_residual.ensures (λ p sh. sym (slice_get_past p.points c.args.number (past c.args.self.now.table p sh c.args.number c.in_err-side.ensures)))

pub returns-clause-figure : goal.returns-clause-figure
returns-clause-figure g c =
    let r = ap (λ rs. get_or rs c.in_ok-side.at blank) (c.held.ensures.value ∙ ap held_in c.row.ensures) in
    λ p sh. seen_point c.args.self.now.table p sh c.in_ok-side.side c.in_ok-side.at c.args.number c.in_ok-side.ensures _ r
