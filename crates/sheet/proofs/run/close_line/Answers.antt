use Rattle.std.proofs.lemmas.Result.{err_from_is_err_and}
use Rattle.lines.specs.Reading.{read_close}
use Rattle.lines.specs.Seen.{raw_of}
use Rattle.sheet.proofs.Turns.{refused_comes}
use Rattle.sheet.proofs.run.close_line.Goals as goal

pub returns-in_err-close-clause-comes : goal.returns-in_err-close-clause-comes
returns-in_err-close-clause-comes c =
    let p = err_from_is_err_and c.from_residual-in_err-close.result c.from_residual-in_err-close.ensures.1 in
    rw (p.1, p.2) (refused_comes c.args.carried.amount.0 (read_close c.args.n (raw_of c.args.line)) c.in_ok-figures.figures _ c.in_ok-figures.ensures.due c.in_err-close.ensures.ruled)
