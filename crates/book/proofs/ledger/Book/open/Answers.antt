use Rattle.rules.specs.declared.calls.Answer.TheVariants.{Opened}
use Rattle.book.proofs.Runs.{keeps}
use Rattle.book.proofs.ledger.Book.open.Goals as goal

pub returns-clause-keeps : goal.returns-clause-keeps
returns-clause-keeps g c =
    let e = c.open.ensures in
    keeps _ (g.met.S.Source.lawful c.args.self.now.source) Opened _ _ _ _ e.kept e.step
