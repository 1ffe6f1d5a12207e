use Rattle.rules.specs.declared.calls.Answer.TheVariants.{Done}
use Rattle.book.proofs.Runs.{keeps}
use Rattle.book.proofs.ledger.Book.plan.Goals as goal

pub returns-clause-keeps : goal.returns-clause-keeps
returns-clause-keeps g c =
    let net = g.S.Source.net c.args.self.now.source in
    let e = c.plan.ensures in
    keeps net (g.met.S.Source.lawful c.args.self.now.source) (λ _. Done) _ _ _ _ e.kept (e.step net)
