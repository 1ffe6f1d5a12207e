use Rattle.rules.specs.declared.calls.Answer.TheVariants.{Drawn}
use Rattle.book.proofs.Runs.{keeps, kept_still}
use Rattle.book.proofs.ledger.Book.draw.Goals as goal

pub returns : goal.returns
returns g c = keeps _ (g.met.S.Source.lawful c.args.self.now.source) (λ d. Drawn d.figures) _ _ _ _ (kept_still c.draw.result _) c.draw.ensures
