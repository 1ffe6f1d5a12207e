use Rattle.book.proofs.Runs.{stands_empty}
use Rattle.book.proofs.ledger.Book.new.Goals as goal

pub returns-clause-law : goal.returns-clause-law
returns-clause-law g c = stands_empty _ (g.met.S.Source.lawful c.args.source) _ c.new.ensures
