use Rattle.std.proofs.Common.{ap, ◌∙◌}
use Rattle.book.specs.Records.{record_lots}
use Rattle.book.specs.Shows.{held_in}
use Rattle.book.proofs.Showing.{side_lots}
use Rattle.book.proofs.ledger.Book.lots.Goals as goal

pub returns-clause-figure : goal.returns-clause-figure
returns-clause-figure g c = λ p sh. c.lots.ensures.value ∙ ap (λ row. record_lots (held_in row)) c.row.ensures ∙ side_lots c.args.self.now.table p sh c.args.side
