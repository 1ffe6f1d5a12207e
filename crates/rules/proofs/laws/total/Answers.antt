use Rattle.rules.proofs.Verdicts.{total}
use Rattle.rules.proofs.laws.total.Goals as goal

pub returns : goal.returns
returns c = total
