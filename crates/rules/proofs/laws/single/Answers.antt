use Rattle.rules.proofs.Histories.{single}
use Rattle.rules.proofs.laws.single.Goals as goal

pub returns : goal.returns
returns c = single
