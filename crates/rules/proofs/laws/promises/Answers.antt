use Rattle.rules.proofs.Promised.{promised}
use Rattle.rules.proofs.laws.promises.Goals as goal

pub returns : goal.returns
returns c = promised
