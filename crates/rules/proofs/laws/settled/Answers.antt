use Rattle.rules.proofs.Outcomes.{settled}
use Rattle.rules.proofs.laws.settled.Goals as goal

pub returns : goal.returns
returns c = settled
