use Rattle.std.proofs.Common.{rules}
use Rattle.revenue.proofs.Balances.{continues}
use Rattle.revenue.proofs.period.close.Goals as goal

pub returns-clause-law : goal.returns-clause-law
returns-clause-law c = continues c.args.carried.amount.0 c.args.figures c.settle.result (search rules)
