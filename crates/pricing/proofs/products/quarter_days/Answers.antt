use Rattle.std.proofs.Common.{rules}
use Rattle.pricing.proofs.Months.{quarter_sum, three_months}
use Rattle.pricing.proofs.products.quarter_days.Goals as goal

pub sum-requires-clause-fits : goal.sum-requires-clause-fits
sum-requires-clause-fits c = search (rules, three_months)

pub returns : goal.returns
returns c = let h = quarter_sum c.args.quarter c.requires in search rules
