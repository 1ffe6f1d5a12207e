use Rattle.pricing.proofs.Priced.{price_law}
use Rattle.pricing.proofs.decision.Approved.price.Goals as goal

pub returns-clause-lawful : goal.returns-clause-lawful
returns-clause-lawful c = λ year. price_law year _ _ c.args.product
