use Rattle.network.specs.Links.{link_law}
use Rattle.network.proofs.link.Link.new.Goals as goal

pub returns-in-Ok-clause-law : goal.returns-in-Ok-clause-law
returns-in-Ok-clause-law g c = link_law _ (g.met.S.Source.lawful c.args.below)

pub returns-in-Err-clause-law : goal.returns-in-Err-clause-law
returns-in-Err-clause-law g c = link_law _ (g.met.S.Source.lawful c.args.below)
