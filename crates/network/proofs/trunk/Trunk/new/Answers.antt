use Rattle.std.proofs.Common.{◌≡◌, ap, inr, arith}
use Rattle.network.specs.declared.trunk.Trunk.{Trunk}
use Rattle.network.specs.Trunk.{trunk_net, trunk_rules}
use Rattle.network.specs.Meanings.{of_trunk}
use Rattle.network.proofs.Firsts.{none_bad, first_bad_lem}
use Rattle.network.proofs.Makings.{no_memory}
use Rattle.network.proofs.trunk.Trunk.new.Goals as goal

pub returns-in-Some : goal.returns-in-Some
returns-in-Some c = inr (grind arith, first_bad_lem _ _ c.in-Some.i c.in-Some.ensures)

pub returns-in_err-positions : goal.returns-in_err-positions
returns-in_err-positions c =
    let ps = c.args.positions.now in
    no_memory (trunk_rules ps) (λ (t : Trunk). of_trunk t ≡ trunk_net ps) _ (grind arith, none_bad _ _ c.in_default.ensures) c.from_residual.ensures.1

pub returns : goal.returns
returns c = ((grind arith, none_bad _ _ c.in_default.ensures), ap trunk_net c.in_ok-positions.ensures.items)
