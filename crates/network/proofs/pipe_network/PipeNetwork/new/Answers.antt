use Rattle.std.proofs.Common.{refl, inr, arith}
use Rattle.network.proofs.Firsts.{none_bad, first_bad_lem}
use Rattle.network.proofs.Lays.{goods_of}
use Rattle.network.proofs.pipe_network.PipeNetwork.new.Goals as goal

pub returns-in-Some : goal.returns-in-Some
returns-in-Some c = inr (grind arith, first_bad_lem _ _ c.in-Some.i c.in-Some.ensures)

pub invariant_of-result : goal.invariant_of-result
invariant_of-result c = record { some = omega arith; few = omega arith; good = ∣ goods_of c.args.n c.args.pipes.now c.in_default.ensures ∣₁ }

pub returns : goal.returns
returns c = ((grind arith, none_bad _ _ c.in_default.ensures), (refl, refl))
