use Rattle.std.proofs.Common.{ℕ, sym, subst, arith}
use Rattle.network.specs.Grid.{GridLaws}
use Rattle.network.proofs.Lays.{least_laws, unlock_pipes}
use Rattle.network.proofs.pipe_network.PipeNetwork.distances.Goals as goal

pub invariant_of-result : goal.invariant_of-result
invariant_of-result c =
    let s = c.args.self.now in
    let g = c.in_ok-grid.grid in
    let made = c.in_ok-grid.ensures in
    let laws = least_laws s.count s.pipes.now (unlock_pipes s.count s.pipes.now s.good) g.figures.items made.1 s.some s.few in
    record { some = omega (arith, made.0, s.some); laws = ∣ subst (λ (x : ℕ). GridLaws x g.figures.items) (sym made.0) laws ∣₁ }
