use Rattle.std.proofs.Common.{◌≡◌}
use Rattle.network.proofs.Passes.{Rows}
use Rattle.network.proofs.grid.Grid.relax.Given as goal

abbrev pub invariant-loop-a : goal.invariant-loop-a
invariant-loop-a l = let g = l.initial.self in (l.self.count ≡ g.count) × Rows g.count g.figures.items l.k l.a l.self.figures.items
