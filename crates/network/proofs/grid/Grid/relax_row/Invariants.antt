use Rattle.std.proofs.Common.{◌≡◌}
use Rattle.network.proofs.Passes.{Row}
use Rattle.network.proofs.grid.Grid.relax_row.Given as goal

abbrev pub invariant-loop-b : goal.invariant-loop-b
invariant-loop-b l = let g = l.initial.self in (l.self.count ≡ g.count) × Row g.count g.figures.items l.k l.a l.b l.self.figures.items
