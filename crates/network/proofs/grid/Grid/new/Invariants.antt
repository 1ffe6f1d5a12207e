use Rattle.std.proofs.Common.{◌≡◌, ℕ, ◌<◌, cond, eqb, ltb}
use Rattle.network.specs.Limits.{none_figure}
use Rattle.network.specs.Grid.{at}
use Rattle.network.proofs.grid.Grid.new.Given as goal

abbrev pub invariant-loop-a : goal.invariant-loop-a
invariant-loop-a l = (l.grid.count ≡ l.count) × ((c d : ℕ) → c < l.count → d < l.count → at l.count l.grid.figures.items c d ≡ cond (eqb c d) (cond (ltb c l.a) 0 none_figure) none_figure)
