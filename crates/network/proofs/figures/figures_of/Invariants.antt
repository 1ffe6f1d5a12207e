use Rattle.std.proofs.Common.{◌≡◌, ℕ, ◌+◌, ◌*◌, ◌/◌, ◌%◌, ◌<◌, List, get_or, vec_items, vec_len}
use Rattle.network.specs.Net.{Net}
use Rattle.network.specs.Grid.{figure_of}
use Rattle.network.proofs.figures.figures_of.Given as goal

-- the first i figures of n columns are the net's
abbrev pub Told : Net → ℕ → ℕ → List ℕ → Type 0
Told net n i ws = (k : ℕ) → k < i → get_or ws k 0 ≡ figure_of (net.distance (k / n) (k % n))

abbrev pub invariant-loop-a : goal.invariant-loop-a
invariant-loop-a g l = (vec_len l.figures ≡ l.a * l.n) × Told (g.S.Source.net l.source) l.n (l.a * l.n) (vec_items l.figures)

abbrev pub invariant-loop-b : goal.invariant-loop-b
invariant-loop-b g l = (vec_len l.figures ≡ l.a * l.n + l.b) × Told (g.S.Source.net l.source) l.n (l.a * l.n + l.b) (vec_items l.figures)
