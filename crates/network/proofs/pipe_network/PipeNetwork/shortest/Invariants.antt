use Rattle.std.proofs.Common.{◌≡◌}
use Rattle.network.specs.Pipes.{Joins}
use Rattle.network.proofs.Stages.{Stage}
use Rattle.network.proofs.Lays.{Laid, distances}
use Rattle.network.proofs.pipe_network.PipeNetwork.shortest.Given as goal

abbrev pub invariant-loop-p : goal.invariant-loop-p
invariant-loop-p l = let s = l.self in (l.grid.count ≡ s.count) × Laid s.count s.pipes.now l.p-index l.grid.figures.items

abbrev pub invariant-loop-k : goal.invariant-loop-k
invariant-loop-k l = let s = l.self in (l.grid.count ≡ s.count) × Stage (Joins s.pipes.now) s.count (distances s.count l.grid.figures.items) l.k
