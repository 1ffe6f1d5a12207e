use Rattle.std.proofs.Common.{◌≡◌, string_bytes}
use Rattle.shows.specs.Tables.{rows}
use Rattle.shows.proofs.distances.distance_table.Given as goal

abbrev pub invariant-loop-a : goal.invariant-loop-a
invariant-loop-a g l = string_bytes l.out ≡ rows (g.S.Source.net l.source) l.a
