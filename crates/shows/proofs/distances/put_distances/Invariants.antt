use Rattle.std.proofs.Common.{◌≡◌, ◌++◌, string_bytes}
use Rattle.shows.specs.Tables.{cells}
use Rattle.shows.proofs.distances.put_distances.Given as goal

abbrev pub invariant-loop-b : goal.invariant-loop-b
invariant-loop-b g l = string_bytes l.out ≡ string_bytes l.initial.out ++ cells ((g.S.Source.net l.source).distance l.a) l.b
