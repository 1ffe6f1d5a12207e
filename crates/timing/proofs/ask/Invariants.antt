use Rattle.std.proofs.Common.{◌*◌, ◌≤◌}
use Rattle.network.specs.Limits.{longest}
use Rattle.timing.proofs.ask.Given as goal

abbrev pub invariant-loop-i : goal.invariant-loop-i
invariant-loop-i g l = l.sum ≤ longest * l.i
