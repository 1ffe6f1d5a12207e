use Rattle.std.proofs.Common.{◌≡◌, ◌^◌, ◌<◌, drop}
use Rattle.lines.specs.Numbers.{read_on}
use Rattle.lines.proofs.numbers.digits.Given as goal

abbrev pub invariant-loop-b : goal.invariant-loop-b
invariant-loop-b l = (read_on l.n (drop l.b-index l.w) ≡ read_on 0 l.w) × (l.n < 10 ^ l.b-index)
