use Rattle.std.proofs.Common.{◌≡◌, take}
use Rattle.book.specs.Tallies.{tally}
use Rattle.book.proofs.weighing.lots_by_element.Given as goal

abbrev pub invariant-loop-point : goal.invariant-loop-point
invariant-loop-point l = l.sums ≡ tally l.side (λ x. x.lots.0) (take l.point-index l.points)
