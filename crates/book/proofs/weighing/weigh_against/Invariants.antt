use Rattle.std.proofs.Common.{◌≡◌, ℕ, ◌+◌, ◌*◌, take}
use Rattle.terms.specs.declared.points.Side.TheVariants.{Exit}
use Rattle.book.specs.Tallies.{tally, both, record_reach, brought, Within}
use Rattle.book.proofs.weighing.weigh_against.Given as goal

abbrev pub invariant-loop-exit : goal.invariant-loop-exit
invariant-loop-exit g l =
    (l.reach ≡ record_reach (g.S.Source.net l.source) l.from.station (take l.exit-index l.points))
    × (l.weights ≡ both l.initial.weights (tally Exit (brought (g.S.Source.net l.source) l.from) (take l.exit-index l.points)))
    × ((b : ℕ) → Within l.initial.weights b → Within l.weights (b + l.from.lots.0 * l.reach))
