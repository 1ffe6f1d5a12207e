use Rattle.std.proofs.Common.{◌≡◌, ◌*◌, take}
use Rattle.terms.specs.declared.points.Side.TheVariants.{Entry, Exit}
use Rattle.book.specs.Records.{record_lots}
use Rattle.book.specs.Shows.{held_in}
use Rattle.book.specs.Tallies.{record_weights, Within, most_reach}
use Rattle.book.proofs.weighing.six_weights.Given as goal

abbrev pub invariant-loop-entry : goal.invariant-loop-entry
invariant-loop-entry g l =
    (l.of_entries ≡ record_weights (g.S.Source.net l.source) Entry (take l.entry-index l.points) (held_in l.exits))
    × Within l.of_entries (most_reach * record_lots (take l.entry-index l.points))
    × (l.of_exits ≡ record_weights (g.S.Source.net l.source) Exit (held_in l.exits) (take l.entry-index l.points))
    × Within l.of_exits (most_reach * record_lots (take l.entry-index l.points))
