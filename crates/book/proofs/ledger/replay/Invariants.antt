use Rattle.std.proofs.Common.{◌≡◌, take, vec_items, vec_len}
use Rattle.rules.specs.Runs.{paired}
use Rattle.book.specs.Law.{Stands}
use Rattle.book.proofs.ledger.replay.Given as goal

abbrev pub invariant-loop-call : goal.invariant-loop-call
invariant-loop-call g l =
    (l.book.source ≡ l.initial.book.source)
    × (vec_len l.outcomes ≡ l.call-index)
    × Stands (g.S.Source.net l.initial.book.source) (paired (take l.call-index l.calls) (vec_items l.outcomes)) l.book.table
