use Rattle.std.proofs.Common.{◌≡◌, map, vec_items}
use Rattle.lines.specs.Words.{placed}
use Rattle.lines.specs.Seen.{seen}
use Rattle.lines.proofs.Splits.{span}
use Rattle.lines.proofs.words.split.Given as goal

abbrev pub invariant-loop-text : goal.invariant-loop-text
invariant-loop-text l =
    (goal.iterator-loop-text).can_next l.text-iterator
    × (goal.iterator-loop-text).is_finite l.text-iterator
    × (map seen (vec_items l.out) ≡ placed l.at (map (λ t. t.now) l.yielded))
    × (l.i ≡ span (map (λ t. t.now) l.yielded))
