use Rattle.std.proofs.Common.{◌+◌, ◌≤◌, length, string_bytes}
use Rattle.lines.specs.Lines.{lines}
use Rattle.lines.specs.Seen.{lines_left}
use Rattle.sheet.proofs.Runs.{SoFar}
use Rattle.sheet.proofs.run.run_lines.Given as goal

abbrev pub invariant-loop-n : goal.invariant-loop-n
invariant-loop-n l =
    (l.n-iterator.a.start + length (lines_left l.n-iterator.b) ≤ length (lines l.sheet) + 1)
    × SoFar (lines l.sheet) (lines_left l.n-iterator.b) l.n-iterator.a.start l.carried.amount.0 (string_bytes l.out)
