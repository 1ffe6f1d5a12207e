use Rattle.std.proofs.Common.{◌≡◌, ◌+◌, [], length, ap, ⊎_elim, arith, rules}
use Rattle.lines.specs.Lines.{lines}
use Rattle.lines.specs.Seen.{lines_left}
use Rattle.lines.proofs.Sheets.{lines_few}
use Rattle.sheet.proofs.Runs.{so_far_start, so_far_more, so_far_end}
use Rattle.sheet.proofs.run.run_lines.Goals as goal

pub loop-n-init : goal.loop-n-init
loop-n-init c =
    let left : lines_left c.into_iter-n-iterator.result.b ≡ lines c.args.sheet.now = search rules in
    let first : c.into_iter-n-iterator.result.a.start ≡ 1 = search rules in
    (omega (arith, first, ap length left), so_far_start _ _ _ _ _ first c.nothing-carried.ensures c.new-out.ensures.bytes left)

pub loop-n-preserved : goal.loop-n-preserved
loop-n-preserved c =
    let i = c.loop-n.invariant in
    let turn = c.in-Some.ensures.steps in
    let next : c.next.new.self.a.start ≡ c.in-Some.n + 1 = search rules in
    (omega (arith, i.0, next, turn.0.0, ap length turn.1.0), so_far_more _ _ _ _ _ _ _ _ _ _ _ i.1 turn.1.0 turn.0.0 next c.in_ok-carried.ensures)

-- the numbers do not run out before the lines
pub returns : goal.returns
returns c =
    let i = c.loop-n.invariant in
    let ended : lines_left c.loop-n.n-iterator.b ≡ [] =
    ⊎_elim (λ out. absurd (omega (arith, i.0, out.1.0, lines_few c.args.sheet.now, c.requires))) (λ none. none.1.0.0) c.in-None.ensures.steps in
    so_far_end _ _ _ _ _ i.1 ended
