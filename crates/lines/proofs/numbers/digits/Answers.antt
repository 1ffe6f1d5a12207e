use Rattle.std.proofs.Common.{◌≤◌, get_or, sym, arith}
use Rattle.lines.proofs.Digits.{below_ten, digit_le}
use Rattle.lines.proofs.numbers.digits.Goals as goal
use Rattle.lines.proofs.numbers.digits.Goals.{After-from}

pub overflow_mul-n : goal.overflow_mul-n
overflow_mul-n c = let h = below_ten c.loop-b.n 0 c.loop-b.b-index c.loop-b.invariant.1 (omega arith) (omega (arith, c.requires)) in omega arith

small : (c : After-from) → c.from.result ≤ 9
small c = omega (arith, digit_le (get_or c.args.w.now c.loop-b.b-index 0) (sym c.if-not-is_ascii_digit.ensures.value))

pub overflow_add-n : goal.overflow_add-n
overflow_add-n c = let h = below_ten c.loop-b.n c.from.result c.loop-b.b-index c.loop-b.invariant.1 (small c) (omega (arith, c.requires)) in omega arith
