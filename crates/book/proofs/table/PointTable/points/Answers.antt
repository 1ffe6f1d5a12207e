use Rattle.std.proofs.Common.{length, ap, arith}
use Rattle.book.proofs.Showing.{point_count}
use Rattle.book.proofs.table.PointTable.points.Goals as goal

pub returns-clause-figure : goal.returns-clause-figure
returns-clause-figure c =
    let e = ap length c.held.ensures.value in
    let x = ap length c.held-2.ensures.value in
    λ p sh. let n = point_count c.args.self.now p sh in omega (arith, e, x, n)
