use Rattle.std.proofs.Common.{◌≡◌, arith}
use Rattle.network.specs.Grid.{at}
use Rattle.network.proofs.Tables.{by_detours}
use Rattle.network.proofs.grid.GridRef.breaks_law.Goals as goal

pub returns-else-there-back : goal.returns-else-there-back
returns-else-there-back c =
    let g = c.args.self.now in
    let a = c.args.a in
    let b = c.args.b in
    let itself : a ≡ b → at g.count g.figures.now a b ≡ 0 = λ e. grind arith in
    by_detours g.count g.figures.now a b c.has_detour.result c.has_detour.ensures itself (grind arith)
