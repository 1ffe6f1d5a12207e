use Rattle.std.proofs.Common.{◌∙◌}
use Rattle.network.proofs.Passes.{rows_told}
use Rattle.network.proofs.grid.Grid.relax.Goals as goal

pub loop-a-preserved : goal.loop-a-preserved
loop-a-preserved c =
    let g = c.args.self.now in (
      c.relax_row.ensures.count ∙ c.loop-a.invariant.0,
      rows_told g.count g.figures.items c.args.k c.requires.0 c.requires.1 c.loop-a.self.count c.loop-a.self.figures.items c.relax_row.new.self.figures.items c.loop-a.a
          c.loop-a.invariant.0 c.relax_row.ensures.figures c.loop-a-test.true c.loop-a.invariant.1,
    )
