use Rattle.std.proofs.Common.{◌∙◌}
use Rattle.network.proofs.Passes.{row_told}
use Rattle.network.proofs.grid.Grid.relax_row.Goals as goal

pub loop-b-preserved : goal.loop-b-preserved
loop-b-preserved c =
    let g = c.args.self.now in (
      c.relax_cell.ensures.count ∙ c.loop-b.invariant.0,
      row_told g.count g.figures.items c.args.k c.requires.0 c.requires.1.1 c.loop-b.self c.relax_cell.new.self.figures.items c.args.a c.loop-b.b
          c.loop-b.invariant.0 c.relax_cell.ensures.figures c.requires.1.0 c.loop-b-test.true c.loop-b.invariant.1,
    )
