use Rattle.std.proofs.Common.{◌∙◌}
use Rattle.book.proofs.Draws.{draws}
use Rattle.book.proofs.table.PointTable.draw.Goals as goal

pub returns : goal.returns
returns g c = λ p sh.
    let net = g.S.Source.net c.args.source.now in
    let w = c.six_weights.ensures in
    let e = c.side_plan-entries.ensures in
    let x = c.side_plan-exits.ensures in
    draws net c.args.self.now p sh c.draw.result _ _ _ _ _ _ c.draw.ensures.drawn
    (record { weights = e.weights ∙ w.entries; relief = cc; lots = e.lots })
    (record { weights = x.weights ∙ w.exits; relief = cc; lots = x.lots })
