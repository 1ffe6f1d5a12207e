use Rattle.std.proofs.Common.{ap, ◌∙◌, arith}
use Rattle.pricing.specs.Tariffs.{side_of}
use Rattle.pricing.specs.Drafts.{drawing_of}
use Rattle.pricing.proofs.Drawn.{figures_promised}
use Rattle.pricing.proofs.decision.draw.Goals as goal

pub returns-clause-promised : goal.returns-clause-promised
returns-clause-promised c =
    let d = drawing_of c.args.allowed.dinars.0 c.args.entries c.args.exits in
    let e = rw (c.in_ok-entry_side.ensures.ok_part, c.halves.ensures.entries) at c.sharing.ensures in
    let x = rw (c.in_ok-exit_side.ensures.ok_part, c.halves.ensures.exits) at c.sharing-2.ensures in
    let entries = c.side_figures.ensures.value ∙ ap (λ b. side_of b c.args.entries.lots) e.1 in
    let exits = c.side_figures-2.ensures.value ∙ ap (λ b. side_of b c.args.exits.lots) x.1 in
    rw (entries, exits) (figures_promised d (omega arith) e.0 x.0 c.args.entries.relief.bounded c.args.exits.relief.bounded)
