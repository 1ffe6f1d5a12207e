use Rattle.std.proofs.Common.{ℕ, ◌/◌, ◌%◌, length, subst, rules}
use Rattle.std.proofs.lemmas.Iterator.{first_from_Range}
use Rattle.network.specs.Table.{BreaksLaw}
use Rattle.network.proofs.Firsts.{first_below}
use Rattle.network.proofs.grid.GridRef.first_lawless.Goals as goal

pub returns : goal.returns
returns c =
    let n = c.args.self.now.count in
    let broken = λ (i : ℕ). BreaksLaw n c.args.self.now.figures.now (i / n) (i % n) in
    let kept = λ (i : ℕ). broken i → ⊥ in
    first_below broken (length c.args.self.now.figures.now) c.find.result
    (first_from_Range _ _ _ _ broken kept c.find.ensures.ran
    (λ x q k. subst broken k.shows (search rules))
    (λ x q k. let b : kept k.shown.now = search rules in (search rules, subst kept k.shows b)))
