use Rattle.std.proofs.Common.{◌≡◌, ℕ, ◌+◌, ◌*◌, cond, eqb, ltb, set, ◌∙◌, subst, arith}
use Rattle.std.proofs.lemmas.Bool.Decides.{nat_tests}
use Rattle.network.specs.Limits.{none_figure}
use Rattle.network.specs.Grid.{at}
use Rattle.network.specs.Cells.{written}
use Rattle.network.proofs.Passes.{squared}
use Rattle.network.proofs.grid.Grid.new.Goals as goal

turn : (p q a u x : ℕ) → u ≡ cond (eqb p a) (cond (eqb q a) 0 x) x → x ≡ cond (eqb p q) (cond (ltb p a) 0 none_figure) none_figure → u ≡ cond (eqb p q) (cond (ltb p (a + 1)) 0 none_figure) none_figure
turn p q a u x e f = grind (arith, nat_tests)

pub loop-a-preserved : goal.loop-a-preserved
loop-a-preserved c =
    let n = c.args.count in
    let g = c.loop-a.grid in
    let a = c.loop-a.a in
    let us = c.set.new.self.figures.items in
    let same = c.loop-a.invariant.0 in
    let told = subst (λ (x : ℕ). us ≡ set g.figures.items (a * x + a) 0) same c.set.ensures.figures in (
      c.set.ensures.count ∙ same,
      λ p q hp hq. rw told
          (turn p q a _ (at n g.figures.items p q) (written n g.figures.items a a 0 p q (squared g n same) c.loop-a-test.true c.loop-a-test.true hq) (c.loop-a.invariant.1 p q hp hq)),
    )
