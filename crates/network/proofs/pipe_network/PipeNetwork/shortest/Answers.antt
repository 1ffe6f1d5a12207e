use Rattle.std.proofs.Common.{◌≡◌, ℕ, ◌+◌, ◌<◌, length, sym, ◌∙◌, subst, arith}
use Rattle.network.specs.Grid.{at}
use Rattle.network.specs.Search.{through, laid}
use Rattle.network.specs.Pipes.{Joins, pipe_at, GoodPipe}
use Rattle.network.proofs.Passes.{squared}
use Rattle.network.proofs.Stages.{Stage}
use Rattle.network.proofs.Lays.{Laid, distances, none_laid, more_laid, first_stage, next_stage, last_stage, unlock_pipes}
use Rattle.network.proofs.pipe_network.PipeNetwork.shortest.Goals as goal

pub loop-p-init : goal.loop-p-init
loop-p-init c =
    let s = c.args.self.now in
    let h = c.in_ok-grid.ensures in
    (h.0, none_laid s.count s.pipes.now c.in_ok-grid.grid.figures.items h.1)

pub lay-requires : goal.lay-requires
lay-requires c =
    let s = c.args.self.now in
    let i = c.loop-p.p-index in
    subst (λ (x : ℕ). GoodPipe x (pipe_at s.pipes.now i)) (sym c.loop-p.invariant.0) (unlock_pipes s.count s.pipes.now s.good i c.loop-p-test.true)

pub loop-p-preserved : goal.loop-p-preserved
loop-p-preserved c =
    let n = c.args.self.now.count in
    let ps = c.args.self.now.pipes.now in
    let goods = unlock_pipes n ps c.args.self.now.good in
    let i = c.loop-p.p-index in
    let g = c.loop-p.grid in
    let us = c.lay.new.self.figures.items in
    let same = c.loop-p.invariant.0 in
    let e = subst (λ (x : ℕ). us ≡ laid x (pipe_at ps i) g.figures.items) same c.lay.ensures.figures in
    (c.lay.ensures.count ∙ same, subst (Laid n ps (i + 1)) (sym e) (more_laid n ps i g.figures.items (squared g n same) goods c.loop-p-test.true c.loop-p.invariant.1))

pub loop-k-init : goal.loop-k-init
loop-k-init c =
    let n = c.args.self.now.count in
    let ps = c.args.self.now.pipes.now in
    let all : c.loop-p.p-index ≡ length ps = omega (arith, c.loop-p.auto.p-index-end) in
    let ws = c.loop-p.grid.figures.items in
    (c.loop-p.invariant.0, first_stage n ps (unlock_pipes n ps c.args.self.now.good) ws (subst (λ (x : ℕ). Laid n ps x ws) all c.loop-p.invariant.1))

pub loop-k-preserved : goal.loop-k-preserved
loop-k-preserved c =
    let n = c.args.self.now.count in
    let ps = c.args.self.now.pipes.now in
    let ws = c.loop-k.grid.figures.items in
    let vs = c.relax.new.self.figures.items in
    let k = c.loop-k.k in
    let same = c.loop-k.invariant.0 in
    let told = subst (λ (x : ℕ). (p q : ℕ) → p < x → q < x → at x vs p q ≡ through x ws k p q) same c.relax.ensures.figures in
    (c.relax.ensures.count ∙ same, next_stage n ps (unlock_pipes n ps c.args.self.now.good) ws vs k (omega arith) told c.loop-k.invariant.1)

pub returns : goal.returns
returns c =
    let n = c.args.self.now.count in
    let ps = c.args.self.now.pipes.now in
    let ws = c.loop-k.grid.figures.items in
    let all : c.loop-k.k ≡ n = omega arith in
    (c.loop-k.invariant.0, last_stage n ps (unlock_pipes n ps c.args.self.now.good) ws (subst (Stage (Joins ps) n (distances n ws)) all c.loop-k.invariant.1))
