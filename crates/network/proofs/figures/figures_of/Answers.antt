use Rattle.std.proofs.Common.{◌≡◌, ℕ, ◌+◌, ◌*◌, ◌<◌, List, [], ◌∷◌, ◌++◌, length, vec_items, ◌∙◌, subst, ⊎_elim, arith}
use Rattle.std.proofs.lemmas.List.{get_or_append_left, get_or_push}
use Rattle.std.proofs.lemmas.Nat.{div-mul-add, mod-mul-add}
use Rattle.std.proofs.lemmas.Bool.{cases_lt}
use Rattle.network.specs.Net.{Net}
use Rattle.network.specs.Grid.{figure_of}
use Rattle.network.specs.Grids.{tabulated}
use Rattle.network.proofs.figures.figures_of.Invariants.{Told}
use Rattle.network.proofs.figures.figures_of.Goals as goal

-- once the figure from a to b is pushed
pushed : (net : Net) (n a b x : ℕ) (ws : List ℕ) → length ws ≡ a * n + b → b < n → x ≡ figure_of (net.distance a b) → Told net n (a * n + b) ws → Told net n (a * n + (b + 1)) (ws ++ x ∷ [])
pushed net n a b x ws len hb is told k h =
    ⊎_elim
    (λ l. get_or_append_left ws (x ∷ []) 0 k (omega arith) ∙ told k l)
    (λ m.
    let e : k ≡ a * n + b = omega arith in
    rw e (simp (div-mul-add a n b hb, mod-mul-add a n b hb) (get_or_push ws x 0 (a * n + b) len ∙ is)))
    (cases_lt k (a * n + b))

pub loop-b-preserved : goal.loop-b-preserved
loop-b-preserved g c =
    let net = g.S.Source.net c.args.source.now in
    let n = c.stations-n.result in
    let a = c.loop-a.a in
    let b = c.loop-b.b in
    let is : c.figure.result ≡ figure_of (net.distance a b) = grind arith in
    let told : Told net n (a * n + (b + 1)) (vec_items c.loop-b.figures ++ c.figure.result ∷ []) =
    pushed net n a b c.figure.result (vec_items c.loop-b.figures) (omega arith) c.loop-b-test.true is c.loop-b.invariant.1 in
    (omega (arith, c.in_ok-push.ensures.len), rw (c.in_ok-push.ensures.items) told)

pub returns : goal.returns
returns g c =
    let net = g.S.Source.net c.args.source.now in
    let n = c.stations-n.result in
    let ws = vec_items c.loop-a.figures in
    let all : c.loop-a.a ≡ n = omega arith in
    tabulated net (g.met.S.Source.lawful c.args.source.now) ws
    (subst (λ (x : ℕ). Told net x (x * x) ws) c.stations-n.ensures (subst (λ (x : ℕ). Told net n (x * n) ws) all c.loop-a.invariant.1))
