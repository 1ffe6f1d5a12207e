use Rattle.std.proofs.Common.{◌≡◌, ℕ, List, sym, ◌∙◌, subst}
use Rattle.network.specs.declared.pipe.Pipe.{Pipe}
use Rattle.network.specs.declared.map.PipeMap.{PipeMap}
use Rattle.network.specs.Routes.{Shortest}
use Rattle.network.specs.Grid.{grid_net}
use Rattle.network.specs.Pipes.{Joins, GoodPipes, LeastGrid}
use Rattle.network.specs.Meanings.{of_map}
use Rattle.network.proofs.Lays.{least_shortest, unlock_pipes}
use Rattle.network.proofs.map.PipeMap.new.Goals as goal

-- the same of the count and the pipes that are kept
kept_good : (n m : ℕ) (ps qs : List Pipe) → m ≡ n → qs ≡ ps → ∥ GoodPipes n ps ∥₁ → ∥ GoodPipes m qs ∥₁
kept_good n m ps qs e f h = subst (λ (x : ℕ). ∥ GoodPipes x qs ∥₁) (sym e) (subst (λ (x : List Pipe). ∥ GoodPipes n x ∥₁) (sym f) h)

kept_least : (n m : ℕ) (ps qs : List Pipe) (ws : List ℕ) → m ≡ n → qs ≡ ps → LeastGrid n ps ws → LeastGrid m qs ws
kept_least n m ps qs ws e f h = subst (λ (x : ℕ). LeastGrid x qs ws) (sym e) (subst (λ (x : List Pipe). LeastGrid n x ws) (sym f) h)

kept_shortest : (n m k : ℕ) (ps qs : List Pipe) (ws : List ℕ) → m ≡ n → qs ≡ ps → k ≡ m → ∥ GoodPipes m qs ∥₁ → LeastGrid m qs ws → Shortest (Joins ps) n (grid_net k ws)
kept_shortest n m k ps qs ws e f g good least =
    subst (λ (x : ℕ). Shortest (Joins ps) n (grid_net x ws)) (sym (g ∙ e))
    (subst (λ (x : ℕ). Shortest (Joins ps) x (grid_net x ws)) e
    (subst (λ (x : List Pipe). Shortest (Joins x) m (grid_net m ws)) f (least_shortest m qs (unlock_pipes m qs good) ws least)))

abbrev Meant : ℕ → List Pipe → PipeMap → Type 0
Meant n ps m = Shortest (Joins ps) n (of_map m)

pub invariant_of-result : goal.invariant_of-result
invariant_of-result c =
    let s = c.in_ok-network.network in
    let qs = c.in_ok-pipes.pipes.items in
    let g = c.in_ok-table.table.grid in
    let made = c.in_ok-table.ensures in
    let same = c.in_ok-pipes.ensures.items in
    record {
      good = kept_good s.count g.count s.pipes.now qs made.0 same s.good;
      least = ∣ kept_least s.count g.count s.pipes.now qs g.figures.items made.0 same made.1 ∣₁;
    }

pub returns-clause-made : goal.returns-clause-made
returns-clause-made c =
    let s = c.in_ok-network.network in
    let kept = c.in_ok-network.ensures in
    let g = c.in_ok-table.table.grid in
    let made = c.in_ok-table.ensures in
    (kept.0, kept_shortest c.args.n s.count g.count c.args.pipes.now s.pipes.now g.figures.items kept.1.0 kept.1.1 made.0 s.good made.1)
