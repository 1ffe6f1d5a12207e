-- Laying pipes on a square of figures, and the stages of the search on it.
use Rattle.std.proofs.Common.{◌≡◌, ℕ, ◌+◌, ◌*◌, ◌<◌, ◌≤◌, min, cond, eqb, ◌⊎◌, List, length, set, Some, None, Option, sym, refl, ap, ◌∙◌, subst, inl, inr, ⊎_elim, arith, length-set}
use Rattle.std.proofs.Math.Logic.{∥∥₁_elim}
use Rattle.std.proofs.lemmas.Bool.Decides.{nat_tests, eqb_tells}
use Rattle.std.proofs.lemmas.Bool.{cases_lt}
use Rattle.network.specs.declared.pipe.Pipe.{Pipe}
use Rattle.network.specs.Limits.{bottom_stations, longest, none_figure}
use Rattle.network.specs.Rules.{First}
use Rattle.network.specs.Routes.{Route, LeastOf, Shortest}
use Rattle.network.specs.Routes.Route.{stay, go}
use Rattle.network.specs.Grid.{at, distance_of, grid_net, Square, GridLaws}
use Rattle.network.specs.Search.{through, laid}
use Rattle.network.specs.Pipes.{pipe_at, Lies, Joins, GoodPipe, GoodPipes, LeastGrid}
use Rattle.network.specs.Nets.{Within, inside_in, inside_out}
use Rattle.network.proofs.Roads.{first_in, last_in, shortest_lawful}
use Rattle.network.proofs.Stages.{Stage, relaxed, next, at_last}
use Rattle.network.specs.Cells.{written}
use Rattle.network.proofs.Passes.{through_relaxed}
use Rattle.network.specs.Grids.{is_distance, distance_some, lawful_grid}

within_longest : (x l : ℕ) → x ≤ l → l ≤ longest → Within (distance_of x) l
within_longest x l h k = (x, (is_distance x (omega arith), h))

figure_within : (x l : ℕ) → Within (distance_of x) l → x ≤ l
figure_within x l h = let f = distance_some x h.0 h.1.0 in omega (arith, f.0, h.1.1)

-- the first i pipes are laid: each distance is the length of a route, and none of those pipes is shorter
pub record Laid (n : ℕ) (ps : List Pipe) (i : ℕ) (ws : List ℕ) : Type 0 where
  pub sound : (a b m : ℕ) → a < n → b < n → distance_of (at n ws a b) ≡ Some m → (j : ℕ) × (Route (Joins ps) n a b j × (min longest j ≡ m))
  pub edge : (j a b l : ℕ) → j < i → j < length ps → Lies (pipe_at ps j) a b l → Within (distance_of (at n ws a b)) l
  pub itself : (a : ℕ) → a < n → at n ws a a ≡ 0

pub none_laid : (n : ℕ) (ps : List Pipe) (ws : List ℕ) → ((c d : ℕ) → c < n → d < n → at n ws c d ≡ cond (eqb c d) 0 none_figure) → Laid n ps 0 ws
none_laid n ps ws h = record {
  sound = λ a b m ha hb e.
      ⊎_elim
      (λ q.
      let x : at n ws a b ≡ 0 = simp q.0 at (h a b ha hb) in
      let f = distance_some (at n ws a b) m e in
      (0, (subst (λ (t : ℕ). Route (Joins ps) n a t 0) q.1 (stay a ha), omega (arith, f.0, x))))
      (λ q.
      let x : at n ws a b ≡ none_figure = simp q.0 at (h a b ha hb) in
      let f = distance_some (at n ws a b) m e in
      absurd (omega (arith, f.1, x)))
      (eqb_tells a b);
  edge = λ j a b l hj inn lies. absurd (omega arith);
  itself = λ a ha. h a a ha ha ∙ same_cell a;
} where
  same_cell : (a : ℕ) → ◌≡◌ {A = ℕ} (cond (eqb a a) 0 none_figure) 0
  same_cell a = grind (arith, nat_tests)

-- a pipe from f to t runs between c and d
abbrev Hit : ℕ → ℕ → ℕ → ℕ → Type 0
Hit f t c d = ((f ≡ c) × (t ≡ d)) ⊎ ((f ≡ d) × (t ≡ c))

two_writes : (c d f t l u1 u2 x y1 y2 : ℕ)
    → u1 ≡ cond (eqb c f) (cond (eqb d t) (min l y1) x) x
    → u2 ≡ cond (eqb c t) (cond (eqb d f) (min l y2) u1) u1
    → (f ≡ c → t ≡ d → y1 ≡ x) → (f ≡ d → t ≡ c → y2 ≡ x) → (f ≡ t → ⊥)
    → (Hit f t c d × (u2 ≡ min l x)) ⊎ ((Hit f t c d → ⊥) × (u2 ≡ x))
two_writes c d f t l u1 u2 x y1 y2 p q r s ne =
    ⊎_elim
    (λ cf. ⊎_elim
    (λ dt. inl (inl (sym cf.1, sym dt.1), let e = r (sym cf.1) (sym dt.1) in grind (arith, nat_tests)))
    (λ dt. inr (⊎_elim (λ h. dt.1 (sym h.1)) (λ h. ne (sym cf.1 ∙ sym h.1)), grind (arith, nat_tests)))
    (eqb_tells d t))
    (λ cf. ⊎_elim
    (λ ct. ⊎_elim
    (λ df. inl (inr (sym df.1, sym ct.1), let e = s (sym df.1) (sym ct.1) in grind (arith, nat_tests)))
    (λ df. inr (⊎_elim (λ h. cf.1 (sym h.0)) (λ h. df.1 (sym h.0)), grind (arith, nat_tests)))
    (eqb_tells d f))
    (λ ct. inr (⊎_elim (λ h. cf.1 (sym h.0)) (λ h. ct.1 (sym h.1)), grind (arith, nat_tests)))
    (eqb_tells c t))
    (eqb_tells c f)

pub laid_square : (n : ℕ) (p : Pipe) (ws : List ℕ) → Square n ws → Square n (laid n p ws)
laid_square n p ws sq = record { few = sq.few; size = simp length-set sq.size }

module _ (n : ℕ) (ps : List Pipe) (i : ℕ) (ws : List ℕ) (sq : Square n ws) (goods : GoodPipes n ps) (inn : i < length ps) (before : Laid n ps i ws) where
  abbrev p : Pipe
  p = pipe_at ps i

  good : GoodPipe n p
  good = goods i inn

  cells : (c d : ℕ) → d < n → (Hit p.from p.to c d × (at n (laid n p ws) c d ≡ min p.length.0 (at n ws c d))) ⊎ ((Hit p.from p.to c d → ⊥) × (at n (laid n p ws) c d ≡ at n ws c d))
  cells c d hd =
      let ws1 = set ws (p.from * n + p.to) (min p.length.0 (at n ws p.from p.to)) in
      let sq1 : Square n ws1 = record { few = sq.few; size = simp length-set sq.size } in
      two_writes c d p.from p.to p.length.0 (at n ws1 c d) (at n (laid n p ws) c d) (at n ws c d) (at n ws p.from p.to) (at n ws p.to p.from)
      (written n ws p.from p.to (min p.length.0 (at n ws p.from p.to)) c d sq good.from_in good.to_in hd)
      (written n ws1 p.to p.from (min p.length.0 (at n ws p.to p.from)) c d sq1 good.to_in good.from_in hd)
      (λ e g. cc) (λ e g. cc) good.apart

  less : (c d : ℕ) → d < n → at n (laid n p ws) c d ≤ at n ws c d
  less c d hd = ⊎_elim (λ h. omega (arith, h.1)) (λ h. omega (arith, h.1)) (cells c d hd)

  hit_less : (c d : ℕ) → d < n → Hit p.from p.to c d → at n (laid n p ws) c d ≤ p.length.0
  hit_less c d hd h = ⊎_elim (λ g. omega (arith, g.1)) (λ g. absurd (g.0 h)) (cells c d hd)

  end_in : (q : Pipe) (a b k : ℕ) → Lies q a b k → GoodPipe n q → b < n
  end_in q a b k lies gq = ⊎_elim (λ h. subst (λ (x : ℕ). x < n) h.1 gq.to_in) (λ h. subst (λ (x : ℕ). x < n) h.0 gq.from_in) lies.0

  sound_hit : (a b m : ℕ) → a < n → b < n → Hit p.from p.to a b → min p.length.0 (at n ws a b) ≡ m → (k : ℕ) × (Route (Joins ps) n a b k × (min longest k ≡ m))
  sound_hit a b m ha hb h e =
      ⊎_elim
      (λ s. before.sound a b m ha hb (is_distance (at n ws a b) (omega (arith, good.short)) ∙ ap Some (omega (arith, e))))
      (λ s. (p.length.0 + 0, (go a b b p.length.0 0 (i, (inn, (h, refl))) (stay b hb), omega (arith, good.short, e))))
      (cases_lt (at n ws a b) p.length.0)

  split : (j : ℕ) → j < i + 1 → (j < i) ⊎ (j ≡ i)
  split j h = grind arith

  pub more_laid : Laid n ps (i + 1) (laid n p ws)
  more_laid = record {
    sound = λ a b m ha hb e.
        let g = distance_some (at n (laid n p ws) a b) m e in
        ⊎_elim
        (λ h. sound_hit a b m ha hb h.0 (sym h.1 ∙ g.0))
        (λ h. before.sound a b m ha hb (ap distance_of (sym h.1) ∙ e))
        (cells a b hb);
    edge = λ j a b k hj nq lies.
        let gq = goods j nq in
        let hb = end_in (pipe_at ps j) a b k lies gq in
        let short : k ≤ longest = omega (arith, lies.1, gq.short) in
        ⊎_elim
        (λ old. within_longest (at n (laid n p ws) a b) k (omega (arith, less a b hb, figure_within (at n ws a b) k (before.edge j a b k old nq lies))) short)
        (λ new.
        let here : Lies p a b k = subst (λ (x : ℕ). Lies (pipe_at ps x) a b k) new lies in
        within_longest (at n (laid n p ws) a b) k (omega (arith, hit_less a b hb here.0, here.1)) short)
        (split j hj);
    itself = λ a ha.
        ⊎_elim
        (λ h. absurd (⊎_elim (λ g. good.apart (g.0 ∙ sym g.1)) (λ g. good.apart (g.0 ∙ sym g.1)) h.0))
        (λ h. h.1 ∙ before.itself a ha)
        (cells a a ha);
  }

abbrev pub distances : ℕ → List ℕ → ℕ → ℕ → Option ℕ
distances n ws a b = distance_of (at n ws a b)

pub joins_turn : (ps : List Pipe) (a b l : ℕ) → Joins ps a b l → Joins ps b a l
joins_turn ps a b l h = (h.0, (h.1.0, (⊎_elim inr inl h.1.1.0, h.1.1.1)))

pub joins_ends : (n : ℕ) (ps : List Pipe) → GoodPipes n ps → (a b l : ℕ) → Joins ps a b l → (a < n) × (b < n)
joins_ends n ps goods a b l h =
    let g = goods h.0 h.1.0 in
    ⊎_elim
    (λ e. (subst (λ (x : ℕ). x < n) e.0 g.from_in, subst (λ (x : ℕ). x < n) e.1 g.to_in))
    (λ e. (subst (λ (x : ℕ). x < n) e.1 g.to_in, subst (λ (x : ℕ). x < n) e.0 g.from_in))
    h.1.1.0

module _ (n : ℕ) (ps : List Pipe) (goods : GoodPipes n ps) where
  pub first_stage : (ws : List ℕ) → Laid n ps (length ps) ws → Stage (Joins ps) n (distances n ws) 0
  first_stage ws all = record {
    sound = all.sound;
    edge = λ a b l h. all.edge h.0 a b l h.1.0 h.1.0 h.1.1;
    itself = λ a ha. ap distance_of (all.itself a ha);
    over = λ a b c i j ha hk hb hc e f. absurd (omega arith);
  }

  agree : (v w : ℕ → ℕ → Option ℕ) (k : ℕ) → ((a b : ℕ) → a < n → b < n → v a b ≡ w a b) → Stage (Joins ps) n w k → Stage (Joins ps) n v k
  agree v w k same st = record {
    sound = λ a b m ha hb e. st.sound a b m ha hb (sym (same a b ha hb) ∙ e);
    edge = λ a b l h.
        let e = joins_ends n ps goods a b l h in
        let t = st.edge a b l h in
        (t.0, (same a b e.0 e.1 ∙ t.1.0, t.1.1));
    itself = λ a ha. same a a ha ha ∙ st.itself a ha;
    over = λ a b c i j ha hk hb hc e f.
        let t = st.over a b c i j ha hk hb hc (sym (same a b ha hb) ∙ e) (sym (same b c hb hc) ∙ f) in
        (t.0, (same a c ha hc ∙ t.1.0, t.1.1));
  }

  pub next_stage : (ws vs : List ℕ) (k : ℕ) → k < n → ((c d : ℕ) → c < n → d < n → at n vs c d ≡ through n ws k c d) → Stage (Joins ps) n (distances n ws) k → Stage (Joins ps) n (distances n vs) (k + 1)
  next_stage ws vs k hk h st =
      agree (distances n vs) (relaxed (distances n ws) k) (k + 1)
      (λ a b ha hb. ap distance_of (h a b ha hb) ∙ through_relaxed n ws k a b)
      (next (Joins ps) n (joins_turn ps) (joins_ends n ps goods) (distances n ws) k hk st)

  pub last_stage : (ws : List ℕ) → Stage (Joins ps) n (distances n ws) n → LeastGrid n ps ws
  last_stage ws st a b ha hb = at_last (Joins ps) n (joins_turn ps) (joins_ends n ps goods) (distances n ws) st a b ha hb (distance_of (at n ws a b)) refl

  pub still_zero : (ws : List ℕ) (k a : ℕ) → a < n → Stage (Joins ps) n (distances n ws) k → at n ws a a ≡ 0
  still_zero ws k a ha st = (distance_some (at n ws a a) 0 (st.itself a ha)).0

  module _ (ws : List ℕ) (least : LeastGrid n ps ws) where
    none_least : (R : ℕ → Type 0) (o : Option ℕ) → ((k : ℕ) → R k → ⊥) → o ≡ None → LeastOf R o
    none_least R o h e = subst (LeastOf R) (sym e) h

    pub least_shortest : Shortest (Joins ps) n (grid_net n ws)
    least_shortest = record {
      count = refl;
      least = λ a b.
          let turn = joins_turn ps in
          let ends = joins_ends n ps goods in
          ⊎_elim
          (λ h. ⊎_elim
          (λ k. subst (LeastOf (Route (Joins ps) n a b)) (sym (inside_in n a b (distance_of (at n ws a b)) h k)) (least a b h k))
          (λ k. none_least _ _ (λ l r. omega (arith, last_in (Joins ps) n turn ends a b l r)) (inside_out n a b (distance_of (at n ws a b)) (inr k)))
          (cases_lt b n))
          (λ h. none_least _ _ (λ l r. omega (arith, first_in (Joins ps) n turn ends a b l r)) (inside_out n a b (distance_of (at n ws a b)) (inl h)))
          (cases_lt a n);
    }

    pub least_laws : 1 ≤ n → n ≤ bottom_stations → GridLaws n ws
    least_laws some few = lawful_grid n ws (shortest_lawful (Joins ps) n (joins_turn ps) (joins_ends n ps goods) (grid_net n ws) some (omega arith) least_shortest)

-- a pipe that is not bad is good
good_stable : (n : ℕ) (p : Pipe) → ((GoodPipe n p → ⊥) → ⊥) → GoodPipe n p
good_stable n p h = record {
  from_in = ⊎_elim (λ l. l) (λ l. absurd (h (λ g. omega (arith, g.from_in)))) (cases_lt p.from n);
  to_in = ⊎_elim (λ l. l) (λ l. absurd (h (λ g. omega (arith, g.to_in)))) (cases_lt p.to n);
  apart = λ e. h (λ g. g.apart e);
  some_length = ⊎_elim (λ l. absurd (h (λ g. omega (arith, g.some_length)))) (λ l. l) (cases_lt p.length.0 1);
  short = ⊎_elim (λ l. omega arith) (λ l. absurd (h (λ g. omega (arith, g.short)))) (cases_lt p.length.0 (longest + 1));
}

pub goods_of : (n : ℕ) (ps : List Pipe) → First (λ i. GoodPipe n (pipe_at ps i) → ⊥) (length ps) None → GoodPipes n ps
goods_of n ps h i l = good_stable n (pipe_at ps i) (h i l)

-- good pipes out of a ghost field
pub unlock_pipes : (n : ℕ) (ps : List Pipe) → ∥ GoodPipes n ps ∥₁ → GoodPipes n ps
unlock_pipes n ps h = goods_of n ps (λ i l bad. ∥∥₁_elim h (λ x y. absurd x) (λ g. bad (g i l)))
