-- One pass over all cells, in place: neither row k nor column k changes on the way.
use Rattle.std.proofs.Common.{◌≡◌, ℕ, ◌+◌, ◌*◌, ◌<◌, ◌≤◌, cond, eqb, ltb, List, set, sym, ap, ◌∙◌, subst, arith}
use Rattle.std.proofs.lemmas.Bool.Decides.{nat_tests}
use Rattle.network.specs.declared.grid.Grid.{Grid}
use Rattle.network.specs.Grid.{at, distance_of, Square}
use Rattle.network.specs.Search.{shortcut, through}
use Rattle.network.specs.Cells.{written}
use Rattle.network.proofs.Stages.{relaxed}

-- the figures mean the distances of the next stage
pub through_relaxed : (n : ℕ) (ws : List ℕ) (k a b : ℕ) → distance_of (through n ws k a b) ≡ relaxed (λ c d. distance_of (at n ws c d)) k a b
through_relaxed n ws k a b = grind (arith, nat_tests)

shortcut_after : (x : ℕ) → shortcut x 0 x ≡ x
shortcut_after x = grind (arith, nat_tests)

shortcut_before : (y : ℕ) → shortcut 0 y y ≡ y
shortcut_before y = grind (arith, nat_tests)

-- in row a, the cells before b are done
abbrev pub Row : ℕ → List ℕ → ℕ → ℕ → ℕ → List ℕ → Type 0
Row n ws k a b vs = (c d : ℕ) → c < n → d < n → at n vs c d ≡ cond (eqb c a) (cond (ltb d b) (through n ws k c d) (at n ws c d)) (at n ws c d)

-- the rows before a are done
abbrev pub Rows : ℕ → List ℕ → ℕ → ℕ → List ℕ → Type 0
Rows n ws k a vs = (c d : ℕ) → c < n → d < n → at n vs c d ≡ cond (ltb c a) (through n ws k c d) (at n ws c d)

-- the row a alone is done
abbrev pub OneRow : ℕ → List ℕ → ℕ → ℕ → List ℕ → Type 0
OneRow n ws k a vs = (c d : ℕ) → c < n → d < n → at n vs c d ≡ cond (eqb c a) (through n ws k c d) (at n ws c d)

-- a grid is a square of its count
pub squared : (g : Grid) (n : ℕ) → g.count ≡ n → Square n g.figures.items
squared g n e = subst (λ (x : ℕ). Square x g.figures.items) e (record { few = g.few; size = omega (arith, g.size) })

merge : (c a d b u x i f o : ℕ) → u ≡ cond (eqb c a) (cond (eqb d b) x i) i → i ≡ cond (eqb c a) (cond (ltb d b) f o) o → (c ≡ a → d ≡ b → x ≡ f) → u ≡ cond (eqb c a) (cond (ltb d (b + 1)) f o) o
merge c a d b u x i f o p q r = grind (arith, nat_tests)

merge_rows : (c a u x i f o : ℕ) → u ≡ cond (eqb c a) x i → i ≡ cond (ltb c a) f o → (c ≡ a → x ≡ f) → u ≡ cond (ltb c (a + 1)) f o
merge_rows c a u x i f o p q r = grind (arith, nat_tests)

not_before : (p q j f o : ℕ) → q ≤ p → j ≡ cond (ltb p q) f o → j ≡ o
not_before p q j f o h e = grind (arith, nat_tests)

either_way : (p q j f o : ℕ) → f ≡ o → j ≡ cond (ltb p q) f o → j ≡ o
either_way p q j f o e h = grind (arith, nat_tests)

either_cell : (p q r s : ℕ) (j f o : ℕ) → f ≡ o → j ≡ cond (eqb p q) (cond (ltb r s) f o) o → j ≡ o
either_cell p q r s j f o e h = grind (arith, nat_tests)

not_yet : (p q r : ℕ) (j f o : ℕ) → j ≡ cond (eqb p q) (cond (ltb r r) f o) o → j ≡ o
not_yet p q r j f o h = grind (arith, nat_tests)

module _ (n : ℕ) (ws : List ℕ) (k : ℕ) (hk : k < n) (itself : at n ws k k ≡ 0) where
  column_kept : (a : ℕ) → through n ws k a k ≡ at n ws a k
  column_kept a = simp itself (shortcut_after (at n ws a k))

  row_kept : (b : ℕ) → through n ws k k b ≡ at n ws k b
  row_kept b = simp itself (shortcut_before (at n ws k b))

  row_more : (vs : List ℕ) (a b : ℕ) → Square n vs → a < n → b < n → Row n ws k a b vs → Row n ws k a (b + 1) (set vs (a * n + b) (through n vs k a b))
  row_more vs a b sq ha hb inv c d hc hd =
      let x : at n vs a k ≡ at n ws a k = either_cell a a k b (at n vs a k) (through n ws k a k) (at n ws a k) (column_kept a) (inv a k ha hk) in
      let y : at n vs k b ≡ at n ws k b = not_yet k a b (at n vs k b) (through n ws k k b) (at n ws k b) (inv k b hk hb) in
      let z : at n vs a b ≡ at n ws a b = not_yet a a b (at n vs a b) (through n ws k a b) (at n ws a b) (inv a b ha hb) in
      let e : through n vs k a b ≡ through n ws k a b = simp (x, y, z) in
      merge c a d b (at n (set vs (a * n + b) (through n vs k a b)) c d) (through n vs k a b) (at n vs c d) (through n ws k c d) (at n ws c d)
      (written n vs a b (through n vs k a b) c d sq ha hb hd)
      (inv c d hc hd)
      (λ p q. e ∙ ap (λ (t : ℕ). through n ws k t b) (sym p) ∙ ap (λ (t : ℕ). through n ws k c t) (sym q))

  -- the same of figures that are told to be so
  pub row_told : (g : Grid) (us : List ℕ) (a b : ℕ) → g.count ≡ n → us ≡ set g.figures.items (a * g.count + b) (through g.count g.figures.items k a b) → a < n → b < n → Row n ws k a b g.figures.items → Row n ws k a (b + 1) us
  row_told g us a b same e ha hb inv =
      let vs = g.figures.items in
      let f = subst (λ (x : ℕ). us ≡ set vs (a * x + b) (through x vs k a b)) same e in
      subst (Row n ws k a (b + 1)) (sym f) (row_more vs a b (squared g n same) ha hb inv)

  pub rows_more : (vs us : List ℕ) (a : ℕ) → a < n → Rows n ws k a vs → OneRow n vs k a us → Rows n ws k (a + 1) us
  rows_more vs us a ha inv row c d hc hd =
      let y : at n vs k d ≡ at n ws k d = either_way k a (at n vs k d) (through n ws k k d) (at n ws k d) (row_kept d) (inv k d hk hd) in
      let f : c ≡ a → through n vs k c d ≡ through n ws k c d = λ p.
      let x : at n vs c k ≡ at n ws c k = not_before c a (at n vs c k) (through n ws k c k) (at n ws c k) (omega arith) (inv c k hc hk) in
      let z : at n vs c d ≡ at n ws c d = not_before c a (at n vs c d) (through n ws k c d) (at n ws c d) (omega arith) (inv c d hc hd) in
      simp (x, y, z) in
      merge_rows c a (at n us c d) (through n vs k c d) (at n vs c d) (through n ws k c d) (at n ws c d) (row c d hc hd) (inv c d hc hd) f

  pub rows_told : (m : ℕ) (vs us : List ℕ) (a : ℕ) → m ≡ n → OneRow m vs k a us → a < n → Rows n ws k a vs → Rows n ws k (a + 1) us
  rows_told m vs us a same row ha inv = rows_more vs us a ha inv (subst (λ (x : ℕ). OneRow x vs k a us) same row)
