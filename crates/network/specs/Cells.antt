-- The cells of a square of figures.
use Rattle.std.specs.Prelude.{◌≡◌, ℕ, ◌+◌, ◌*◌, ◌/◌, ◌%◌, ◌<◌, cond, List, length, ◌==◌, ◌≢◌, slice_index, slice_set}
use Rattle.std.proofs.Common.{sym, ap, ◌∙◌, ⊎_elim, arith}
use Rattle.std.proofs.lemmas.Bool.Decides.{eqb_tells}
use Rattle.std.proofs.lemmas.Nat.{mul-add-lt, div-mul-add, mod-mul-add}
use Rattle.std.proofs.lemmas.List.{get_or-set_same, get_or-set_other}
use Rattle.network.specs.Grid.{at, Square}

cell_row : (n a b c d : ℕ) → b < n → d < n → a * n + b ≡ c * n + d → a ≡ c
cell_row n a b c d h k e = sym (div-mul-add a n b h) ∙ ap (λ (x : ℕ). x / n) e ∙ div-mul-add c n d k

cell_column : (n a b c d : ℕ) → b < n → d < n → a * n + b ≡ c * n + d → b ≡ d
cell_column n a b c d h k e = sym (mod-mul-add a n b h) ∙ ap (λ (x : ℕ). x % n) e ∙ mod-mul-add c n d k

-- a write to cell a, b, seen at c, d
pub written : (n : ℕ) (ws : List ℕ) (a b v c d : ℕ) → Square n ws → a < n → b < n → d < n → at n (slice_set ws (a * n + b) v) c d ≡ cond (c == a) (cond (d == b) v (at n ws c d)) (at n ws c d)
written n ws a b v c d sq ha hb hd =
    let in_list : a * n + b < length ws = omega (arith, sq.size, mul-add-lt a n b n ha hb) in
    let apart : (c * n + d ≢ a * n + b) → at n (slice_set ws (a * n + b) v) c d ≡ at n ws c d = λ ne. get_or-set_other ws (a * n + b) (c * n + d) v 0 ne in
    ⊎_elim
    (λ p. ⊎_elim
    (λ q.
    let there : c * n + d ≡ a * n + b = cc (p.1, q.1) in
    let e : at n (slice_set ws (a * n + b) v) c d ≡ v = ap (λ (x : ℕ). slice_index (slice_set ws (a * n + b) v) x) there ∙ get_or-set_same ws (a * n + b) v 0 in_list in
    simp (p.0, q.0) e)
    (λ q. simp (p.0, q.0) (apart (λ e. q.1 (cell_column n c d a b hd hb e))))
    (eqb_tells d b))
    (λ p. simp p.0 (apart (λ e. p.1 (cell_row n c d a b hd hb e))))
    (eqb_tells c a)
