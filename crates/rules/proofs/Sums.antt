-- Sums of figures over lists.
use Rattle.std.proofs.Common.{◌≡◌, ℕ, ◌+◌, ◌*◌, ◌≤◌, List, [], ◌∷◌, sum_by, sym, refl, ap, ◌∙◌, mul-le-mul_left, arith}
use Rattle.std.proofs.lemmas.List.Sums.{sum_by-cons}
use mathlib.Core.List.{Memᴰ}
use Rattle.rules.specs.Points.{Point, lots_of}

module _ {X : Type 0} where
  pub sum_same : (f g : X → ℕ) → ((x : X) → f x ≡ g x) → (xs : List X) → sum_by f xs ≡ sum_by g xs
  sum_same f g same [] = refl
  sum_same f g same (x ∷ xs) = omega (arith, sum_by-cons f x xs, sum_by-cons g x xs, same x, sum_same f g same xs)

  sum_zero : (xs : List X) → sum_by (λ _. 0) xs ≡ 0
  sum_zero [] = refl
  sum_zero (x ∷ xs) = sum_zero xs

  pub sum_times : (n : ℕ) (f : X → ℕ) (xs : List X) → n * sum_by f xs ≡ sum_by (λ x. n * f x) xs
  sum_times n f [] = omega arith
  sum_times n f (x ∷ xs) = rw (sum_by-cons f x xs, sum_by-cons (λ z. n * f z) x xs) (omega (arith, sum_times n f xs))

  sum_plus : (f g : X → ℕ) (xs : List X) → sum_by (λ x. f x + g x) xs ≡ sum_by f xs + sum_by g xs
  sum_plus f g [] = refl
  sum_plus f g (x ∷ xs) = omega (arith, sum_by-cons (λ z. f z + g z) x xs, sum_by-cons f x xs, sum_by-cons g x xs, sum_plus f g xs)

-- row by row is column by column
pub sum_swap :
    {X Y : Type 0} (f : X → Y → ℕ) (xs : List X) (ys : List Y) → sum_by (λ x. sum_by (f x) ys) xs ≡ sum_by (λ y. sum_by (λ x. f x y) xs) ys
sum_swap f [] ys = sym (sum_zero ys)
sum_swap f (x ∷ xs) ys =
    sum_by-cons (λ z. sum_by (f z) ys) x xs
    ∙ ap (λ n. sum_by (f x) ys + n) (sum_swap f xs ys)
    ∙ sym (sum_plus (f x) (λ y. sum_by (λ z. f z y) xs) ys)
    ∙ sum_same _ (λ y. sum_by (λ z. f z y) (x ∷ xs)) (λ y. sym (sum_by-cons (λ z. f z y) x xs)) ys

-- lots times figures, none of them above b
pub sum_below :
    (f : Point → ℕ) (b : ℕ) (qs : List Point) → ((q : Point) → Memᴰ q qs → f q ≤ b) → sum_by (λ q. q.lots * f q) qs ≤ lots_of qs * b
sum_below f b [] few = omega arith
sum_below f b (q ∷ qs) few =
    rw (sum_by-cons (λ z. z.lots * f z) q qs, sum_by-cons (λ (z : Point). z.lots) q qs)
    (omega (arith, mul-le-mul_left q.lots (few q (Memᴰ.head refl)), sum_below f b qs (λ x m. few x (Memᴰ.tail m))))
