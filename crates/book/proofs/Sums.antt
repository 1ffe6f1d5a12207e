-- Sums over those of one kind, one element at a time.
use Rattle.std.proofs.Common.{◌≡◌, ℕ, ◌+◌, ◌≤◌, Bool, true, false, cond, List, [], ◌∷◌, ◌++◌, sum_by, arith}
use Rattle.std.proofs.lemmas.List.Sums.{sum_by-cons}
use Rattle.terms.specs.declared.points.Kind.{Kind}
use Rattle.rules.specs.Weights.{same_kind, sum_of_kind}

pub sum_of_kind_push : {X : Type 0} (kind : X → Kind) (f : X → ℕ) (k : Kind) (xs : List X) (x : X) → sum_of_kind kind f k (xs ++ (x ∷ [])) ≡ sum_of_kind kind f k xs + cond (same_kind k (kind x)) (f x) 0
sum_of_kind_push kind f k [] x = omega arith
sum_of_kind_push kind f k (y ∷ xs) x = let e = sum_of_kind_push kind f k xs x in omega arith

-- those of one kind come to no more than all
pub sum_of_kind_le : {X : Type 0} (kind : X → Kind) (f : X → ℕ) (k : Kind) (xs : List X) → sum_of_kind kind f k xs ≤ sum_by f xs
sum_of_kind_le kind f k [] = omega arith
sum_of_kind_le kind f k (x ∷ xs) = by (same_kind k (kind x)) (sum_of_kind_le kind f k xs)
  where
    by : (t : Bool) → sum_of_kind kind f k xs ≤ sum_by f xs → cond t (f x) 0 + sum_of_kind kind f k xs ≤ sum_by f (x ∷ xs)
    by true l = omega (arith, sum_by-cons f x xs)
    by false l = omega (arith, sum_by-cons f x xs)
