-- Rules after rules.
use Rattle.std.proofs.Common.{◌≡◌, List, [], ◌∷◌, ◌++◌, Ok, Err, Result, sym, ◌∙◌, inl, inr}
use Rattle.terms.specs.declared.refusals.Refusal.{Refusal}
use Rattle.terms.specs.Refusals.{Rule, FirstBroken, NoneBroken, Ruled}

pub none_append : (xs ys : List Rule) → NoneBroken xs → NoneBroken ys → NoneBroken (xs ++ ys)
none_append [] ys n m = m
none_append (x ∷ xs) ys n m = (n.0, none_append xs ys n.1 m)

-- a rule of the first list is the first broken one
pub first_front : (xs ys : List Rule) (told : Refusal) → FirstBroken xs told → FirstBroken (xs ++ ys) told
first_front [] ys told b = absurd b
first_front (x ∷ xs) ys told (inl h) = inl h
first_front (x ∷ xs) ys told (inr h) = inr (h.0, first_front xs ys told h.1)

-- none of the first list is broken, and one of the second is
pub first_back : (xs ys : List Rule) (told : Refusal) → NoneBroken xs → FirstBroken ys told → FirstBroken (xs ++ ys) told
first_back [] ys told n b = b
first_back (x ∷ xs) ys told n b = inr (n.0, first_back xs ys told n.1 b)

-- a call that broke none of the first list comes back as the second says
pub ruled_back : {T E : Type 0} (told : E → Refusal) (xs ys : List Rule) (due : T) (r : Result T E) → NoneBroken xs → Ruled told ys due r → Ruled told (xs ++ ys) due r
ruled_back told xs ys due (Ok x) n b = (none_append xs ys n b.0, b.1)
ruled_back told xs ys due (Err e) n b = first_back xs ys (told e) n b

-- rules are not both broken and unbroken
pub not_both : (xs : List Rule) (told : Refusal) → FirstBroken xs told → NoneBroken xs → ⊥
not_both [] told b n = b
not_both (x ∷ xs) told (inl h) n = n.0 h.0
not_both (x ∷ xs) told (inr h) n = not_both xs told h.1 n.1

-- the first broken rule has one refusal
pub first_one : (xs : List Rule) (a b : Refusal) → FirstBroken xs a → FirstBroken xs b → a ≡ b
first_one [] a b p q = absurd p
first_one (x ∷ xs) a b (inl p) (inl q) = p.1 ∙ sym q.1
first_one (x ∷ xs) a b (inl p) (inr q) = absurd (q.0 p.0)
first_one (x ∷ xs) a b (inr p) (inl q) = absurd (p.0 q.0)
first_one (x ∷ xs) a b (inr p) (inr q) = first_one xs a b p.1 q.1
