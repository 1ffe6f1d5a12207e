-- Rules in the order of their checks, and what a call comes back with under them.
use Rattle.std.specs.Prelude.{◌≡◌, ℕ, ◌⊎◌, List, [], ◌∷◌, Ok, Err, Result}
use Rattle.terms.specs.declared.refusals.Part.{Part}
use Rattle.terms.specs.declared.refusals.Refusal.{Refusal}

abbrev pub refusal : ℕ → Part → ℕ → Refusal
refusal number part place = record { number = number; part = part; place = place }

-- A rule that a call can break: what its refusal tells, and when it is broken.
pub record Rule : Type 1 where
  pub refusal : Refusal
  pub broken : Type 0

abbrev pub rule : Refusal → Type 0 → Rule
rule r b = record { refusal = r; broken = b }

-- The first of the rules that is broken has this refusal; those before it hold.
abbrev pub FirstBroken : List Rule → Refusal → Type 0
FirstBroken [] told = ⊥
FirstBroken (r ∷ rs) told = (r.broken × (told ≡ r.refusal)) ⊎ ((r.broken → ⊥) × FirstBroken rs told)

abbrev pub NoneBroken : List Rule → Type 0
NoneBroken [] = Unit {0}
NoneBroken (r ∷ rs) = (r.broken → ⊥) × NoneBroken rs

-- Under these rules a call comes back with what is due where none is broken, and else with the refusal of the first broken one.
abbrev pub Ruled : {T E : Type 0} → (E → Refusal) → List Rule → T → Result T E → Type 0
Ruled told rules due (Ok x) = NoneBroken rules × (x ≡ due)
Ruled told rules due (Err e) = FirstBroken rules (told e)
