-- What it is to read a letter.
use Rattle.std.specs.Prelude.{◌≡◌, ℕ, Ok, Err, Result, Some, None, Option, ◌≢◌}
use Rattle.terms.specs.declared.points.UnknownLetter.{UnknownLetter}

-- The letter c writes x, or it writes nothing that has a letter.
abbrev pub Spells : {X : Type 0} → (X → ℕ) → ℕ → Option X → Type 0
Spells letter c (Some x) = c ≡ letter x
Spells {X} letter c None = (x : X) → c ≢ letter x

-- Reading the letter c gives what it writes, or c back where it writes nothing.
abbrev pub Reads : {X : Type 0} → (X → ℕ) → (ℕ → Option X) → ℕ → Result X UnknownLetter → Type 0
Reads letter of c (Ok x) = (of c ≡ Some x) × Spells letter c (Some x)
Reads letter of c (Err e) = (e.0 ≡ c) × ((of c ≡ None) × Spells letter c None)
