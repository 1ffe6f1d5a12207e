-- A distance as the code holds it.
use Rattle.std.specs.Prelude.{ℕ, Some, None, Option}
use Rattle.terms.specs.declared.measures.Km.{Km}

-- its number of kilometres
abbrev pub kms : Option Km → Option ℕ
kms None = None
kms (Some k) = Some k.0
