-- Runs: calls in any order, with what they came back with.
use Rattle.std.specs.Prelude.{List, [], ◌∷◌, ◌++◌}
use Rattle.network.specs.Net.{Net}
use Rattle.rules.specs.declared.calls.Call.{Call}
use Rattle.rules.specs.Points.{Plain, empty}
use Rattle.rules.specs.Plain.{Outcome, Handles}

-- calls with their outcomes, in their order
abbrev pub History : Type 0
History = List (Call × Outcome)

-- The history leads from the empty book to this one.
pub data Led (net : Net) : History → Plain → Type 0 where
  started : Led net [] empty
  handled : {h : History} {p : Plain} {c : Call} {o : Outcome} {p' : Plain} → Led net h p → Handles net p c o p' → Led net (h ++ ((c, o) ∷ [])) p'

-- these calls with these outcomes
abbrev pub paired : List Call → List Outcome → History
paired [] os = []
paired (c ∷ cs) [] = []
paired (c ∷ cs) (o ∷ os) = (c, o) ∷ paired cs os

-- one call with its outcome
abbrev pub one : Call → Outcome → History
one c o = (c, o) ∷ []
