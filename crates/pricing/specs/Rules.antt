-- What a call on the book's figures comes back with under a list of rules.
use Rattle.std.specs.Prelude.{List, Ok, Err, Result}
use Rattle.terms.specs.declared.faults.BookFault.{BookFault}
use Rattle.terms.specs.Refusals.{Rule, FirstBroken, NoneBroken}
use Rattle.terms.specs.Faults.{book_refusal}

-- Where no rule is broken, it is answered with what P says; else it is refused by the first broken rule.
abbrev pub Answered : {T : Type 0} → List Rule → (T → Type 0) → Result T BookFault → Type 0
Answered rules P (Ok x) = NoneBroken rules × P x
Answered rules P (Err fault) = FirstBroken rules (book_refusal fault)
