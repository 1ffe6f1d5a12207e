-- What follows from the rules alone, over every run.
use Rattle.std.specs.Prelude.{◌≡◌, Bool, true, false, cond, [], ◌∷◌, Ok, Err}
use Rattle.network.specs.Net.{Net, Lawful}
use Rattle.rules.specs.declared.calls.Call.{Call}
use Rattle.rules.specs.declared.calls.Call.TheVariants.{Open, Plan, Relieve, Close, Draw}
use Rattle.rules.specs.Points.{Plain}
use Rattle.rules.specs.Plain.{Outcome, Handles}
use Rattle.rules.specs.Runs.{History, Led}
use Rattle.rules.specs.Promises.{Promised}

-- Every call on a plain book has an outcome.
abbrev pub Total : Type 0
Total = (net : Net) (p : Plain) (c : Call) → (o : Outcome) × (p' : Plain) × Handles net p c o p'

-- A call on a plain book has one outcome, and leaves one plain book.
abbrev pub Settled : Type 0
Settled =
    (net : Net) (p : Plain) (c : Call) (a b : Outcome) (p' p'' : Plain) → Handles net p c a p' → Handles net p c b p''
    → (a ≡ b) × (p' ≡ p'')

-- Calls with their outcomes lead to one plain book at most.
abbrev pub Single : Type 0
Single = (net : Net) (h : History) (p p' : Plain) → Led net h p → Led net h p' → p ≡ p'

-- whether a call with its outcome can have changed the book: it was accepted, and was no draw
abbrev pub changes : Call × Outcome → Bool
changes (Open s k at, Ok a) = true
changes (Plan n lots, Ok a) = true
changes (Relieve s parts, Ok a) = true
changes (Close f, Ok a) = true
changes (Draw, Ok a) = false
changes (c, Err f) = false

-- a history without its refused calls and its draws
abbrev pub traced : History → History
traced [] = []
traced (x ∷ h) = cond (changes x) (x ∷ traced h) (traced h)

-- Refused calls and draws leave no trace: without them a history leads to the same plain book.
abbrev pub NoTrace : Type 0
NoTrace = (net : Net) (h : History) (p : Plain) → Led net h p → Led net (traced h) p

-- Of every book that a run over a lawful source leads to, all is kept that is promised.
abbrev pub Promises : Type 0
Promises = (net : Net) → Lawful net → (h : History) (p : Plain) → Led net h p → Promised net p
