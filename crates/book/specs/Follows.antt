-- How a table follows the plain book, call by call.
use Rattle.std.specs.Prelude.{◌≡◌, ℕ, Ok, Err, Result}
use Rattle.terms.specs.declared.faults.BookFault.{BookFault}
use Rattle.terms.specs.Faults.{book_refusal}
use Rattle.terms.specs.Refusals.{FirstBroken, NoneBroken}
use Rattle.network.specs.Net.{Net}
use Rattle.revenue.specs.declared.figures.Closing.{Closing}
use Rattle.pricing.specs.declared.decision.Draft.{Draft}
use Rattle.rules.specs.declared.calls.Call.{Call}
use Rattle.rules.specs.declared.calls.Answer.{Answer}
use Rattle.rules.specs.declared.calls.Answer.TheVariants.{Opened, Done, Closed, Drawn}
use Rattle.rules.specs.Points.{Plain}
use Rattle.rules.specs.Plain.{Outcome, checks, Handles}
use Rattle.book.specs.declared.table.PointTable.{PointTable}
use Rattle.book.specs.Shows.{Shows}

-- Whatever plain book the table showed, it now shows one that handled the call with this outcome.
abbrev pub Follows : Net → PointTable → Call → Outcome → PointTable → Type 0
Follows net t c o t' = (p : Plain) → Shows t p → (p' : Plain) × Handles net p c o p' × Shows t' p'

-- A refusal leaves the table as it was.
abbrev pub Kept : {T : Type 0} → Result T BookFault → PointTable → PointTable → Type 0
Kept (Ok x) t t' = Unit {0}
Kept (Err f) t t' = t' ≡ t

-- what the checks of a call find
abbrev pub Checked : {T : Type 0} → Net → PointTable → Call → Result T BookFault → Type 0
Checked net t c (Ok x) = (p : Plain) → Shows t p → NoneBroken (checks net p c)
Checked net t c (Err f) = (p : Plain) → Shows t p → FirstBroken (checks net p c) (book_refusal f)

-- what a call comes back with, as the outcome of a call
abbrev pub outcome : {T : Type 0} → (T → Answer) → Result T BookFault → Outcome
outcome answer (Ok x) = Ok (answer x)
outcome answer (Err f) = Err f

-- and that of each call
abbrev pub opened : Result ℕ BookFault → Outcome
opened r = outcome Opened r

abbrev pub done : Result (Unit {0}) BookFault → Outcome
done r = outcome (λ _. Done) r

abbrev pub closed : Result Closing BookFault → Outcome
closed r = outcome Closed r

abbrev pub drawn : Result Draft BookFault → Outcome
drawn r = outcome (λ d. Drawn d.figures) r
