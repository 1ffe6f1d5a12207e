-- The law of a book: whatever calls it handled, the plain book handled them with the same outcomes, the book's table shows it,
-- and all is kept that is promised of it.
use Rattle.std.specs.Prelude.{◌≡◌, ℕ, ◌≤◌, List, ◌++◌, length, take, Ok, Err, Result}
use Rattle.terms.specs.declared.points.Side.{Side}
use Rattle.terms.specs.declared.faults.SourceFault.{SourceFault}
use Rattle.terms.specs.declared.faults.BookFault.{BookFault}
use Rattle.terms.specs.declared.faults.BookFault.TheVariants.{Source}
use Rattle.terms.specs.Refusals.{Rule, NoneBroken}
use Rattle.network.specs.Net.{Net}
use Rattle.network.specs.Rules.{Made}
use Rattle.rules.specs.declared.calls.Call.{Call}
use Rattle.rules.specs.Points.{Plain}
use Rattle.rules.specs.Plain.{Outcome}
use Rattle.rules.specs.Runs.{History, paired, one}
use Rattle.rules.specs.Promises.{Known}
use Rattle.book.specs.declared.table.PointTable.{PointTable}
use Rattle.book.specs.Shows.{Shows}
use Rattle.book.specs.Follows.{Follows, Kept}

-- The calls with their outcomes lead to a plain book of which all is promised, and this table shows it.
pub record Stands (net : Net) (h : History) (t : PointTable) : Type 0 where
  pub known : Known net h
  pub shown : Shows t known.book

-- Whatever calls led to the table before, they and these lead to the table after.
abbrev pub Extends : Net → PointTable → History → PointTable → Type 0
Extends net t more t' = (h : History) → Stands net h t → Stands net (h ++ more) t'

-- What a call keeps that came back with this outcome, on a book with the table before, which it left with the table after.
pub record Keeps (net : Net) (t : PointTable) (c : Call) (o : Outcome) (t' : PointTable) : Type 0 where
  -- a refusal leaves the table as it was
  pub kept : Kept o t t'
  -- the plain book handles the call with the same outcome
  pub step : Follows net t c o t'
  -- whatever calls led to the table before, they and this one lead to the table after
  pub law : Extends net t (one c o) t'

-- A run of these calls, from the empty book, came back with these outcomes and ended in this table.
pub record Run (net : Net) (calls : List Call) (outcomes : List Outcome) (t : PointTable) : Type 0 where
  pub answered : length outcomes ≡ length calls
  -- before the first call and after each
  pub each : (k : ℕ) → k ≤ length calls → Known net (paired (take k calls) (take k outcomes))
  pub ends : Stands net (paired calls outcomes) t

-- what two plain books have in common that differ at most in their closings
pub record Alike (p q : Plain) : Type 0 where
  pub points : p.points ≡ q.points
  pub relief : (s : Side) → p.relief s ≡ q.relief s
  pub allowed : p.allowed ≡ q.allowed
  pub carried : p.carried ≡ q.carried

-- Two plain books that one table shows differ at most in their closings.
abbrev pub Faithful : Type 0
Faithful = (t : PointTable) (p q : Plain) → Shows t p → Shows t q → Alike p q

-- A book of which P holds is made where the source breaks none of its rules; else the source's fault is passed on whole.
abbrev pub Founded : {B : Type 0} → List Rule → (B → Type 0) → Result B BookFault → Type 0
Founded rules P (Ok b) = NoneBroken rules × P b
Founded rules P (Err f) = (e : SourceFault) × (f ≡ Source e) × Made {T = Unit {0}} rules (λ _. Unit {0}) (Err e)
