-- Whatever run over a lawful source leads to a book, all is kept that is promised of it.
use Rattle.std.proofs.Common.{ℕ, List, take, subst}
use Rattle.terms.specs.Refusals.{NoneBroken}
use Rattle.network.specs.Net.{Net, Lawful}
use Rattle.revenue.specs.Law as closings
use Rattle.revenue.specs.Law.{Accepted}
use Rattle.revenue.proofs.Balances.{balance}
use Rattle.rules.specs.declared.calls.Call.{Call}
use Rattle.rules.specs.declared.calls.Call.TheVariants.{Open, Plan, Relieve, Close, Draw}
use Rattle.rules.specs.Points.{Plain}
use Rattle.rules.specs.Plain.{Outcome, checks, after}
use Rattle.rules.specs.Runs.{History, Led, paired}
use Rattle.rules.specs.Promises.{Known}
use Rattle.rules.specs.Laws.{Promises}
use Rattle.rules.proofs.Histories.{always, paired_take, led_take}
use Rattle.rules.proofs.Bounds.{bounded}
use Rattle.rules.proofs.Elements.{fitting}
use Rattle.rules.proofs.Reached.{reached, light}
use Rattle.rules.proofs.Levels.{level, averaged}
use Rattle.rules.proofs.Drafted.{drawable}

-- a closing goes on from those before it, and no other call touches them
closed_by :
    (net : Net) (p : Plain) (c : Call) → NoneBroken (checks net p c) → Accepted p.closings p.carried →
    Accepted (after p c).closings (after p c).carried
closed_by net p (Open s k at) g a = a
closed_by net p (Plan n lots) g a = a
closed_by net p (Relieve s parts) g a = a
closed_by net p (Close f) g a = closings.next a g
closed_by net p Draw g a = a

closed : (net : Net) (h : History) (p : Plain) → Led net h p → Accepted p.closings p.carried
closed net = always net (λ p. Accepted p.closings p.carried) closings.none (closed_by net)

pub promised : Promises
promised net lawful h p led =
    let bounds = bounded net h p led in
    let fits = fitting net h p led in
    let all = reached net lawful h p led in
    let accepted-all = closed net h p led in
    record {
      reached = all;
      averaged = averaged net p.points;
      bounded = bounds;
      light = light net p fits all bounds;
      level = level net lawful p fits;
      draft = drawable net p fits bounds;
      closed = accepted-all;
      balanced = balance p.closings p.carried accepted-all;
    }

pub known : (net : Net) → Lawful net → (h : History) (p : Plain) → Led net h p → Known net h
known net lawful h p led = record { book = p; led = led; promised = promised net lawful h p led }

-- and so it is at every point of a run
pub known_take :
    (net : Net) → Lawful net → (cs : List Call) (os : List Outcome) (p : Plain) → Led net (paired cs os) p → (k : ℕ) →
    Known net (paired (take k cs) (take k os))
known_take net lawful cs os p led k =
    let s = led_take net (paired cs os) p led k in
    known net lawful (paired (take k cs) (take k os)) s.0 (subst (λ h. Led net h s.0) (paired_take k cs os) s.1)
