-- Histories: what holds after any run, prefixes, one book at most, and no trace of refused calls and draws.
use Rattle.std.proofs.Common.{◌≡◌, ℕ, zero, suc, Bool, true, false, cond, List, [], ◌∷◌, ◌++◌, length, take, Ok, Err, sym, refl, ap, ◌∙◌, subst, inl, inr, arith}
use Rattle.std.proofs.lemmas.List.{same_from_push, length_push, append-nil, take_all, take-append-le}
use Rattle.std.proofs.lemmas.Bool.{cases_lt}
use Rattle.terms.specs.declared.faults.BookFault.{BookFault}
use Rattle.terms.specs.Refusals.{NoneBroken}
use Rattle.network.specs.Net.{Net}
use Rattle.rules.specs.declared.calls.Call.{Call}
use Rattle.rules.specs.declared.calls.Call.TheVariants.{Open, Plan, Relieve, Close, Draw}
use Rattle.rules.specs.Points.{Plain, empty}
use Rattle.rules.specs.Plain.{Outcome, checks, answered, after, Handles, refused, accepted}
use Rattle.rules.specs.Runs.{History, Led, started, handled, paired}
use Rattle.rules.specs.Laws.{Single, changes, traced, NoTrace}
use Rattle.rules.proofs.Outcomes.{settled}

-- What holds of the empty book, and is kept by every accepted call, holds after any run.
module _ (net : Net) (P : Plain → Type 0) (start : P empty) (keeps : (p : Plain) (c : Call) → NoneBroken (checks net p c) → P p → P (after p c)) where
  kept_by : (p : Plain) (c : Call) (o : Outcome) (p' : Plain) → Handles net p c o p' → P p → P p'
  kept_by p c o p' (refused f) k = k
  kept_by p c o p' (accepted g) k = keeps p c g k

  pub always : (h : History) (p : Plain) → Led net h p → P p
  always h p started = start
  always h p (handled {h = h₀} {p = p₀} {c} {o} led step) = kept_by p₀ c o p step (always h₀ p₀ led)

-- ---- one book at most

-- what stood before the last call of a run
last_from :
    (net : Net) (k : History) (p' : Plain) → Led net k p' → (h : History) (c : Call) (o : Outcome) → k ≡ h ++ ((c, o) ∷ []) →
    (p : Plain) × Led net h p × Handles net p c o p'
last_from net k p' started h c o e = absurd (omega (arith, ap length e ∙ length_push h (c, o)))
last_from net k p' (handled {h = h₀} {p} {c = c₀} {o = o₀} led step) h c o e =
    let s = same_from_push h₀ h (c₀, o₀) (c, o) e in
    (p, subst (λ x. Led net x p) s.0 led, subst (λ (x : Call × Outcome). Handles net p x.0 x.1 p') s.1 step)

none_led : (net : Net) (k : History) (p : Plain) → Led net k p → k ≡ [] → p ≡ empty
none_led net k p started e = refl
none_led net k p (handled {h} {c} {o} led step) e = absurd (omega (arith, sym (length_push h (c, o)) ∙ ap length e))

pub single : Single
single net h p p' started other = sym (none_led net _ p' other refl)
single net h p p' (handled {h = h₀} {p = p₀} {c} {o} led step) other =
    let s = last_from net _ p' other h₀ c o refl in
    let e = single net h₀ p₀ s.0 led s.1 in
    (settled net p₀ c o o p p' step (subst (λ z. Handles net z c o p') (sym e) s.2)).1

-- ---- no trace

refused_changes : (c : Call) (f : BookFault) → changes (c, Err f) ≡ false
refused_changes (Open s k at) f = refl
refused_changes (Plan n lots) f = refl
refused_changes (Relieve s parts) f = refl
refused_changes (Close f) g = refl
refused_changes Draw f = refl

module _ (net : Net) (x : Call × Outcome) where
  traced_push : (h : History) → traced (h ++ (x ∷ [])) ≡ traced h ++ cond (changes x) (x ∷ []) []
  traced_push [] = refl
  traced_push (y ∷ h) = by (changes y) (traced_push h)
    where
      by :
          (t : Bool) → traced (h ++ (x ∷ [])) ≡ traced h ++ cond (changes x) (x ∷ []) [] →
          cond t (y ∷ traced (h ++ (x ∷ []))) (traced (h ++ (x ∷ []))) ≡ cond t (y ∷ traced h) (traced h) ++ cond (changes x) (x ∷ []) []
      by true e = ap (λ l. y ∷ l) e
      by false e = e

  -- a call that changes nothing is left out
  left_out : (h : History) (p : Plain) → changes x ≡ false → Led net (traced h) p → Led net (traced (h ++ (x ∷ []))) p
  left_out h p e led =
      subst (λ l. Led net l p) (sym (traced_push h ∙ ap (λ t. traced h ++ cond t (x ∷ []) []) e ∙ append-nil (traced h))) led

  -- another one is not
  left_in :
      (h : History) (p p' : Plain) → changes x ≡ true → Led net (traced h) p → Handles net p x.0 x.1 p' → Led net (traced (h ++ (x ∷ []))) p'
  left_in h p p' e led step =
      subst (λ l. Led net l p') (sym (traced_push h ∙ ap (λ t. traced h ++ cond t (x ∷ []) []) e)) (handled led step)

module _ (net : Net) (h : History) (p : Plain) (led : Led net (traced h) p) where
  accepted_traced : (c : Call) → NoneBroken (checks net p c) → Led net (traced (h ++ ((c, Ok (answered net p c)) ∷ []))) (after p c)
  accepted_traced (Open s k at) g = left_in net _ h p _ refl led (accepted g)
  accepted_traced (Plan n lots) g = left_in net _ h p _ refl led (accepted g)
  accepted_traced (Relieve s parts) g = left_in net _ h p _ refl led (accepted g)
  accepted_traced (Close f) g = left_in net _ h p _ refl led (accepted g)
  accepted_traced Draw g = left_out net _ h p refl led

  handled_traced : (c : Call) (o : Outcome) (p' : Plain) → Handles net p c o p' → Led net (traced (h ++ ((c, o) ∷ []))) p'
  handled_traced c o p' (refused {f} b) = left_out net (c, Err f) h p (refused_changes c f) led
  handled_traced c o p' (accepted g) = accepted_traced c g

pub no_trace_lem : NoTrace
no_trace_lem net h p started = started
no_trace_lem net h p (handled {h = h₀} {p = p₀} {c} {o} led step) = handled_traced net h₀ p₀ (no_trace_lem net h₀ p₀ led) c o p step

-- ---- prefixes

pub paired_push :
    (cs : List Call) (os : List Outcome) (c : Call) (o : Outcome) → length os ≡ length cs →
    paired (cs ++ (c ∷ [])) (os ++ (o ∷ [])) ≡ paired cs os ++ ((c, o) ∷ [])
paired_push [] [] c o e = refl
paired_push [] (y ∷ os) c o e = absurd (omega arith)
paired_push (x ∷ cs) [] c o e = absurd (omega arith)
paired_push (x ∷ cs) (y ∷ os) c o e = ap (λ h. (x, y) ∷ h) (paired_push cs os c o (omega arith))

pub paired_take : (k : ℕ) (cs : List Call) (os : List Outcome) → take k (paired cs os) ≡ paired (take k cs) (take k os)
paired_take zero cs os = refl
paired_take (suc k) [] os = refl
paired_take (suc k) (c ∷ cs) [] = refl
paired_take (suc k) (c ∷ cs) (o ∷ os) = ap (λ h. (c, o) ∷ h) (paired_take k cs os)

take_none : {X : Type 0} (k : ℕ) → take {A = X} k [] ≡ []
take_none zero = refl
take_none (suc k) = refl

-- the calls up to any point of a run lead to a book
pub led_take : (net : Net) (h : History) (p : Plain) → Led net h p → (k : ℕ) → (p₀ : Plain) × Led net (take k h) p₀
led_take net h p started k = (p, subst (λ l. Led net l p) (sym (take_none k)) started)
led_take net h p (handled {h = h₀} {p = p₀} {c} {o} led step) k =
    elim (cases_lt (length h₀) k) [
      | inl l ↦ (p, subst (λ x. Led net x p) (sym (take_all k (h₀ ++ ((c, o) ∷ [])) (omega (arith, length_push h₀ (c, o))))) (handled led step))
      | inr l ↦ let s = led_take net h₀ p₀ led k in (s.0, subst (λ x. Led net x s.0) (sym (take-append-le k h₀ ((c, o) ∷ []) l)) s.1)
    ]
