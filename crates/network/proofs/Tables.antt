-- A table that breaks no rule keeps the laws.
use Rattle.std.proofs.Common.{◌≡◌, ℕ, ◌+◌, ◌*◌, ◌/◌, ◌%◌, ◌<◌, ◌≤◌, Bool, true, false, List, length, get_or, None, MatchBool, sym, refl, subst, ⊎_elim, arith}
use Rattle.std.proofs.lemmas.Nat.{div-mul-add, mod-mul-add, mul-add-lt}
use Rattle.std.proofs.lemmas.Bool.{cases_lt}
use Rattle.terms.specs.Refusals.{NoneBroken}
use Rattle.terms.proofs.Rulings.{none_append}
use Rattle.network.specs.Limits.{bottom_stations, longest}
use Rattle.network.specs.Rules.{First}
use Rattle.network.specs.Grid.{at, GridLaws}
use Rattle.network.specs.Table.{NoFigure, Beaten, BreaksLaw, table_rules}
use Rattle.network.specs.Table.BreaksLaw.{not_itself, unlike, beaten}
use Rattle.network.proofs.Firsts.{none_bad}

-- two numbers that are not unlike are the same
same : (x y : ℕ) → ((x ≡ y → ⊥) → ⊥) → x ≡ y
same x y h = grind arith

-- a figure that is no more than two distances is one itself
plain : (x : ℕ) → x ≤ longest + longest → (NoFigure x → ⊥) → x ≤ longest
plain x l h = grind arith

module _ (n : ℕ) (ws : List ℕ) (a b : ℕ) where
  breaks_none : (a ≡ b → at n ws a b ≡ 0) → at n ws a b ≡ at n ws b a → ((c : ℕ) → c < n → Beaten n ws a b c → ⊥) → BreaksLaw n ws a b → ⊥
  breaks_none itself mirror detours (not_itself e h) = h (itself e)
  breaks_none itself mirror detours (unlike h) = h mirror
  breaks_none itself mirror detours (beaten c h) = detours c h.station h

  -- a figure that keeps the first two laws breaks one where a detour beats it
  pub by_detours : (r : Bool) → MatchBool r ((c : ℕ) × Beaten n ws a b c) ((c : ℕ) → c < n → Beaten n ws a b c → ⊥) → (a ≡ b → at n ws a b ≡ 0) → at n ws a b ≡ at n ws b a
      → MatchBool r (BreaksLaw n ws a b) (BreaksLaw n ws a b → ⊥)
  by_detours true h itself mirror = beaten h.0 h.1
  by_detours false h itself mirror = breaks_none itself mirror h

module _ (n : ℕ) (ws : List ℕ) (size : length ws ≡ n * n)
    (plain-figures : First (λ i. NoFigure (get_or ws i 0)) (length ws) None)
    (kept_laws : First (λ i. BreaksLaw n ws (i / n) (i % n)) (length ws) None) where
  place : (a b : ℕ) → a < n → b < n → a * n + b < length ws
  place a b ha hb = omega (arith, size, mul-add-lt a n b n ha hb)

  kept : (a b : ℕ) → a < n → b < n → BreaksLaw n ws a b → ⊥
  kept a b ha hb broken =
      let row = sym (div-mul-add a n b hb) in
      let column = sym (mod-mul-add a n b hb) in
      kept_laws (a * n + b) (place a b ha hb)
      (subst (λ (x : ℕ). BreaksLaw n ws x ((a * n + b) % n)) row (subst (λ (x : ℕ). BreaksLaw n ws a x) column broken))

  no_longer : (a b c : ℕ) → a < n → b < n → c < n → at n ws a b ≤ longest → at n ws b c ≤ longest → at n ws a c ≤ at n ws a b + at n ws b c
  no_longer a b c ha hb hc e f =
      ⊎_elim
      (λ h. absurd (kept a c ha hc (beaten b (record { station = hb; to = e; from = f; longer = h }))))
      (λ h. h)
      (cases_lt (at n ws a b + at n ws b c) (at n ws a c))

  pub table_laws : GridLaws n ws
  table_laws = record {
    itself = λ a ha. same (at n ws a a) 0 (λ h. kept a a ha ha (not_itself refl h));
    mirror = λ a b ha hb l. same (at n ws b a) (at n ws a b) (λ h. kept b a hb ha (unlike h));
    reach = λ a b c ha hb hc e f.
        plain (at n ws a c) (omega (arith, no_longer a b c ha hb hc e f)) (plain-figures (a * n + c) (place a c ha hc));
    detour = no_longer;
  }

  pub table_kept : 1 ≤ n → n ≤ bottom_stations → NoneBroken (table_rules n ws)
  table_kept some few = (grind arith, none_append _ _ (none_bad _ _ plain-figures) (none_bad _ _ kept_laws))
