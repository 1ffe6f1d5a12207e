-- One call more of a run.
use Rattle.std.proofs.Common.{◌≡◌, ℕ, ◌+◌, ◌<◌, List, [], ◌∷◌, ◌++◌, length, get_or, take, Ok, Err, Result, sym, refl, ap, ◌∙◌, subst, arith}
use Rattle.std.proofs.lemmas.List.{take_more, length-take}
use Rattle.std.specs.Result.{MatchResult, IsOkAnd}
use Rattle.terms.specs.declared.faults.BookFault.{BookFault}
use Rattle.network.specs.Net.{Net, Lawful}
use Rattle.rules.specs.declared.calls.Call.{Call}
use Rattle.rules.specs.declared.calls.Answer.{Answer}
use Rattle.rules.specs.Points.{Plain, empty}
use Rattle.rules.specs.Plain.{Outcome}
use Rattle.rules.specs.Runs.{History, Led, started, handled, paired, one}
use Rattle.rules.proofs.Histories.{paired_push}
use Rattle.rules.proofs.Promised.{promised, known_take}
use Rattle.book.specs.declared.table.PointTable.{PointTable}
use Rattle.book.specs.Shows.{Shows}
use Rattle.book.specs.Follows.{Follows, Kept, outcome}
use Rattle.book.specs.Law.{Stands, Extends, Keeps, Run}

module _ (net : Net) (lawful : Lawful net) where
  stands : (h : History) (p : Plain) (t : PointTable) → Led net h p → Shows t p → Stands net h t
  stands h p t led sh = record { known = record { book = p; led = led; promised = promised net lawful h p led }; shown = sh }

  pub stands_empty : (t : PointTable) → Shows t empty → Stands net [] t
  stands_empty t sh = stands [] empty t started sh

  pub extends : (t : PointTable) (c : Call) (o : Outcome) (t' : PointTable) → Follows net t c o t' → Extends net t (one c o) t'
  extends t c o t' f h s = let n = f s.known.book s.shown in stands (h ++ one c o) n.0 t' (handled s.known.led n.1) n.2

  -- what a call keeps, from what the table keeps and follows
  pub keeps : {T : Type 0} (answer : T → Answer) (t : PointTable) (c : Call) (r : Result T BookFault) (t' : PointTable) → Kept r t t' → Follows net t c (outcome answer r) t' → Keeps net t c (outcome answer r) t'
  keeps answer t c (Ok x) t' k f = record { kept = k; step = f; law = extends t c (Ok (answer x)) t' f }
  keeps answer t c (Err e) t' k f = record { kept = k; step = f; law = extends t c (Err e) t' f }

  pub ran : (cs : List Call) (os : List Outcome) (t : PointTable) → length os ≡ length cs → Stands net (paired cs os) t → Run net cs os t
  ran cs os t l s = record { answered = l; each = λ k _. known_take net lawful cs os s.known.book s.known.led k; ends = s }

pub kept_still : {T : Type 0} (r : Result T BookFault) (t : PointTable) → Kept r t t
kept_still (Ok x) t = tt
kept_still (Err f) t = refl

-- what `map` comes back with that makes an answer of the value
pub answers : {T : Type 0} (answer : T → Answer) (r : Result T BookFault) (o : Outcome) → MatchResult r (λ x. IsOkAnd o (λ a. a ≡ answer x)) (λ e. o ≡ Err e) → o ≡ outcome answer r
answers answer (Ok x) (Ok a) e = ap Ok e
answers answer (Ok x) (Err f) e = absurd e
answers answer (Err f) o e = e

pub stands_more : (net : Net) (cs : List Call) (i : ℕ) (d : Call) (os : List Outcome) (o : Outcome) (t t' : PointTable) → i < length cs → length os ≡ i → Stands net (paired (take i cs) os) t → Extends net t (one (get_or cs i d) o) t' → Stands net (paired (take (i + 1) cs) (os ++ (o ∷ []))) t'
stands_more net cs i d os o t t' l e run step =
    let n : length os ≡ length (take i cs) = simp length-take (omega arith) in
    let q : paired (take (i + 1) cs) (os ++ (o ∷ [])) ≡ paired (take i cs) os ++ ((get_or cs i d, o) ∷ []) = ap (λ xs. paired xs (os ++ (o ∷ []))) (take_more cs i d l) ∙ paired_push (take i cs) os (get_or cs i d) o n in
    subst (λ h. Stands net h t') (sym q) (step (paired (take i cs) os) run)
