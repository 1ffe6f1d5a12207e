-- A run of the lines of a sheet, turn by turn.
use Rattle.std.proofs.Common.{◌≡◌, ℕ, ◌+◌, List, [], ◌∷◌, ◌++◌, length, ℤ, pos, Ok, Err, Result, sym, refl, ap, ◌∙◌, subst, append_assoc, append-nil, arith}
use Rattle.std.proofs.lemmas.List.{length-append}
use Rattle.revenue.specs.declared.figures.Figures.{Figures}
use Rattle.revenue.specs.declared.figures.Closing.{Closing}
use Rattle.revenue.specs.Law.{Accepted, none, next}
use Rattle.revenue.proofs.Balances.{balance}
use Rattle.lines.specs.Bytes.{Text}
use Rattle.lines.specs.Lines.{Raw}
use Rattle.lines.specs.Reading.{read_close}
use Rattle.lines.specs.declared.faults.SheetFault.{SheetFault}
use Rattle.sheet.specs.Printed.{Outcome, line_text, printed}
use Rattle.sheet.specs.Meaning as meaning
use Rattle.sheet.specs.Meaning.{Comes, misread, refused, closed, carried_after, Answers, more, closings_in, Printed}
use Rattle.sheet.specs.Steps.{Turns}

printed_push : (n : ℕ) (os : List Outcome) (o : Outcome) → printed n (os ++ (o ∷ [])) ≡ printed n os ++ line_text (n + length os) o
printed_push n [] o = append-nil (line_text n o) ∙ ap (λ k. line_text k o) (omega arith)
printed_push n (p ∷ os) o =
    let e : n + 1 + length os ≡ n + length (p ∷ os) = omega arith in
    ap (λ t. line_text n p ++ t) (printed_push (n + 1) os o)
    ∙ sym (append_assoc (line_text n p) (printed (n + 1) os) (line_text (n + 1 + length os) o))
    ∙ ap (λ k. (line_text n p ++ printed (n + 1) os) ++ line_text k o) e

closings_push : (os : List Outcome) (o : Outcome) → closings_in (os ++ (o ∷ [])) ≡ closings_in os ++ closings_in (o ∷ [])
closings_push [] (Ok c) = refl
closings_push [] (Err f) = refl
closings_push (Ok c ∷ os) o = ap (λ cs. c ∷ cs) (closings_push os o)
closings_push (Err f ∷ os) o = closings_push os o

-- one line more
accepted_on : (before : List Closing) (carried : ℤ) (asked : Result Figures SheetFault) (o : Outcome) → Accepted before carried → Comes carried asked o
    → Accepted (before ++ closings_in (o ∷ [])) (carried_after carried o)
accepted_on before carried asked o a misread = subst (λ cs. Accepted cs carried) (sym (append-nil before)) a
accepted_on before carried asked o a (refused b) = subst (λ cs. Accepted cs carried) (sym (append-nil before)) a
accepted_on before carried asked o a (closed g) = next a g

-- What is printed so far and what is left give the whole.
pub record SoFar (whole left : List Raw) (n : ℕ) (carried : ℤ) (text : Text) : Type 0 where
  pub done : List Outcome
  pub count : n ≡ 1 + length done
  pub shown : text ≡ printed 1 done
  pub accepted : Accepted (closings_in done) carried
  pub onward : (os : List Outcome) (last : ℤ) → Answers n carried left os last → Answers 1 (pos 0) whole (done ++ os) last

pub so_far_start : (whole left : List Raw) (n : ℕ) (carried : ℤ) (text : Text) → n ≡ 1 → carried ≡ pos 0 → text ≡ [] → left ≡ whole → SoFar whole left n carried text
so_far_start whole left n carried text e z t is =
    record {
      done = [];
      count = omega (arith, e);
      shown = t;
      accepted = subst (Accepted []) (sym z) none;
      onward = λ os last a. subst (λ ls. Answers 1 (pos 0) ls os last) is (subst (λ c. Answers 1 c left os last) z (subst (λ k. Answers k carried left os last) e a));
    }

more_done : (whole : List Raw) (l : Raw) (ls : List Raw) (n : ℕ) (carried then : ℤ) (text new : Text)
    → SoFar whole (l ∷ ls) n carried text → Turns n carried l text new then → SoFar whole ls (n + 1) then new
more_done whole l ls n carried then text new s t =
    let o = t.outcome in
    let done = s.done in
    record {
      done = done ++ (o ∷ []);
      count = omega (arith, s.count, length-append done (o ∷ []));
      shown =
          t.put ∙ ap (λ x. x ++ line_text n o) s.shown ∙ ap (λ k. printed 1 done ++ line_text k o) s.count ∙ sym (printed_push 1 done o);
      accepted =
          subst (λ cs. Accepted cs then) (sym (closings_push done o))
          (subst (Accepted (closings_in done ++ closings_in (o ∷ []))) (sym t.left) (accepted_on (closings_in done) carried (read_close n l) o s.accepted t.comes));
      onward =
          λ os last a.
          subst (λ x. Answers 1 (pos 0) whole x last) (sym (append_assoc done (o ∷ []) os))
          (s.onward (o ∷ os) last (more t.comes (subst (λ c. Answers (n + 1) c ls os last) t.left a)));
    }

-- the first of the lines that are left has had its turn
pub so_far_more : (whole left : List Raw) (l : Raw) (ls : List Raw) (k n m : ℕ) (carried then : ℤ) (text new : Text)
    → SoFar whole left k carried text → left ≡ l ∷ ls → n ≡ k → m ≡ n + 1 → Turns n carried l text new then → SoFar whole ls m then new
so_far_more whole left l ls k n m carried then text new s is at on t =
    subst (λ j. SoFar whole ls j then new) (sym on)
    (more_done whole l ls n carried then text new (subst (λ j. SoFar whole (l ∷ ls) j carried text) (sym at) (subst (λ x. SoFar whole x k carried text) is s)) t)

pub so_far_end : (whole left : List Raw) (n : ℕ) (carried : ℤ) (text : Text) → SoFar whole left n carried text → left ≡ [] → Printed whole text
so_far_end whole left n carried text s is =
    record {
      outcomes = s.done;
      carried = carried;
      answered = subst (λ os. Answers 1 (pos 0) whole os carried) (append-nil s.done) (s.onward [] carried (subst (λ ls. Answers n carried ls [] carried) (sym is) meaning.none));
      shown = s.shown;
      accepted = s.accepted;
      balanced = balance (closings_in s.done) carried s.accepted;
    }
