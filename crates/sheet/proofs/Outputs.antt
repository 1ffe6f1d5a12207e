-- A sheet prints one text.
use Rattle.std.proofs.Common.{◌≡◌, ℕ, ◌+◌, ◌<◌, ◌≤◌, List, [], ◌∷◌, ◌++◌, length, ℤ, pos, Result, sym, refl, ap, ◌∙◌, subst, arith}
use Rattle.terms.specs.Faults.{book_refusal}
use Rattle.terms.proofs.Rulings.{first_one, not_both}
use Rattle.revenue.specs.declared.figures.Figures.{Figures}
use Rattle.revenue.specs.Checks.{close_rules}
use Rattle.lines.specs.Bytes.{Text}
use Rattle.lines.specs.Limits.{longest_sheet}
use Rattle.lines.specs.Lines.{Raw, lines}
use Rattle.lines.specs.Reading.{read_close}
use Rattle.lines.specs.declared.faults.SheetFault.{SheetFault}
use Rattle.sheet.specs.Printed.{Outcome, refused_text, line_text, printed}
use Rattle.sheet.specs.Meaning.{Comes, misread, refused, closed, carried_after, Answers, none, more, Printed, Means, long, fits, Output}

-- a line comes back with what prints one text and carries on one amount
comes_one : (n : ℕ) (carried : ℤ) (asked : Result Figures SheetFault) (o p : Outcome) → Comes carried asked o → Comes carried asked p
    → (line_text n o ≡ line_text n p) × (carried_after carried o ≡ carried_after carried p)
comes_one n carried asked o p misread misread = (refl, refl)
comes_one n carried asked o p (refused {f = f} {fault = a} x) (refused {fault = b} y) =
    (ap (λ r. refused_text n r.number) (first_one (close_rules carried f) (book_refusal a) (book_refusal b) x y), refl)
comes_one n carried asked o p (refused {f = f} {fault = a} x) (closed y) = absurd (not_both (close_rules carried f) (book_refusal a) x y)
comes_one n carried asked o p (closed {f = f} x) (refused {fault = b} y) = absurd (not_both (close_rules carried f) (book_refusal b) y x)
comes_one n carried asked o p (closed x) (closed y) = (refl, refl)

answers_one : (n : ℕ) (carried last end : ℤ) (ls : List Raw) (os ps : List Outcome) → Answers n carried ls os last → Answers n carried ls ps end → printed n os ≡ printed n ps
answers_one n carried last end [] os ps none none = refl
answers_one n carried last end (l ∷ ls) os ps (more {o = o} {os = os'} x u) (more {o = p} {os = ps'} y v) =
    let e = comes_one n carried (read_close n l) o p x y in
    ap (λ t. t ++ printed (n + 1) os') e.0
    ∙ ap (λ t. line_text n p ++ t) (answers_one (n + 1) (carried_after carried p) last end ls os' ps' (subst (λ c. Answers (n + 1) c ls os' last) e.1 u) v)

printed_one : (ls : List Raw) (a b : Text) → Printed ls a → Printed ls b → a ≡ b
printed_one ls a b p q = p.shown ∙ answers_one 1 (pos 0) p.carried q.carried ls p.outcomes q.outcomes p.answered q.answered ∙ sym q.shown

means_one : (sheet a b : Text) → Means sheet a → Means sheet b → a ≡ b
means_one sheet a b (long h) (long k) = refl
means_one sheet a b (long h) (fits k q) = absurd (omega arith)
means_one sheet a b (fits h p) (long k) = absurd (omega arith)
means_one sheet a b (fits h p) (fits k q) = printed_one (lines sheet) a b p q

pub output_fits : (sheet text : Text) → length sheet ≤ longest_sheet → Printed (lines sheet) text → Output sheet text
output_fits sheet text h p = record { means = fits h p; only = λ other m. means_one sheet other text m (fits h p) }

pub output_long : (sheet text : Text) → longest_sheet < length sheet → text ≡ refused_text 0 23 → Output sheet text
output_long sheet text h e =
    subst (Output sheet) (sym e) (record { means = long h; only = λ other m. means_one sheet other (refused_text 0 23) m (long h) })
