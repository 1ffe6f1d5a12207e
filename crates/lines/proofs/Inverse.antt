-- A closing is read from the text that asks for it, and from no other.
use Rattle.std.proofs.Common.{◌≡◌, ℕ, suc, ◌+◌, ◌*◌, ◌<◌, ◌≤◌, Bool, true, false, cond, ◌&&◌, eqb, leb, List, [], ◌∷◌, ◌++◌, map, length, get_or, ℤ, pos, negsuc, nat_abs, Some, None, Ok, Err, codes, decimal, Option, Result, sym, refl, ap, ◌∙◌, subst, inl, inr, arith}
use Rattle.std.specs.Option.{ok_or}
use Rattle.std.specs.Fmt.{signed_decimal}
use Rattle.std.specs.List.{AllByRecursion}
use Rattle.std.specs.Str.{bytes_eq, all_ascii_digits}
use Rattle.std.specs.Char.{is_ascii_digit}
use Rattle.std.proofs.lemmas.Option.{none-some}
use Rattle.std.proofs.lemmas.Slice.Eq.{bytes_eq-Decides}
use Rattle.std.proofs.lemmas.Bool.{eqb-true, le-leb}
use Rattle.std.proofs.lemmas.List.{length-append}
use Rattle.revenue.specs.declared.figures.Figures.{Figures}
use Rattle.lines.specs.declared.faults.SheetFault.{SheetFault}
use Rattle.lines.specs.declared.faults.SheetFault.TheVariants.{UnknownWord, BadNumber, WordCount, TooLong}
use Rattle.lines.specs.declared.line.Verb.{Verb}
use Rattle.lines.specs.declared.line.Verb.TheVariants.{Close}
use Rattle.lines.specs.Bytes.{Text, space, Lacks}
use Rattle.lines.specs.Closings.{amounts, closing_words, AsksFor, ReadsClosing}
use Rattle.lines.specs.Lines.{Raw}
use Rattle.lines.specs.Numbers.{number_of, signed_of, Writes, WritesSigned}
use Rattle.lines.specs.Reading.{bind, DueOrNoMemory, whole, verb_of, Command, close, asked, command_of, closing_of, figures_of, close_of, read_close}
use Rattle.lines.specs.Words.{words, spaced}
use Rattle.lines.proofs.Decimals.{reads, reads_signed, decimal_digits, decimal_short}
use Rattle.lines.proofs.Digits.{digit_le}
use Rattle.lines.proofs.Splits.{words_of}

err-ok : {A E : Type 0} (d : E) (x : A) → ◌≡◌ {A = Result A E} (Err d) (Ok x) → ⊥
err-ok d x e = let z : ◌≡◌ {A = ℕ} 0 1 = cc in omega arith

-- what came of steps that all went well
bind_ok : {A B E : Type 0} (r : Result A E) (f : A → Result B E) (y : B) → bind r f ≡ Ok y → (x : A) × (r ≡ Ok x) × (f x ≡ Ok y)
bind_ok (Ok x) f y e = (x, refl, e)
bind_ok (Err d) f y e = absurd (err-ok d y e)

cond_ok : {A E : Type 0} (b : Bool) (x y : A) (d : E) → cond b (Ok x) (Err d) ≡ Ok y → (b ≡ true) × (x ≡ y)
cond_ok true x y d e = (refl, cc)
cond_ok false x y d e = absurd (err-ok d y e)

ok_or_ok : {A E : Type 0} (o : Option A) (x : A) (d : E) → ok_or o d ≡ Ok x → o ≡ Some x
ok_or_ok (Some y) x d e = cc
ok_or_ok None x d e = absurd (err-ok d x e)

both_true : (a b : Bool) → (a && b) ≡ true → a ≡ true
both_true true b e = refl
both_true false b e = e

whole_ok : (n : ℕ) (l : Raw) (bs : Text) → whole n l ≡ Ok bs → (l.ended ≡ true) × (l.bytes ≡ bs)
whole_ok n l bs e = let p = cond_ok (l.ended && leb (length l.bytes) 400) l.bytes bs (TooLong n) e in (both_true l.ended _ p.0, p.1)

verb_ok : (w : Text) (v : Verb) → verb_of w ≡ Some v → w ≡ codes "close"
verb_ok w v e = go (bytes_eq w (codes "close")) refl e
  where
    go : (t : Bool) → bytes_eq w (codes "close") ≡ t → cond t (Some Close) None ≡ Some v → w ≡ codes "close"
    go true p q = (bytes_eq-Decides w (codes "close")).0 p
    go false p q = absurd (none-some v q)

asked_ok : (n : ℕ) (v : Verb) (ws vs : List Text) → asked n v ws ≡ Ok (close vs) → (length ws ≡ 12) × (ws ≡ vs)
asked_ok n Close ws vs e =
    let p = cond_ok (eqb (length ws) 12) (close ws) (close vs) (WordCount n) e in
    let q = p.1 in
    (eqb-true (length ws) 12 p.0, cc)

command_ok : (n : ℕ) (ws vs : List Text) → command_of n ws ≡ Ok (close vs) → (ws ≡ codes "close" ∷ vs) × (length vs ≡ 12)
command_ok n [] vs e = absurd (err-ok _ _ e)
command_ok n (w ∷ ws) vs e =
    let p = bind_ok (ok_or (verb_of w) (UnknownWord n)) (λ v. asked n v ws) (close vs) e in
    let first : w ≡ codes "close" = verb_ok w p.0 (ok_or_ok (verb_of w) p.0 (UnknownWord n) p.1) in
    let q = asked_ok n p.0 ws vs p.2 in
    (ap (λ x. x ∷ ws) first ∙ ap (λ x. codes "close" ∷ x) q.1, ap length (sym q.1) ∙ q.0)

-- One figure that was read, and what follows from it and the figures after it.
figure_ok : (n : ℕ) (w : Text) (f : ℕ → Result Figures SheetFault) (x : Figures) (P : Type 0) → ((a : ℕ) → Writes w a → f a ≡ Ok x → P) → bind (ok_or (number_of w) (BadNumber n)) f ≡ Ok x → P
figure_ok n w f x P k e =
    let p = bind_ok (ok_or (number_of w) (BadNumber n)) f x e in
    k p.0 ((reads w).only p.0 (ok_or_ok (number_of w) p.0 (BadNumber n) p.1)) p.2

signed_ok : (n : ℕ) (w : Text) (f : ℤ → Result Figures SheetFault) (x : Figures) (P : Type 0) → ((a : ℤ) → WritesSigned w a → f a ≡ Ok x → P) → bind (ok_or (signed_of w) (BadNumber n)) f ≡ Ok x → P
signed_ok n w f x P k e =
    let p = bind_ok (ok_or (signed_of w) (BadNumber n)) f x e in
    k p.0 ((reads_signed w).only p.0 (ok_or_ok (signed_of w) p.0 (BadNumber n) p.1)) p.2

ok_inj : {A E : Type 0} (x y : A) → ◌≡◌ {A = Result A E} (Ok x) (Ok y) → x ≡ y
ok_inj x y e = cc

abbrev Twelve : List Text → List Text
Twelve vs =
    get_or vs 0 [] ∷ get_or vs 1 [] ∷ get_or vs 2 [] ∷ get_or vs 3 [] ∷ get_or vs 4 [] ∷ get_or vs 5 [] ∷ get_or vs 6 []
    ∷ get_or vs 7 [] ∷ get_or vs 8 [] ∷ get_or vs 9 [] ∷ get_or vs 10 [] ∷ get_or vs 11 [] ∷ []

-- twelve words, one by one
twelve : (vs : List Text) → length vs ≡ 12 → vs ≡ Twelve vs
twelve [] h = absurd (omega arith)
twelve (t0 ∷ []) h = absurd (omega arith)
twelve (t0 ∷ t1 ∷ []) h = absurd (omega arith)
twelve (t0 ∷ t1 ∷ t2 ∷ []) h = absurd (omega arith)
twelve (t0 ∷ t1 ∷ t2 ∷ t3 ∷ []) h = absurd (omega arith)
twelve (t0 ∷ t1 ∷ t2 ∷ t3 ∷ t4 ∷ []) h = absurd (omega arith)
twelve (t0 ∷ t1 ∷ t2 ∷ t3 ∷ t4 ∷ t5 ∷ []) h = absurd (omega arith)
twelve (t0 ∷ t1 ∷ t2 ∷ t3 ∷ t4 ∷ t5 ∷ t6 ∷ []) h = absurd (omega arith)
twelve (t0 ∷ t1 ∷ t2 ∷ t3 ∷ t4 ∷ t5 ∷ t6 ∷ t7 ∷ []) h = absurd (omega arith)
twelve (t0 ∷ t1 ∷ t2 ∷ t3 ∷ t4 ∷ t5 ∷ t6 ∷ t7 ∷ t8 ∷ []) h = absurd (omega arith)
twelve (t0 ∷ t1 ∷ t2 ∷ t3 ∷ t4 ∷ t5 ∷ t6 ∷ t7 ∷ t8 ∷ t9 ∷ []) h = absurd (omega arith)
twelve (t0 ∷ t1 ∷ t2 ∷ t3 ∷ t4 ∷ t5 ∷ t6 ∷ t7 ∷ t8 ∷ t9 ∷ t10 ∷ []) h = absurd (omega arith)
twelve (t0 ∷ t1 ∷ t2 ∷ t3 ∷ t4 ∷ t5 ∷ t6 ∷ t7 ∷ t8 ∷ t9 ∷ t10 ∷ t11 ∷ []) h = refl
twelve (t0 ∷ t1 ∷ t2 ∷ t3 ∷ t4 ∷ t5 ∷ t6 ∷ t7 ∷ t8 ∷ t9 ∷ t10 ∷ t11 ∷ t12 ∷ ts) h = absurd (omega arith)

-- the words are those of the figures, and the figures are short
abbrev Made : List Text → Figures → Type 0
Made vs x = (vs ≡ map decimal (amounts x) ++ signed_decimal x.index.0 ∷ []) × AllByRecursion (λ m. m < 1000000000) (nat_abs x.index.0 ∷ amounts x)

closing_ok : (n : ℕ) (vs : List Text) (x : Figures) → length vs ≡ 12 → closing_of n vs ≡ Ok x → Made vs x
closing_ok n vs x h =
    figure_ok n (get_or vs 0 []) _ x (Made vs x) (λ a0 h0.
    figure_ok n (get_or vs 1 []) _ x (Made vs x) (λ a1 h1.
    figure_ok n (get_or vs 2 []) _ x (Made vs x) (λ a2 h2.
    figure_ok n (get_or vs 3 []) _ x (Made vs x) (λ a3 h3.
    figure_ok n (get_or vs 4 []) _ x (Made vs x) (λ a4 h4.
    figure_ok n (get_or vs 5 []) _ x (Made vs x) (λ a5 h5.
    figure_ok n (get_or vs 6 []) _ x (Made vs x) (λ a6 h6.
    figure_ok n (get_or vs 7 []) _ x (Made vs x) (λ a7 h7.
    figure_ok n (get_or vs 8 []) _ x (Made vs x) (λ a8 h8.
    figure_ok n (get_or vs 9 []) _ x (Made vs x) (λ a9 h9.
    figure_ok n (get_or vs 10 []) _ x (Made vs x) (λ a10 h10.
    signed_ok n (get_or vs 11 []) _ x (Made vs x) (λ z h11 e.
    subst (Made vs) (ok_inj _ x e) (
      twelve vs h ∙ cc,
      (h11.small, (h0.small, (h1.small, (h2.small, (h3.small, (h4.small, (h5.small, (h6.small, (h7.small, (h8.small, (h9.small, (h10.small, tt)))))))))))),
    )))))))))))))

from_command : (n : ℕ) (l : Raw) (bs : Text) (x : Figures) (c : Command) → l.ended ≡ true → l.bytes ≡ bs → command_of n (words bs) ≡ Ok c → figures_of n c ≡ Ok x → AsksFor l x
from_command n l bs x (close vs) ended is found e =
    let k = command_ok n (words bs) vs found in
    let m = closing_ok n vs x k.1 e in
    record {
      ended = ended;
      text = is ∙ sym (words_of bs).make.joined ∙ ap spaced (k.0 ∙ ap (λ t. codes "close" ∷ t) m.0);
      short = m.1;
    }

-- what is read is what the line asks for
pub asks_for : (n : ℕ) (l : Raw) (x : Figures) → read_close n l ≡ Ok x → AsksFor l x
asks_for n l x e =
    let p = bind_ok (whole n l) (λ bs. close_of n (words bs)) x e in
    let w = whole_ok n l p.0 p.1 in
    let q = bind_ok (command_of n (words p.0)) (figures_of n) x p.2 in
    from_command n l p.0 x q.0 w.0 w.1 q.1 q.2

digits_lack : (cs : Text) → all_ascii_digits cs ≡ true → Lacks space cs
digits_lack [] e = tt
digits_lack (c ∷ cs) e =
    let d : is_ascii_digit c ≡ true = grind (arith, e) in
    let ds : all_ascii_digits cs ≡ true = grind (arith, e) in
    (λ p. omega (arith, digit_le c d), digits_lack cs ds)

signed_lacks : (z : ℤ) → nat_abs z < 1000000000 → Lacks space (signed_decimal z)
signed_lacks (pos n) h = digits_lack (decimal n) (decimal_digits n h)
signed_lacks (negsuc n) h = (λ p. omega arith, digits_lack (decimal (suc n)) (decimal_digits (suc n) h))

signed_short : (z : ℤ) → nat_abs z < 1000000000 → length (signed_decimal z) ≤ 10
signed_short (pos n) h = omega (arith, decimal_short n h)
signed_short (negsuc n) h = omega (arith, decimal_short (suc n) h)

decimals_lack : (ns : List ℕ) (t : Text) → AllByRecursion (λ m. m < 1000000000) ns → Lacks space t → AllByRecursion (Lacks space) (map decimal ns ++ t ∷ [])
decimals_lack [] t h k = (k, tt)
decimals_lack (m ∷ ns) t h k = (digits_lack (decimal m) (decimal_digits m h.0), decimals_lack ns t h.1 k)

-- ten bytes for each number, its space with it
decimals_short : (w : Text) (ns : List ℕ) (t : Text) → AllByRecursion (λ m. m < 1000000000) ns → length (spaced (w ∷ map decimal ns ++ t ∷ [])) ≤ length w + (10 * length ns + (1 + length t))
decimals_short w [] t h = simp length-append (omega arith)
decimals_short w (m ∷ ns) t h =
    let rest = decimals_short (decimal m) ns t h.1 in
    let few = decimal_short m h.0 in
    simp length-append (omega arith)

number_ok : (n : ℕ) → n < 1000000000 → number_of (decimal n) ≡ Some n
number_ok n h = (reads (decimal n)).all n (record { small = h; digits = refl })

signed_of_ok : (z : ℤ) → nat_abs z < 1000000000 → signed_of (signed_decimal z) ≡ Some z
signed_of_ok z h = (reads_signed (signed_decimal z)).all z (record { small = h; digits = refl })

words_ok : (n : ℕ) (x : Figures) → AllByRecursion (λ m. m < 1000000000) (nat_abs x.index.0 ∷ amounts x) → close_of n (closing_words x) ≡ Ok x
words_ok n x k =
    rw (number_ok x.operating.0 k.1.0, number_ok x.depreciation.0 k.1.1.0, number_ok x.assets.0 k.1.1.1.0, number_ok x.rate.0 k.1.1.1.1.0, number_ok x.delivered.0 k.1.1.1.1.1.0, number_ok x.loss.0 k.1.1.1.1.1.1.0, number_ok x.price.0 k.1.1.1.1.1.1.1.0, number_ok x.nonstandard.0 k.1.1.1.1.1.1.1.1.0, number_ok x.other.0 k.1.1.1.1.1.1.1.1.1.0, number_ok x.justified.0 k.1.1.1.1.1.1.1.1.1.1.0, number_ok x.realised.0 k.1.1.1.1.1.1.1.1.1.1.1.0, signed_of_ok x.index.0 k.0)

-- what the line asks for is read
pub reads_asked : (n : ℕ) (l : Raw) (x : Figures) → AsksFor l x → read_close n l ≡ Ok x
reads_asked n l x h =
    let few : length l.bytes ≤ 400 = omega (arith, ap length h.text, decimals_short (codes "close") (amounts x) (signed_decimal x.index.0) h.short.1, signed_short x.index.0 h.short.0) in
    let are : closing_words x ≡ words l.bytes =
    (words_of l.bytes).only (closing_words x)
    (record {
      some = omega arith;
      unspaced = (close_lacks, decimals_lack (amounts x) (signed_decimal x.index.0) h.short.1 (signed_lacks x.index.0 h.short.0));
      joined = sym h.text;
    }) in
    rw (h.ended, le-leb (length l.bytes) 400 few, ← are) (words_ok n x h.short)
  where
    close_lacks : Lacks space (codes "close")
    close_lacks = (λ e. omega arith, (λ e. omega arith, (λ e. omega arith, (λ e. omega arith, (λ e. omega arith, tt)))))

pub closing_law : (n : ℕ) (l : Raw) (r : Result Figures SheetFault) → DueOrNoMemory (read_close n l) r → ReadsClosing l r
closing_law n l r (inl e) = record { only = λ x k. asks_for n l x (sym e ∙ k); all = λ x h. inl (e ∙ reads_asked n l x h) }
closing_law n l r (inr e) = record { only = λ x k. absurd (err-ok _ _ (sym e ∙ k)); all = λ x h. inr e }
