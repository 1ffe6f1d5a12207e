-- The words of a line: the first of them, and that they alone make it up.
use Rattle.std.proofs.Common.{◌≡◌, ℕ, zero, suc, ◌+◌, ◌<◌, ◌≤◌, Bool, true, false, cond, eqb, List, [], ◌∷◌, ◌++◌, map, Some, Option, length, get_or, take, sym, refl, ap, ◌∙◌, arith}
use Rattle.std.specs.List.{AllByRecursion, onto_first}
use Rattle.std.specs.Iterator.{Yields}
use Rattle.std.proofs.lemmas.Iterator.{YieldsList}
use Rattle.std.proofs.lemmas.Iterator.Consumers.{YieldsList-so_far, YieldsList-turn}
use Rattle.std.proofs.lemmas.Bool.{eqb-true, eqb-false, ne_eqb}
use denote.Ref.{Bor}
use Rattle.lines.specs.Bytes.{Text, space, Lacks}
use Rattle.lines.specs.Words.{words, placed, spaced, WordsOf}

onto_some : (b : ℕ) (ws : List Text) → 0 < length (onto_first b ws)
onto_some b [] = omega arith
onto_some b (w ∷ ws) = omega arith

-- a line has a word
some_word : (bs : Text) → 0 < length (words bs)
some_word [] = omega arith
some_word (b ∷ bs) = elim (eqb b 32) as (λ t. 0 < length (cond t ([] ∷ words bs) (onto_first b (words bs)))) [ true ↦ omega arith | false ↦ onto_some b (words bs) ]

spaced_empty : (ws : List Text) → 0 < length ws → spaced ([] ∷ ws) ≡ 32 ∷ spaced ws
spaced_empty [] h = absurd (omega arith)
spaced_empty (w ∷ ws) h = refl

spaced_onto : (b : ℕ) (ws : List Text) → 0 < length ws → spaced (onto_first b ws) ≡ b ∷ spaced ws
spaced_onto b [] h = absurd (omega arith)
spaced_onto b (w ∷ []) h = refl
spaced_onto b (w ∷ v ∷ ws) h = refl

words_join : (bs : Text) → spaced (words bs) ≡ bs
words_join [] = refl
words_join (b ∷ bs) = go (eqb b 32) refl (words_join bs)
  where
    go : (t : Bool) → eqb b 32 ≡ t → spaced (words bs) ≡ bs → spaced (words (b ∷ bs)) ≡ b ∷ bs
    go true e ih = rw e (spaced_empty (words bs) (some_word bs) ∙ ap (λ l. 32 ∷ l) ih ∙ ap (λ x. x ∷ bs) (sym (eqb-true b 32 e)))
    go false e ih = rw e (spaced_onto b (words bs) (some_word bs) ∙ ap (λ l. b ∷ l) ih)

onto_lacks : (b : ℕ) (ws : List Text) → (b ≡ 32 → ⊥) → AllByRecursion (Lacks space) ws → AllByRecursion (Lacks space) (onto_first b ws)
onto_lacks b [] n h = ((n, tt), tt)
onto_lacks b (w ∷ ws) n h = ((n, h.0), h.1)

words_lack : (bs : Text) → AllByRecursion (Lacks space) (words bs)
words_lack [] = (tt, tt)
words_lack (b ∷ bs) = go (eqb b 32) refl (words_lack bs)
  where
    go : (t : Bool) → eqb b 32 ≡ t → AllByRecursion (Lacks space) (words bs) → AllByRecursion (Lacks space) (words (b ∷ bs))
    go true e ih = rw e (tt, ih)
    go false e ih = rw e (onto_lacks b (words bs) (eqb-false b 32 e) ih)

-- words that lack a space are the words of what they make up
words_of_spaced : (w : Text) (ws : List Text) → AllByRecursion (Lacks space) (w ∷ ws) → words (spaced (w ∷ ws)) ≡ w ∷ ws
words_of_spaced [] [] h = refl
words_of_spaced [] (v ∷ ws) h = ap (λ l. [] ∷ l) (words_of_spaced v ws h.1)
words_of_spaced (b ∷ w) [] h = rw (ne_eqb b 32 h.0.0) (ap (onto_first b) (words_of_spaced w [] (h.0.1, h.1)))
words_of_spaced (b ∷ w) (v ∷ ws) h = rw (ne_eqb b 32 h.0.0) (ap (onto_first b) (words_of_spaced w (v ∷ ws) (h.0.1, h.1)))

only_words : (bs : Text) (vs : List Text) → 0 < length vs → AllByRecursion (Lacks space) vs → spaced vs ≡ bs → vs ≡ words bs
only_words bs [] some h e = absurd (omega arith)
only_words bs (w ∷ ws) some h e = sym (words_of_spaced w ws h) ∙ ap words e

pub words_of : (bs : Text) → WordsOf bs (words bs)
words_of bs =
    record {
      make = record { some = some_word bs; unspaced = words_lack bs; joined = words_join bs };
      only = λ vs m. only_words bs vs m.some m.unspaced m.joined;
    }

-- the bytes of words, and one more for each
abbrev pub span : List Text → ℕ
span [] = 0
span (w ∷ ws) = length w + 1 + span ws

span_onto : (b : ℕ) (ws : List Text) → 0 < length ws → span (onto_first b ws) ≡ 1 + span ws
span_onto b [] h = absurd (omega arith)
span_onto b (w ∷ ws) h = omega arith

pub span_words : (bs : Text) → span (words bs) ≡ length bs + 1
span_words [] = refl
span_words (b ∷ bs) = go (eqb b 32) refl (span_words bs)
  where
    go : (t : Bool) → eqb b 32 ≡ t → span (words bs) ≡ length bs + 1 → span (words (b ∷ bs)) ≡ length (b ∷ bs) + 1
    go true e ih = rw e (omega (arith, ih))
    go false e ih = rw e (span_onto b (words bs) (some_word bs) ∙ omega (arith, ih))

-- one word more
pub placed_push : (at : ℕ) (ws : List Text) (w : Text) → placed at (ws ++ w ∷ []) ≡ placed at ws ++ (at + span ws, w) ∷ []
placed_push at [] w = ap (λ k. (k, w) ∷ []) (omega arith)
placed_push at (v ∷ ws) w =
    ap (λ l. (at, v) ∷ l) (placed_push (at + length v + 1) ws w ∙ ap (λ k. placed (at + length v + 1) ws ++ (k, w) ∷ []) (omega arith))

pub span_push : (ws : List Text) (w : Text) → span (ws ++ w ∷ []) ≡ span ws + length w + 1
span_push [] w = omega arith
span_push (v ∷ ws) w = omega (arith, span_push ws w)

-- the words up to one of them have no more bytes than all
pub span_turn : (all : List Text) (k : ℕ) (w : Text) → k < length all → w ≡ get_or all k w → span (take k all) + length w + 1 ≤ span all
span_turn [] k w h e = absurd (omega arith)
span_turn (v ∷ all) zero w h e = omega (arith, ap length e)
span_turn (v ∷ all) (suc k) w h e = omega (arith, span_turn all k w (omega arith) e)

-- one word of a line, and those before it, are no longer than the line
pub within : {S : Type 0} {steps : S → Option (Bor Text) → S → Type 0} {s : S} (line : Text) → YieldsList steps (λ t. t.now) s (words line)
    → (xs : List (Bor Text)) (t : S) → Yields steps s xs t → (r : Option (Bor Text)) (u : S) (x : Bor Text) → r ≡ Some x → steps t r u
    → (i : ℕ) → i ≡ span (map (λ y. y.now) xs) → i + length x.now ≤ length line
within line road xs t y r u x is step i e =
    let turn = YieldsList-turn road xs t y r u x is step in
    omega (arith, e, span_turn (words line) (length xs) x.now turn.0 turn.1, ap span (YieldsList-so_far road xs t y), span_words line)
