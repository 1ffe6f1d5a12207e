-- The lines of a sheet: the first of them, and that they alone make it up.
use Rattle.std.proofs.Common.{◌≡◌, ℕ, suc, ◌+◌, ◌<◌, ◌≤◌, Bool, true, false, cond, eqb, ltb, List, [], ◌∷◌, ◌++◌, length, Some, None, Option, take, drop, sym, refl, ap, ◌∙◌, ⊎_elim, add-one, arith}
use Rattle.std.specs.List.{AllByRecursion, position_or_len}
use Rattle.std.proofs.lemmas.List.{length-drop, drop-drop, take_all, drop_all}
use Rattle.std.specs.Option.{unwrap_or}
use Rattle.std.proofs.lemmas.Grind.{common_steps}
use Rattle.std.proofs.lemmas.List.Recursion.{is_position_or_len}
use Rattle.std.proofs.lemmas.Bool.{cases_lt, lt-ltb, le-ltb, eqb-true, eqb-false, ne_eqb}
use Rattle.lines.specs.Bytes.{Text, line_feed, part, Lacks}
use Rattle.lines.specs.Lines.{Raw, raw, lines, with_byte, joined_lines, Ended, LinesOf}

-- where the first line feed stands, or how many bytes there are
abbrev pub first_feed : Text → ℕ
first_feed [] = 0
first_feed (b ∷ bs) = cond (eqb b 10) 0 (suc (first_feed bs))

pub first_is : (bs : Text) → first_feed bs ≡ position_or_len (λ b. eqb b 10) bs
first_is = is_position_or_len first_feed (λ b. eqb b 10) refl (λ x xs. ap (cond (eqb x 10) 0) (omega arith))

pub first_within : (bs : Text) → first_feed bs ≤ length bs
first_within [] = omega arith
first_within (b ∷ bs) = elim (eqb b 10) as (λ t. cond t 0 (suc (first_feed bs)) ≤ length (b ∷ bs)) [ true ↦ omega arith | false ↦ omega (arith, first_within bs) ]

-- the length where none is found
pub first_found : (bs : Text) (o : Option ℕ) → o ≡ cond (ltb (position_or_len (λ b. eqb b 10) bs) (length bs)) (Some (position_or_len (λ b. eqb b 10) bs)) None → unwrap_or o (length bs) ≡ first_feed bs
first_found bs o e = grind (arith, common_steps, e, first_is bs, first_within bs)

-- the line before the first line feed, and the lines after it
lines_more : (bs : Text) → first_feed bs < length bs → lines bs ≡ raw (take (first_feed bs) bs) true ∷ lines (drop (suc (first_feed bs)) bs)
lines_more [] h = absurd (omega arith)
lines_more (b ∷ bs) h = go (eqb b 10) refl h (lines_more bs)
  where
    go : (t : Bool) → eqb b 10 ≡ t → first_feed (b ∷ bs) < length (b ∷ bs)
        → (first_feed bs < length bs → lines bs ≡ raw (take (first_feed bs) bs) true ∷ lines (drop (suc (first_feed bs)) bs))
        → lines (b ∷ bs) ≡ raw (take (first_feed (b ∷ bs)) (b ∷ bs)) true ∷ lines (drop (suc (first_feed (b ∷ bs))) (b ∷ bs))
    go true e l ih = rw e
    go false e l ih = let m = rw e at l in rw e (ap (with_byte b) (ih (omega arith)))

-- bytes with no line feed are one unended line
lines_last : (bs : Text) → 0 < length bs → length bs ≤ first_feed bs → lines bs ≡ raw bs false ∷ []
lines_last [] z h = absurd (omega arith)
lines_last (b ∷ []) z h = go (eqb b 10) refl h
  where
    go : (t : Bool) → eqb b 10 ≡ t → length (b ∷ []) ≤ first_feed (b ∷ []) → lines (b ∷ []) ≡ raw (b ∷ []) false ∷ []
    go true e l = let m = rw e at l in absurd (omega arith)
    go false e l = rw e
lines_last (b ∷ d ∷ bs) z h = go (eqb b 10) refl h (lines_last (d ∷ bs) (omega arith))
  where
    go : (t : Bool) → eqb b 10 ≡ t → length (b ∷ d ∷ bs) ≤ first_feed (b ∷ d ∷ bs)
        → (length (d ∷ bs) ≤ first_feed (d ∷ bs) → lines (d ∷ bs) ≡ raw (d ∷ bs) false ∷ [])
        → lines (b ∷ d ∷ bs) ≡ raw (b ∷ d ∷ bs) false ∷ []
    go true e l ih = let m = rw e at l in absurd (omega arith)
    go false e l ih = let m = rw e at l in rw e (ap (with_byte b) (ih (omega arith)))

-- the line at the place at, whose first line feed stands k bytes on
pub line_at : (sheet : Text) (at k : ℕ) → at < length sheet → k ≡ first_feed (drop at sheet)
    → lines (drop at sheet) ≡ raw (part sheet at k) (ltb (at + k) (length sheet)) ∷ lines (drop (cond (ltb (at + k) (length sheet)) (at + k + 1) (length sheet)) sheet)
line_at sheet at k some is =
    let long = length-drop at sheet in
    ⊎_elim
    (λ lt.
    let short : first_feed (drop at sheet) < length (drop at sheet) = omega arith in
    let next : at + k + 1 ≡ at + (k + 1) = omega arith in
    rw (lt-ltb (at + k) (length sheet) lt, next, is, ← drop-drop, add-one) (lines_more (drop at sheet) short))
    (λ le. rw (le-ltb (at + k) (length sheet) le, take_all k (drop at sheet) (omega arith), drop_all (length sheet) sheet (omega arith)) (lines_last (drop at sheet) (omega arith) (omega arith)))
    (cases_lt (at + k) (length sheet))

-- the next line begins further on
pub onward : (sheet : Text) (at k : ℕ) → at < length sheet → at < cond (ltb (at + k) (length sheet)) (at + k + 1) (length sheet)
onward sheet at k some =
    ⊎_elim
    (λ lt. rw (lt-ltb (at + k) (length sheet) lt) (omega arith))
    (λ le. rw (le-ltb (at + k) (length sheet) le) some)
    (cases_lt (at + k) (length sheet))

with_joined : (b : ℕ) (ls : List Raw) → joined_lines (with_byte b ls) ≡ b ∷ joined_lines ls
with_joined b [] = refl
with_joined b (l ∷ ls) = refl

lines_join : (bs : Text) → joined_lines (lines bs) ≡ bs
lines_join [] = refl
lines_join (b ∷ bs) = go (eqb b 10) refl (lines_join bs)
  where
    go : (t : Bool) → eqb b 10 ≡ t → joined_lines (lines bs) ≡ bs → joined_lines (lines (b ∷ bs)) ≡ b ∷ bs
    go true e ih = rw e (ap (λ l. 10 ∷ l) ih ∙ ap (λ x. x ∷ bs) (sym (eqb-true b 10 e)))
    go false e ih = rw e (with_joined b (lines bs) ∙ ap (λ l. b ∷ l) ih)

with_few : (b : ℕ) (ls : List Raw) → length (with_byte b ls) ≤ suc (length ls)
with_few b [] = omega arith
with_few b (l ∷ ls) = omega arith

-- there are no more lines than bytes
pub lines_few : (bs : Text) → length (lines bs) ≤ length bs
lines_few [] = omega arith
lines_few (b ∷ bs) = elim (eqb b 10) as (λ t. length (cond t (raw [] true ∷ lines bs) (with_byte b (lines bs))) ≤ length (b ∷ bs)) [
  | true ↦ omega (arith, lines_few bs)
  | false ↦ omega (arith, lines_few bs, with_few b (lines bs))
]

abbrev Unbroken : List Raw → Type 0
Unbroken ls = AllByRecursion (λ l. Lacks line_feed l.bytes) ls

with_lacks : (b : ℕ) (ls : List Raw) → (b ≡ 10 → ⊥) → Unbroken ls → Unbroken (with_byte b ls)
with_lacks b [] n h = ((n, tt), tt)
with_lacks b (l ∷ ls) n h = ((n, h.0), h.1)

lines_lack : (bs : Text) → Unbroken (lines bs)
lines_lack [] = tt
lines_lack (b ∷ bs) = go (eqb b 10) refl (lines_lack bs)
  where
    go : (t : Bool) → eqb b 10 ≡ t → Unbroken (lines bs) → Unbroken (lines (b ∷ bs))
    go true e ih = rw e (tt, ih)
    go false e ih = rw e (with_lacks b (lines bs) (eqb-false b 10 e) ih)

with_ended : (b : ℕ) (ls : List Raw) → Ended ls → Ended (with_byte b ls)
with_ended b [] h = λ e. omega arith
with_ended b (l ∷ []) h = λ e. omega arith
with_ended b (l ∷ m ∷ ls) h = h

feed_ended : (ls : List Raw) → Ended ls → Ended (raw [] true ∷ ls)
feed_ended [] h = λ e. absurd (let z : ◌≡◌ {A = ℕ} 0 1 = cc in omega arith)
feed_ended (l ∷ ls) h = (refl, h)

lines_ended : (bs : Text) → Ended (lines bs)
lines_ended [] = tt
lines_ended (b ∷ bs) =
    elim (eqb b 10) as (λ t. Ended (cond t (raw [] true ∷ lines bs) (with_byte b (lines bs)))) [
      | true ↦ feed_ended (lines bs) (lines_ended bs)
      | false ↦ with_ended b (lines bs) (lines_ended bs)
    ]

-- what is ended before other lines has a line feed, or nothing follows and it has a byte
tail_ended : (l : Raw) (ls : List Raw) → Ended (l ∷ ls) → Ended ls
tail_ended l [] h = tt
tail_ended l (m ∷ ls) h = h.1

-- an ended line is the first line
one_ended : (bs : Text) (ls : List Raw) → Lacks line_feed bs → lines (joined_lines ls) ≡ ls → lines (bs ++ (10 ∷ joined_lines ls)) ≡ raw bs true ∷ ls
one_ended [] ls h ih = ap (λ x. raw [] true ∷ x) ih
one_ended (b ∷ bs) ls h ih = rw (ne_eqb b 10 h.0) (ap (with_byte b) (one_ended bs ls h.1 ih))

-- an unended one is the only line
one_unended : (b : ℕ) (bs : Text) → Lacks line_feed (b ∷ bs) → lines ((b ∷ bs) ++ []) ≡ raw (b ∷ bs) false ∷ []
one_unended b [] h = rw (ne_eqb b 10 h.0)
one_unended b (d ∷ bs) h = rw (ne_eqb b 10 h.0) (ap (with_byte b) (one_unended d bs h.1))

-- one line more, before lines that are read as they stand
one_line : (bs : Text) (e : Bool) (ls : List Raw) → Lacks line_feed bs → Ended (raw bs e ∷ ls) → lines (joined_lines ls) ≡ ls → lines (joined_lines (raw bs e ∷ ls)) ≡ raw bs e ∷ ls
one_line bs true ls h k ih = one_ended bs ls h ih
one_line [] false [] h k ih = absurd (omega (arith, k refl))
one_line (b ∷ bs) false [] h k ih = one_unended b bs h
one_line bs false (m ∷ ls) h k ih = absurd (let f = k.0 in let z : ◌≡◌ {A = ℕ} 0 1 = cc in omega arith)

lines_of_joined : (ls : List Raw) → Unbroken ls → Ended ls → lines (joined_lines ls) ≡ ls
lines_of_joined [] h k = refl
lines_of_joined (l ∷ ls) h k = one_line l.bytes l.ended ls h.0 k (lines_of_joined ls h.1 (tail_ended l ls k))

pub lines_of : (bs : Text) → LinesOf bs (lines bs)
lines_of bs =
    record {
      make = record { joined = lines_join bs; unbroken = lines_lack bs; ended = lines_ended bs };
      only = λ ms m. sym (lines_of_joined ms m.unbroken m.ended) ∙ ap lines m.joined;
    }
