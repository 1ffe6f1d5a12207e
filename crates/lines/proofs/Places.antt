-- A word is the part of the sheet at its place.
use Rattle.std.proofs.Common.{◌≡◌, ℕ, suc, ◌+◌, ◌≤◌, Bool, true, false, cond, eqb, List, [], ◌∷◌, ◌++◌, map, length, take, drop, sym, refl, ap, ◌∙◌, subst, arith}
use Rattle.std.specs.List.{AllByRecursion, onto_first}
use Rattle.std.proofs.lemmas.List.{drop-drop, length-drop, take-append-drop}
use Rattle.lines.specs.declared.words.Word.{Word}
use Rattle.lines.specs.Bytes.{Text, part}
use Rattle.lines.specs.Words.{words, placed}
use Rattle.lines.specs.Seen.{seen, text_of, PartOf}

-- the texts of placed words
pub texts_placed : (at : ℕ) (ws : List Text) → map (λ (x : ℕ × Text). x.1) (placed at ws) ≡ ws
texts_placed at [] = refl
texts_placed at (w ∷ ws) = ap (λ l. w ∷ l) (texts_placed (at + length w + 1) ws)

texts_seen : (v : List Word) → map text_of v ≡ map (λ (x : ℕ × Text). x.1) (map seen v)
texts_seen [] = refl
texts_seen (w ∷ v) = ap (λ l. text_of w ∷ l) (texts_seen v)

pub texts : (at : ℕ) (v : List Word) (ws : List Text) → map seen v ≡ placed at ws → map text_of v ≡ ws
texts at v ws e = texts_seen v ∙ ap (map (λ (x : ℕ × Text). x.1)) e ∙ texts_placed at ws

-- the same line at the same place
pub moved : (v : List Word) (p : ℕ) (b : Text) (at : ℕ) (line : Text) → p ≡ at → b ≡ line → map seen v ≡ placed p (words b) → map seen v ≡ placed at (words line)
moved v p b at line same is e = e ∙ ap (λ x. placed x (words b)) same ∙ ap (λ x. placed at (words x)) is

module _ (sheet : Text) where
  abbrev Stands : ℕ × Text → Type 0
  Stands x = (x.0 + length x.1 ≤ length sheet) × (part sheet x.0 (length x.1) ≡ x.1)

  -- what stands after the first byte
  next : (at b : ℕ) (bs : Text) → drop at sheet ≡ b ∷ bs → drop (at + 1) sheet ≡ bs
  next at b bs e = sym (drop-drop 1 at sheet) ∙ ap (drop 1) e

  longer : (at b : ℕ) (bs : Text) → drop at sheet ≡ b ∷ bs → at + 1 ≤ length sheet
  longer at b bs e = omega (arith, ap length e, length-drop at sheet)

  front : (at b : ℕ) (bs w : Text) → drop at sheet ≡ b ∷ bs → Stands (at + 1, w) → Stands (at, b ∷ w)
  front at b bs w e s = (
    omega (arith, s.0),
    ap (take (suc (length w))) e ∙ ap (λ l. b ∷ take (length w) l) (sym (next at b bs e)) ∙ ap (λ l. b ∷ l) s.1,
  )

  onto : (at b : ℕ) (bs : Text) (ws : List Text) → drop at sheet ≡ b ∷ bs → AllByRecursion Stands (placed (at + 1) ws) → AllByRecursion Stands (placed at (onto_first b ws))
  onto at b bs [] e h = (front at b bs [] e (omega (arith, longer at b bs e), refl), tt)
  onto at b bs (w ∷ ws) e h =
      (front at b bs w e h.0, subst (λ k. AllByRecursion Stands (placed k ws)) (same (length w)) h.1)
    where
      same : (k : ℕ) → at + 1 + k + 1 ≡ at + suc k + 1
      same k = omega arith

  pub stand : (line rest : Text) (at : ℕ) → at ≤ length sheet → drop at sheet ≡ line ++ rest → AllByRecursion Stands (placed at (words line))
  stand [] rest at le e = ((omega arith, refl), tt)
  stand (b ∷ bs) rest at le e = by (eqb b 32) (stand bs rest (at + 1) (longer at b (bs ++ rest) e) (next at b (bs ++ rest) e))
    where
      zero_word : at + 1 ≡ at + 0 + 1
      zero_word = omega arith

      by : (t : Bool) → AllByRecursion Stands (placed (at + 1) (words bs)) → AllByRecursion Stands (placed at (cond t ([] ∷ words bs) (onto_first b (words bs))))
      by true h = ((omega arith, refl), subst (λ k. AllByRecursion Stands (placed k (words bs))) zero_word h)
      by false h = onto at b (bs ++ rest) (words bs) e h

  all_seen : (v : List Word) → AllByRecursion Stands (map seen v) → AllByRecursion (PartOf sheet) v
  all_seen [] h = tt
  all_seen (w ∷ v) h = (record { inside = h.0.0; same = h.0.1 }, all_seen v h.1)

  pub parts : (at len : ℕ) (line : Text) (v : List Word) → line ≡ part sheet at len → at + len ≤ length sheet → map seen v ≡ placed at (words line) → AllByRecursion (PartOf sheet) v
  parts at len line v is le e =
      all_seen v (subst (AllByRecursion Stands) (sym e) (stand line (drop len (drop at sheet)) at (omega arith) (sym (take-append-drop len (drop at sheet)) ∙ ap (λ l. l ++ drop len (drop at sheet)) (sym is))))
