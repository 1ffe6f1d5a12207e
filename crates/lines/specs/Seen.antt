-- What the lines and words of the code stand for.
use Rattle.std.specs.Prelude.{◌≡◌, ℕ, ◌+◌, ◌<◌, ◌≤◌, cond, List, ◌∷◌, length, drop, Option, IfSome, nat_lt}
use Rattle.lines.specs.declared.raw.methods.Lines.{Lines}
use Rattle.lines.specs.declared.raw.RawLine.{RawLine}
use Rattle.lines.specs.declared.words.Word.{Word}
use Rattle.lines.specs.Bytes.{Text, part}
use Rattle.lines.specs.Lines.{Raw, raw, lines}

-- the sheet that a line stands in
abbrev pub sheet_of : RawLine → Text
sheet_of l = l.sheet.now

-- its bytes, before its line feed
abbrev pub bytes_of : RawLine → Text
bytes_of l = part (sheet_of l) l.at l.len

-- as one of the lines of its sheet: it is ended where the sheet goes on after its bytes
abbrev pub raw_of : RawLine → Raw
raw_of l = raw (bytes_of l) (nat_lt (l.at + l.len) (length (sheet_of l)))

-- where the next line begins: after the line feed, or else at the sheet's end
abbrev pub next_of : RawLine → ℕ
next_of l = cond (raw_of l).ended (l.at + l.len + 1) (length (sheet_of l))

-- It lies inside its sheet.
abbrev pub Inside : RawLine → Type 0
Inside l = l.at + l.len ≤ length (sheet_of l)

-- The line is the first of those from the place at of the sheet on, and the others begin where it says.
pub record BeginsAt (sheet : Text) (at : ℕ) (l : RawLine) : Type 0 where
  pub same : sheet_of l ≡ sheet
  pub place : l.at ≡ at
  pub inside : Inside l
  pub first : lines (drop at sheet) ≡ raw_of l ∷ lines (drop (next_of l) sheet)
  pub onward : at < next_of l

-- the lines that are left of a sheet
abbrev pub lines_left : Lines → List Raw
lines_left s = lines (drop s.at s.sheet.now)

-- The line that is given next begins where the lines stand in their sheet, and they stand after it then; the sheet stays.
pub record FindsNext (s : Lines) (given : Option RawLine) (t : Lines) : Type 0 where
  pub found : IfSome given (BeginsAt s.sheet.now s.at)
  pub onto : IfSome given (λ l. t.at ≡ next_of l)
  pub same : t.sheet ≡ s.sheet

-- the bytes of a word
abbrev pub text_of : Word → Text
text_of w = w.text.now

-- its place in the sheet, and its bytes
abbrev pub seen : Word → ℕ × Text
seen w = (w.at, text_of w)

-- The word is the part of the sheet at its place.
pub record PartOf (sheet : Text) (w : Word) : Type 0 where
  pub inside : w.at + length (text_of w) ≤ length sheet
  pub same : part sheet w.at (length (text_of w)) ≡ text_of w
