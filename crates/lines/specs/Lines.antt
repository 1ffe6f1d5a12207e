-- The lines of a sheet.
use Rattle.std.specs.Prelude.{◌≡◌, ℕ, ◌<◌, Bool, true, false, cond, List, [], ◌∷◌, ◌++◌, length, ◌==◌}
use Rattle.std.specs.List.{AllByRecursion}
use Rattle.lines.specs.Bytes.{Text, line_feed, Lacks}

-- A line without its line feed, and whether it had one.
pub record Raw : Type 0 where
  pub bytes : Text
  pub ended : Bool

abbrev pub raw : Text → Bool → Raw
raw bs e = record { bytes = bs; ended = e }

-- a byte before the first line, which it begins where there is none
abbrev pub with_byte : ℕ → List Raw → List Raw
with_byte b [] = raw (b ∷ []) false ∷ []
with_byte b (l ∷ ls) = raw (b ∷ l.bytes) l.ended ∷ ls

-- Each line feed ends a line, and bytes after the last line feed are one line more.
abbrev pub lines : Text → List Raw
lines [] = []
lines (b ∷ bs) = cond (b == line_feed) (raw [] true ∷ lines bs) (with_byte b (lines bs))

-- lines one after another, each with its line feed if it had one
abbrev pub joined_lines : List Raw → Text
joined_lines [] = []
joined_lines (l ∷ ls) = l.bytes ++ cond l.ended (line_feed ∷ joined_lines ls) (joined_lines ls)

-- each line but the last is ended, and an unended one has a byte
abbrev pub Ended : List Raw → Type 0
Ended [] = Unit {0}
Ended (l ∷ []) = l.ended ≡ false → 0 < length l.bytes
Ended (l ∷ m ∷ ls) = (l.ended ≡ true) × Ended (m ∷ ls)

-- The lines make up the sheet: joined they give its bytes, and no line goes on over a line feed.
pub record MakeSheet (sheet : Text) (ls : List Raw) : Type 0 where
  pub joined : joined_lines ls ≡ sheet
  pub unbroken : AllByRecursion (λ l. Lacks line_feed l.bytes) ls
  pub ended : Ended ls

-- These lines make up the sheet, and no others do.
pub record LinesOf (sheet : Text) (ls : List Raw) : Type 0 where
  pub make : MakeSheet sheet ls
  pub only : (ms : List Raw) → MakeSheet sheet ms → ms ≡ ls
