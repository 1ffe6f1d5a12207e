-- The words of a line.
use Rattle.std.specs.Prelude.{◌≡◌, ℕ, ◌+◌, ◌<◌, List, [], ◌∷◌, ◌++◌, length, ◌==◌}
use Rattle.std.specs.List.{AllByRecursion, slice_split}
use Rattle.lines.specs.Bytes.{Text, space, Lacks}

-- Each space parts two words, so a word may be empty, and an empty line is one empty word.
abbrev pub words : Text → List Text
words line = slice_split (λ b. b == space) line

-- words with their places: the first at the place at, and one space between each two
abbrev pub placed : ℕ → List Text → List (ℕ × Text)
placed at [] = []
placed at (w ∷ ws) = (at, w) ∷ placed (at + length w + 1) ws

-- words with one space between each two
abbrev pub spaced : List Text → Text
spaced [] = []
spaced (w ∷ []) = w
spaced (w ∷ v ∷ ws) = w ++ (space ∷ spaced (v ∷ ws))

-- The words make up the line: there is one at least, none has a space, and with one space between each two they give its bytes.
pub record MakeLine (line : Text) (ws : List Text) : Type 0 where
  pub some : 0 < length ws
  pub unspaced : AllByRecursion (Lacks space) ws
  pub joined : spaced ws ≡ line

-- These words make up the line, and no others do.
pub record WordsOf (line : Text) (ws : List Text) : Type 0 where
  pub make : MakeLine line ws
  pub only : (vs : List Text) → MakeLine line vs → vs ≡ ws
