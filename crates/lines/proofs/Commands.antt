-- What the words of a line ask.
use Rattle.std.proofs.Common.{◌≡◌, ℕ, ◌≤◌, true, List, map, length, Ok, Err, Result, ap, ◌∙◌, arith}
use Rattle.std.proofs.lemmas.Bool.{le-leb}
use Rattle.revenue.specs.declared.figures.Figures.{Figures}
use Rattle.lines.specs.declared.faults.SheetFault.{SheetFault}
use Rattle.lines.specs.declared.raw.RawLine.{RawLine}
use Rattle.lines.specs.declared.words.Word.{Word}
use Rattle.lines.specs.Bytes.{Text}
use Rattle.lines.specs.Reading.{bind, Command, command_of, figures_of, close_of, read_close}
use Rattle.lines.specs.Seen.{bytes_of, raw_of, text_of, seen}
use Rattle.lines.specs.Words.{words, placed}
use Rattle.lines.proofs.Places.{texts}

-- A line that is ended and not too long is read from its words ws, which the code holds as v.
module _ (n : ℕ) (l : RawLine) (bytes : Text) (v ws : List Word) (ended : (raw_of l).ended ≡ true) (are : bytes ≡ bytes_of l) (short : length bytes ≤ 400) (same : ws ≡ v) (is : map seen v ≡ placed l.at (words (bytes_of l))) where
  from_words : close_of n (map text_of ws) ≡ read_close n (raw_of l)
  from_words =
      let few : length (bytes_of l) ≤ 400 = omega (arith, ap length are) in
      ap (λ x. close_of n (map text_of x)) same ∙ ap (close_of n) (texts l.at v (words (bytes_of l)) is) ∙ rw (ended, le-leb (length (bytes_of l)) 400 few)

  pub misread : (f : SheetFault) → Err f ≡ command_of n (map text_of ws) → Err f ≡ read_close n (raw_of l)
  misread f e = ap (λ r. bind r (figures_of n)) e ∙ from_words

  pub well_read : (c : Command) (r : Result Figures SheetFault) → Ok c ≡ command_of n (map text_of ws) → r ≡ figures_of n c → r ≡ read_close n (raw_of l)
  well_read c r e k = k ∙ ap (λ x. bind x (figures_of n)) e ∙ from_words
