use Rattle.std.proofs.lemmas.Result.{IfOk-weaker}
use Rattle.std.proofs.Common.{◌≡◌, map, IfOk, vec_items, sym, refl, subst}
use Rattle.lines.specs.Words.{words, placed, WordsOf}
use Rattle.lines.specs.Seen.{bytes_of, sheet_of, seen}
use Rattle.lines.proofs.Splits.{words_of}
use Rattle.lines.proofs.Places.{moved, parts, texts}
use Rattle.lines.proofs.words.words_of.Goals as goal

pub returns : goal.returns
returns c =
    let l = c.args.line in
    let line = bytes_of l in
    let is : IfOk c.split.result (λ v. map seen (vec_items v) ≡ placed l.at (words line)) = IfOk-weaker c.split.result _ _ (λ v e. moved (vec_items v) _ _ l.at line c.place.ensures c.bytes.ensures e) c.split.ensures in
    record {
      seen = is;
      parts = IfOk-weaker c.split.result _ _ (λ v e. parts (sheet_of l) l.at l.len line (vec_items v) refl l.inside e) is;
      law = IfOk-weaker c.split.result _ _ (λ v e. subst (WordsOf line) (sym (texts l.at (vec_items v) (words line) e)) (words_of line)) is;
    }
