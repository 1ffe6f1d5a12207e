use Rattle.std.proofs.Common.{◌≡◌, length, refl, ap, ◌∙◌, drop, eqb, arith, rules, tests}
use Rattle.std.proofs.lemmas.List.{length-drop, take_rest, at_drop_all}
use Rattle.std.proofs.lemmas.Iterator.{YieldsList-from_slice}
use Rattle.std.proofs.lemmas.Iterator.Search.{position_from_yields_List}
use Rattle.std.specs.Option.{unwrap_or}
use Rattle.lines.specs.Lines.{lines}
use Rattle.lines.proofs.Sheets.{first_feed, first_within, first_found, line_at, onward, lines_of}
use Rattle.lines.proofs.raw.methods.line_at.Goals as goal

pub returns-then-at-sheet : goal.returns-then-at-sheet
returns-then-at-sheet c =
    let sheet = c.args.sheet.now in
    record { found = at_drop_all lines sheet c.args.at (omega arith); law = lines_of sheet }

pub returns : goal.returns
returns c =
    let sheet = c.args.sheet.now in
    let at = c.args.at in
    let k = c.unwrap_or-len.result in
    let rest = length-drop at sheet in
    let found = position_from_yields_List (λ b. eqb b 10) _ _ c.position.result c.position.ensures.ran (YieldsList-from_slice (drop at sheet) (cc (take_rest sheet at))) (λ x b q k. search (rules, tests)) in
    let is : k ≡ first_feed (drop at sheet) = c.unwrap_or-len.ensures ∙ ap (λ r. unwrap_or c.position.result (length r)) (take_rest sheet at) ∙ first_found (drop at sheet) _ found in
    record {
      found =
          record {
            same = refl;
            place = refl;
            inside = omega (arith, first_within (drop at sheet));
            first = line_at sheet at k (omega arith) is;
            onward = onward sheet at k (omega arith);
          };
      law = lines_of sheet;
    }
