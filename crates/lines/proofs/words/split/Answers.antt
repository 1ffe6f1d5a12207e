use Rattle.std.proofs.Common.{◌+◌, ◌++◌, [], ◌∷◌, map, eqb, sym, ap, ◌∙◌, arith, rules, tests}
use Rattle.std.proofs.lemmas.Iterator.Consumers.{YieldsList-at, YieldsList-end}
use Rattle.std.proofs.lemmas.Iterator.Splits.{YieldsList-from_slice_split}
use Rattle.std.proofs.lemmas.List.{map_push}
use Rattle.lines.specs.Seen.{seen}
use Rattle.lines.specs.Words.{placed}
use Rattle.lines.proofs.Splits.{span, span_push, within, placed_push}
use Rattle.lines.proofs.words.split.Goals as goal

pub overflow_add-at : goal.overflow_add-at
overflow_add-at c =
    let short = within c.args.line.now
    (YieldsList-at c.into_iter-text-iterator.ensures.into_iter_gives
    (YieldsList-from_slice_split _ (λ b. eqb b 32) c.args.line.now c.split-text-items.ensures.rest c.split-text-items.ensures.done c.split-text-items.ensures.closure (λ x r q k. search (rules, tests))))
    c.loop-text.yielded _ c.loop-text.yielded_by _ _ c.in-Some.text c.in-Some.is c.next.ensures.steps c.loop-text.i c.loop-text.invariant.3 in
    omega (arith, short, c.requires)

pub overflow_add-i-in-loop-text : goal.overflow_add-i-in-loop-text
overflow_add-i-in-loop-text c =
    let short = within c.args.line.now
    (YieldsList-at c.into_iter-text-iterator.ensures.into_iter_gives
    (YieldsList-from_slice_split _ (λ b. eqb b 32) c.args.line.now c.split-text-items.ensures.rest c.split-text-items.ensures.done c.split-text-items.ensures.closure (λ x r q k. search (rules, tests))))
    c.loop-text.yielded _ c.loop-text.yielded_by _ _ c.in-Some.text c.in-Some.is c.next.ensures.steps c.loop-text.i c.loop-text.invariant.3 in
    omega (arith, short, c.requires)

pub loop-text-preserved : goal.loop-text-preserved
loop-text-preserved c =
    let (_, _, out, i) = c.loop-text.invariant in
    let more = map_push (λ t. t.now) c.loop-text.yielded c.in-Some.text in (
      search rules,
      search rules,
      ap (map seen) c.in_ok-push.ensures.items ∙ map_push seen _ _ ∙ ap (λ l. l ++ (c.args.at + c.loop-text.i, c.in-Some.text.now) ∷ []) out
          ∙ ap (λ k. placed c.args.at (map (λ t. t.now) c.loop-text.yielded) ++ (c.args.at + k, c.in-Some.text.now) ∷ []) i ∙ sym (placed_push c.args.at _ _) ∙ ap (placed c.args.at) (sym more),
      omega (arith, i, ap span more, span_push (map (λ t. t.now) c.loop-text.yielded) c.in-Some.text.now),
    )

pub returns : goal.returns
returns c =
    let end = YieldsList-end
    (YieldsList-at c.into_iter-text-iterator.ensures.into_iter_gives
    (YieldsList-from_slice_split _ (λ b. eqb b 32) c.args.line.now c.split-text-items.ensures.rest c.split-text-items.ensures.done c.split-text-items.ensures.closure (λ x r q k. search (rules, tests))))
    c.loop-text.yielded _ c.loop-text.yielded_by _ _ c.in-None.is c.next.ensures.steps in
    c.loop-text.invariant.2 ∙ ap (placed c.args.at) end.0
