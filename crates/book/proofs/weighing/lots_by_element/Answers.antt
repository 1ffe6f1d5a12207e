use Rattle.std.proofs.Common.{◌*◌, ◌<◌, ◌≤◌, length, get_or, take, sym, ap, ◌∙◌, subst, arith, rules}
use Rattle.std.proofs.lemmas.List.{take_all}
use Rattle.std.proofs.lemmas.List.Sums.{sum_by-take-le}
use Rattle.book.specs.Records.{record_lots, blank}
use Rattle.book.specs.Tallies.{tally, plus, Within, heaviest}
use Rattle.book.proofs.Tallying.{tally_more, tally_within, within_le}
use Rattle.book.proofs.weighing.lots_by_element.Goals as goal

pub added-sums-requires-clause-few : goal.added-sums-requires-clause-few
added-sums-requires-clause-few c =
    let points = c.held-points.result.now in
    let i = c.loop-point.point-index in
    let light = c.held-points.ensures.light in
    let t = sum_by-take-le (λ r. r.lots.0) points i in
    subst (λ s. Within s (2 * heaviest)) (sym c.loop-point.invariant) (within_le _ (record_lots (take i points)) _ (omega (arith, t, light)) (tally_within c.args.side (λ r. r.lots.0) (take i points)))

pub loop-point-preserved : goal.loop-point-preserved
loop-point-preserved c =
    let points = c.held-points.result.now in
    let i = c.loop-point.point-index in
    let w : c.loop-point.point-index < length c.held-points.result.now = search rules in
    c.added-sums.ensures
    ∙ ap (λ s. plus c.args.side (get_or points i blank).kind s (get_or points i blank).lots.0) c.loop-point.invariant
    ∙ tally_more c.args.side (λ x. x.lots.0) points i blank w

pub returns-clause-few : goal.returns-clause-few
returns-clause-few c =
    let points = c.held-points.result.now in
    let l : length c.held-points.result.now ≤ c.loop-point.point-index = search rules in
    let v = c.loop-point.invariant ∙ ap (tally c.args.side (λ x. x.lots.0)) (take_all c.loop-point.point-index points l) in
    subst (λ s. Within s 40000) (sym v) (within_le _ (record_lots points) 40000 c.held-points.ensures.light (tally_within c.args.side (λ x. x.lots.0) points))
