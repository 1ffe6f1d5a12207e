use Rattle.std.proofs.Common.{◌+◌, ◌*◌, get_or, sym, ◌∙◌, subst, mul-add, arith, rules}
use Rattle.terms.specs.declared.points.Side.TheVariants.{Exit}
use Rattle.book.specs.Records.{blank}
use Rattle.book.specs.Tallies.{Within, heaviest, most_reach}
use Rattle.book.proofs.Tallying.{within_le, plus_within, reach_few, reach_more, brought_more, part_few, times_le}
use Rattle.book.proofs.weighing.weigh_against.Goals as goal

pub overflow_add-reach : goal.overflow_add-reach
overflow_add-reach g c =
    let net = g.S.Source.net c.args.source.now in
    let exits = c.held-points.result.now in
    let i = c.loop-exit.exit-index in
    let r = reach_more net c.args.from exits i _ _ c.loop-exit-test.true c.length_of.ensures c.distance.ensures _ c.loop-exit.invariant.0 in
    let b = reach_few net (g.met.S.Source.lawful c.args.source.now) c.args.from.station exits (i + 1) c.held-points.ensures.light in
    search (rules, r, b)

pub added-weights-requires : goal.added-weights-requires
added-weights-requires g c =
    let net = g.S.Source.net c.args.source.now in
    let lawful = g.met.S.Source.lawful c.args.source.now in
    let from = c.args.from in
    let exits = c.held-points.result.now in
    let i = c.loop-exit.exit-index in
    let l = c.requires.lots in
    let r = c.loop-exit.invariant.0 in
    let b = reach_few net lawful from.station exits i c.held-points.ensures.light in
    let k = times_le from.lots.0 c.loop-exit.reach most_reach (omega (arith, r, b)) in
    let p = part_few net from exits i _ _ c.loop-exit-test.true c.length_of.ensures c.distance.ensures lawful c.held-points.ensures.light in
    let q = times_le from.lots.0 _ most_reach p in
    record {
      few = within_le _ (heaviest + from.lots.0 * c.loop-exit.reach) _ (omega (arith, k, l)) (c.loop-exit.invariant.2 heaviest c.requires.few);
      small = omega (arith, q, l);
    }

pub loop-exit-preserved : goal.loop-exit-preserved
loop-exit-preserved g c =
    let net = g.S.Source.net c.args.source.now in
    let from = c.args.from in
    let exits = c.held-points.result.now in
    let i = c.loop-exit.exit-index in
    let x = get_or exits i blank in (
      reach_more net from exits i _ _ c.loop-exit-test.true c.length_of.ensures c.distance.ensures _ c.loop-exit.invariant.0,
      c.added-weights.ensures ∙ brought_more net from exits i _ _ c.loop-exit-test.true c.length_of.ensures c.distance.ensures _ _ c.loop-exit.invariant.1,
      λ b h. subst (λ s. Within s (b + from.lots.0 * (c.loop-exit.reach + x.lots.0 * c.length_of.result))) (sym c.added-weights.ensures)
          (within_le _ (b + from.lots.0 * c.loop-exit.reach + from.lots.0 * (x.lots.0 * c.length_of.result)) _ (omega (arith, mul-add from.lots.0 c.loop-exit.reach (x.lots.0 * c.length_of.result))) (plus_within Exit x.kind c.loop-exit.weights _ _ (c.loop-exit.invariant.2 b h))),
    )

pub returns-clause-short : goal.returns-clause-short
returns-clause-short g c =
    let r = c.loop-exit.invariant.0 in
    let b = reach_few (g.S.Source.net c.args.source.now) (g.met.S.Source.lawful c.args.source.now) c.args.from.station c.held-points.result.now c.loop-exit.exit-index c.held-points.ensures.light in
    omega (arith, r, b)
