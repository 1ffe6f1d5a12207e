use Rattle.std.proofs.Common.{◌+◌, ◌*◌, ◌<◌, length, get_or, take, sym, refl, ap, ◌∙◌, subst, arith, rules}
use Rattle.std.proofs.lemmas.List.Sums.{sum_by_more}
use Rattle.terms.specs.declared.points.Side.TheVariants.{Entry, Exit}
use Rattle.book.specs.Records.{record_lots, blank}
use Rattle.book.specs.Shows.{held_in}
use Rattle.book.specs.Tallies.{tally, plus, both, record_reach, record_weights, brought, Within, most_reach}
use Rattle.book.proofs.Tallying.{tally_more, within_le, plus_within, none_other, within_none, other_more, times_le}
use Rattle.book.proofs.weighing.six_weights.Goals as goal

pub loop-entry-init : goal.loop-entry-init
loop-entry-init g c =
    let net = g.S.Source.net c.args.source.now in
    (refl, within_none, none_other net Exit (held_in c.args.exits.now), within_none)

pub loop-entry-preserved : goal.loop-entry-preserved
loop-entry-preserved g c =
    let net = g.S.Source.net c.args.source.now in
    let entries = c.held-points.result.now in
    let exits = (held_in c.args.exits.now) in
    let i = c.loop-entry.entry-index in
    let e = get_or c.held-points.result.now c.loop-entry.entry-index blank in
    let w : c.loop-entry.entry-index < length c.held-points.result.now = search rules in
    let a = c.weigh_against-reach.ensures in
    let reach = c.weigh_against-reach.result.0 in
    let q = times_le e.lots.0 c.weigh_against-reach.result.0 most_reach a.short in
    let m = sum_by_more (λ r. r.lots.0) entries i blank w in (
      c.added-of_entries.ensures
          ∙ ap (λ s. plus Entry e.kind s (e.lots.0 * reach)) c.loop-entry.invariant.0
          ∙ ap (λ n. plus Entry e.kind (record_weights net Entry (take i entries) exits) (e.lots.0 * n)) a.reach
          ∙ tally_more Entry (λ r. r.lots.0 * record_reach net r.station exits) entries i blank w,
      subst (λ s. Within s (most_reach * record_lots (take (i + 1) entries))) (sym c.added-of_entries.ensures)
          (within_le _ (most_reach * record_lots (take i entries) + e.lots.0 * reach) _ (omega (arith, q, m)) (plus_within Entry e.kind c.loop-entry.of_entries _ _ c.loop-entry.invariant.1)),
      a.brought ∙ ap (λ s. both s (tally Exit (brought net e) exits)) c.loop-entry.invariant.2 ∙ other_more net (g.met.S.Source.lawful c.args.source.now) Exit exits entries i blank w,
      within_le _ (most_reach * record_lots (take i entries) + e.lots.0 * reach) _ (omega (arith, q, m)) (a.few (most_reach * record_lots (take i entries)) c.loop-entry.invariant.3),
    )
