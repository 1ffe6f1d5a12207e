use Rattle.std.proofs.Common.{◌+◌, get_or, take, vec_items, sym, ◌∙◌, subst, rules}
use Rattle.std.proofs.lemmas.List.{take_all}
use Rattle.terms.specs.declared.points.Side.TheVariants.{Entry}
use Rattle.terms.specs.declared.points.Kind.TheVariants.{Transmission}
use Rattle.rules.specs.declared.calls.Call.{Call}
use Rattle.rules.specs.declared.calls.Call.TheVariants.{Open}
use Rattle.rules.specs.Runs.{paired, one}
use Rattle.book.specs.Law.{Stands, Extends}
use Rattle.book.proofs.Runs.{stands_more, ran}
use Rattle.book.proofs.ledger.replay.Goals as goal

-- what stands past the calls
abbrev past : Call
past = Open Entry Transmission 0

pub loop-call-preserved : goal.loop-call-preserved
loop-call-preserved g c =
    let net = g.S.Source.net in
    let inv = c.loop-call.invariant in
    let from = c.new-book.result.source in
    let calls = c.args.calls.now in
    let i = c.loop-call.call-index in
    let t = c.loop-call.book.table in
    let t' = c.handle-outcome.new.self.table in
    let o = c.handle-outcome.result in (
      c.handle-outcome.ensures.same ∙ inv.0,
      search rules,
      subst (λ os. Stands (net from) (paired (take (i + 1) calls) os) t') (sym c.in_ok-push.ensures.items)
          (stands_more (net from) calls i past (vec_items c.loop-call.outcomes) o t t' c.loop-call-test.true (search rules) inv.2
          (subst (λ s. Extends (net s) t (one (get_or calls i past) o) t') inv.0 c.handle-outcome.ensures.keeps.law)),
    )

pub returns : goal.returns
returns g c =
    let net = g.S.Source.net in
    let inv = c.loop-call.invariant in
    let calls = c.args.calls.now in
    let os = vec_items c.loop-call.outcomes in
    let t = c.loop-call.book.table in
    let same = c.new-book.ensures.same in
    let all = take_all c.loop-call.call-index calls c.loop-call-test.false in
    let ends : Stands (net c.args.source) (paired calls os) t =
    subst (λ cs. Stands (net c.args.source) (paired cs os) t) all (subst (λ s. Stands (net s) (paired (take c.loop-call.call-index calls) os) t) same inv.2) in
    (inv.0 ∙ same, ran (net c.args.source) (g.met.S.Source.lawful c.args.source) calls os t (search rules) ends)
