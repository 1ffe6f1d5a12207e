use Rattle.std.proofs.Common.{◌≡◌, ◌<◌, length, get_or, take, Some, sym, ap, ◌∙◌, subst, arith, rules}
use Rattle.std.proofs.lemmas.List.{take_more}
use Rattle.network.specs.Distances.{kms}
use Rattle.book.specs.Records.{blank}
use Rattle.book.proofs.Passing.{Seen, seen_push}
use Rattle.book.proofs.pass.survey.Goals as goal

pub loop-point-preserved : goal.loop-point-preserved
loop-point-preserved g c =
    let net = g.S.Source.net c.args.source.now in
    let points = c.args.points.now in
    let i = c.loop-point.point-index in
    let r = get_or points i blank in
    let w : c.loop-point.point-index < length c.args.points.now = search rules in
    let has : c.distance-distance.result ≡ Some c.in_ok-km.km = let v = c.in_ok-km.ensures.value in let o = c.in_ok-km.was in grind arith in
    subst (λ rs. Seen net c.args.station rs c.max-farthest.result) (sym (take_more points i blank w))
    (subst (Seen net c.args.station _) (sym c.max-farthest.ensures)
    (seen_push net c.args.station (take i points) r c.loop-point.farthest c.in_ok-km.km.0 (sym c.distance-distance.ensures ∙ ap kms has) c.loop-point.invariant))
