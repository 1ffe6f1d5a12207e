use Rattle.std.proofs.Common.{◌<◌, length, refl, ap, ◌∙◌, subst, inl, inr, arith, rules}
use Rattle.rules.specs.Limits.{most_points}
use Rattle.book.specs.Shows.{row_of, held_in}
use Rattle.book.specs.Passes.{Surveyed}
use Rattle.book.proofs.Showing.{side_count}
use Rattle.book.proofs.Openings.{kind_kept, checked_survey}
use Rattle.book.proofs.table.PointTable.check_open.Goals as goal

pub returns-then-held-most_points-clause-checked : goal.returns-then-held-most_points-clause-checked
returns-then-held-most_points-clause-checked g c =
    let e = ap length (c.held.ensures.value ∙ ap held_in c.row.ensures) in
    λ p sh.
    let n = side_count c.args.self.now p sh c.args.side in
    inr (kind_kept (g.S.Source.net c.args.source.now) c.args.self.now c.args.side c.args.kind c.args.station (search rules), inl (omega (arith, n, e), refl))

pub returns-then-station-stations-clause-checked : goal.returns-then-station-stations-clause-checked
returns-then-station-stations-clause-checked g c =
    let e = ap length (c.held.ensures.value ∙ ap held_in c.row.ensures) in
    λ p sh.
    let n = side_count c.args.self.now p sh c.args.side in
    inr (kind_kept (g.S.Source.net c.args.source.now) c.args.self.now c.args.side c.args.kind c.args.station (search rules), inr ((λ h. omega (arith, n, e)), inl (omega arith, refl)))

pub returns-clause-checked : goal.returns-clause-checked
returns-clause-checked g c =
    let net = g.S.Source.net c.args.source.now in
    let t = c.args.self.now in
    let e = ap length (c.held.ensures.value ∙ ap held_in c.row.ensures) in
    let o = c.held-opposite.ensures.value ∙ ap held_in c.row-2.ensures ∙ ap (λ s. held_in (row_of t s)) c.other_side.ensures in
    let room : length (held_in (row_of t c.args.side)) < most_points c.args.side = omega (arith, e) in
    let there : c.args.station < net.stations = search rules in
    let m = subst (λ rs. Surveyed net c.args.station rs c.survey.result) o c.survey.ensures in
    checked_survey net t c.args.side c.args.kind c.args.station (search rules) room there c.survey.result m
