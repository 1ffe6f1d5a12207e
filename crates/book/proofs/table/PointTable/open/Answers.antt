use Rattle.std.proofs.Common.{[], ◌∷◌, ◌++◌, Ok, sym, ap, ◌∙◌, subst}
use Rattle.std.proofs.lemmas.Result.{err_from_is_err_and}
use Rattle.rules.specs.Plain.{Handles, refused, accepted, after}
use Rattle.rules.specs.declared.calls.Call.TheVariants.{Open}
use Rattle.rules.specs.declared.calls.Answer.TheVariants.{Opened}
use Rattle.book.specs.declared.row.Row.{Row}
use Rattle.book.specs.Records.{record_with}
use Rattle.book.specs.Shows.{held_in}
use Rattle.book.proofs.Openings.{shows_opened}
use Rattle.book.proofs.table.PointTable.open.Goals as goal

pub returns-in_err-check_open-clause-step : goal.returns-in_err-check_open-clause-step
returns-in_err-check_open-clause-step g c =
    let e = err_from_is_err_and c.from_residual.result c.from_residual.ensures.1 in
    rw (e.1, e.2) (λ p sh. (p, refused (c.in_err-check_open.ensures.checked p sh), sh))

pub returns-clause-step : goal.returns-clause-step
returns-clause-step g c = λ p sh.
    let call = Open c.args.side c.args.kind c.args.station in
    let n = c.points-number.ensures.figure p sh in (
      after p call,
      subst (λ m. Handles (g.S.Source.net c.args.source.now) p call (Ok (Opened m)) (after p call)) (sym n) (accepted (c.in_ok-check_open.ensures.checked p sh)),
      shows_opened c.args.self.now c.push.new.self p c.args.side c.args.kind c.args.station c.points-number.result n
          (c.push.ensures.held ∙ ap (λ row. held_in row ++ (record_with c.points-number.result c.args.kind c.args.station 0 ∷ [])) c.row_mut.ensures.row) (c.push.ensures.relief ∙ ap (λ (row : Row). row.relief) c.row_mut.ensures.row) sh,
    )
