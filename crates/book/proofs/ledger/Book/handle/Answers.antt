use Rattle.std.proofs.Common.{◌≡◌, Err, rules}
use Rattle.std.specs.Result.{MatchResult, IsOkAnd}
use Rattle.rules.specs.declared.calls.Answer.TheVariants.{Opened, Done, Closed, Drawn}
use Rattle.book.proofs.Runs.{answers}
use Rattle.book.proofs.ledger.Book.handle.Goals as goal

pub returns-in-Open-clause-keeps : goal.returns-in-Open-clause-keeps
returns-in-Open-clause-keeps g c = rw (c.in-Open.is, answers Opened c.open.result c.map.result c.map.ensures.cases) c.open.ensures.keeps

pub returns-in-Close-clause-keeps : goal.returns-in-Close-clause-keeps
returns-in-Close-clause-keeps g c = rw (c.in-Close.is, answers Closed c.close.result c.map-in-Close.result c.map-in-Close.ensures.cases) c.close.ensures.keeps

pub returns-in-Plan-clause-keeps : goal.returns-in-Plan-clause-keeps
returns-in-Plan-clause-keeps g c =
    let v : MatchResult c.plan.result (λ x. IsOkAnd c.map-in-Plan.result (λ a. a ≡ Done)) (λ e. c.map-in-Plan.result ≡ Err e) = search rules in
    rw (c.in-Plan.is, answers (λ _. Done) c.plan.result c.map-in-Plan.result v) c.plan.ensures.keeps

pub returns-in-Relieve-clause-keeps : goal.returns-in-Relieve-clause-keeps
returns-in-Relieve-clause-keeps g c =
    let v : MatchResult c.relieve.result (λ x. IsOkAnd c.map-in-Relieve.result (λ a. a ≡ Done)) (λ e. c.map-in-Relieve.result ≡ Err e) = search rules in
    rw (c.in-Relieve.is, answers (λ _. Done) c.relieve.result c.map-in-Relieve.result v) c.relieve.ensures.keeps

pub returns-in-Draw-clause-keeps : goal.returns-in-Draw-clause-keeps
returns-in-Draw-clause-keeps g c =
    let v : MatchResult c.draw.result (λ x. IsOkAnd c.map-in-Draw.result (λ a. a ≡ Drawn x.figures)) (λ e. c.map-in-Draw.result ≡ Err e) = search rules in
    rw (c.in-Draw.is, answers (λ d. Drawn d.figures) c.draw.result c.map-in-Draw.result v) c.draw.ensures
