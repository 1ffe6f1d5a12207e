use Rattle.std.proofs.Common.{◌≡◌, ◌*◌, length, sym, ap, subst, inr, arith}
use Rattle.network.specs.declared.table.DistanceTable.{DistanceTable}
use Rattle.network.specs.Grid.{grid_net, GridLaws}
use Rattle.network.specs.Table.{table_rules}
use Rattle.network.specs.Meanings.{of_table}
use Rattle.terms.proofs.Rulings.{first_front, first_back}
use Rattle.network.proofs.Firsts.{none_bad, first_bad_lem}
use Rattle.network.proofs.Makings.{no_memory}
use Rattle.network.proofs.Tables.{table_kept, table_laws}
use Rattle.network.proofs.table.DistanceTable.new.Goals as goal

pub returns-in-Some : goal.returns-in-Some
returns-in-Some c = inr (grind arith, first_front _ _ _ (first_bad_lem _ _ c.in-Some.i c.in-Some.ensures))

pub returns-in-Some-first_lawless : goal.returns-in-Some-first_lawless
returns-in-Some-first_lawless c = inr (grind arith, first_back _ _ _ (none_bad _ _ c.in_default.ensures) (first_bad_lem _ _ c.in-Some-first_lawless.i c.in-Some-first_lawless.ensures))

pub returns-in_err-figures : goal.returns-in_err-figures
returns-in_err-figures c =
    let n = c.args.n in
    let ws = c.args.figures.now in
    let kept = table_kept n ws (omega arith) c.in_default.ensures c.in_default-first_lawless.ensures (omega arith) (omega arith) in
    no_memory (table_rules n ws) (λ (t : DistanceTable). of_table t ≡ grid_net n ws) _ kept c.from_residual.ensures.1

pub invariant_of-result-2 : goal.invariant_of-result-2
invariant_of-result-2 c =
    let n = c.args.n in
    let size : length c.args.figures.now ≡ n * n = omega arith in
    let laws = table_laws n c.args.figures.now size c.in_default.ensures c.in_default-first_lawless.ensures in
    record { some = omega arith; laws = ∣ subst (GridLaws n) (sym c.in_ok-figures.ensures.items) laws ∣₁ }

pub returns : goal.returns
returns c =
    let kept = table_kept c.args.n c.args.figures.now (omega arith) c.in_default.ensures c.in_default-first_lawless.ensures (omega arith) (omega arith) in
    (kept, ap (grid_net c.args.n) c.in_ok-figures.ensures.items)
