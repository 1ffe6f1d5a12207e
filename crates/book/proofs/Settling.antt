-- What a relief and a closing leave.
use Rattle.std.proofs.Common.{◌≡◌, ℕ, true, false, cond, Ok, Err, sym, refl, ap, ◌∙◌, subst}
use Rattle.terms.specs.declared.points.Side.{Side}
use Rattle.terms.specs.declared.points.Side.TheVariants.{Entry, Exit}
use Rattle.terms.specs.declared.faults.BookFault.{BookFault}
use Rattle.terms.specs.Faults.{book_refusal}
use Rattle.terms.specs.Refusals.{FirstBroken, NoneBroken}
use Rattle.network.specs.Net.{Net}
use Rattle.revenue.specs.declared.figures.Closing.{Closing}
use Rattle.revenue.specs.declared.figures.Figures.{Figures}
use Rattle.revenue.specs.Checks.{close_rules}
use Rattle.revenue.specs.Closings.{closing_of}
use Rattle.rules.specs.declared.calls.Call.TheVariants.{Relieve, Close}
use Rattle.rules.specs.declared.calls.Answer.TheVariants.{Closed}
use Rattle.rules.specs.Points.{Plain, same_side, opposite}
use Rattle.rules.specs.Plain.{Handles, refused, accepted, after}
use Rattle.book.specs.declared.row.Row.{Row}
use Rattle.book.specs.declared.table.PointTable.{PointTable}
use Rattle.book.specs.Rows.{with_row}
use Rattle.book.specs.Shows.{held_in, row_of, ShowsSide, Shows}
use Rattle.book.proofs.Showing.{shows_with}

-- ---- a relief

same_side_same : (s : Side) → same_side s s ≡ true
same_side_same Entry = refl
same_side_same Exit = refl

same_side_opposite : (s : Side) → same_side s (opposite s) ≡ false
same_side_opposite Entry = refl
same_side_opposite Exit = refl

pub shows_relieved : (t : PointTable) (s : Side) (row : Row) (p : Plain) (parts : ℕ) → held_in row ≡ held_in (row_of t s) → row.relief.parts ≡ parts → Shows t p → Shows (with_row t s row) (after p (Relieve s parts))
shows_relieved t s row p parts h r sh =
    shows_with t s row p (after p (Relieve s parts))
    (record { records = h ∙ (sh.sides s).records; relief = r ∙ ap (λ b. cond b parts (p.relief s)) (sym (same_side_same s)) })
    (record { records = (sh.sides (opposite s)).records; relief = (sh.sides (opposite s)).relief ∙ ap (λ b. cond b parts (p.relief (opposite s))) (sym (same_side_opposite s)) })
    refl refl sh

-- ---- a closing

module _ (net : Net) (t : PointTable) (p : Plain) (f : Figures) (sh : Shows t p) where
  pub closing_refused : (e : BookFault) → FirstBroken (close_rules t.carried.amount.0 f) (book_refusal e) → (p' : Plain) × Handles net p (Close f) (Err e) p' × Shows t p'
  closing_refused e b = (p, refused (subst (λ z. FirstBroken (close_rules z f) (book_refusal e)) sh.carried b), sh)

  pub closing_accepted : (c : Closing) (t' : PointTable) → NoneBroken (close_rules t.carried.amount.0 f) × (c ≡ closing_of t.carried.amount.0 f) → t'.entries ≡ t.entries → t'.exits ≡ t.exits → t'.allowed.dinars.0 ≡ c.allowed.0 → t'.carried.amount.0 ≡ c.rest.0 → (p' : Plain) × Handles net p (Close f) (Ok (Closed c)) p' × Shows t' p'
  closing_accepted c t' v en ex al ca =
      let n = subst (λ z. NoneBroken (close_rules z f)) sh.carried v.0 in
      let e : c ≡ closing_of p.carried f = v.1 ∙ ap (λ z. closing_of z f) sh.carried in (
        after p (Close f),
        subst (λ k. Handles net p (Close f) (Ok (Closed k)) (after p (Close f))) (sym e) (accepted n),
        record { sides = sides; allowed = al ∙ ap (λ (k : Closing). k.allowed.0) e; carried = ca ∙ ap (λ (k : Closing). k.rest.0) e },
      )
    where
      side : (s : Side) → ShowsSide (row_of t s) p s → ShowsSide (row_of t s) (after p (Close f)) s
      side s h = record { records = h.records; relief = h.relief }

      sides : (s : Side) → ShowsSide (row_of t' s) (after p (Close f)) s
      sides Entry = subst (λ w. ShowsSide w (after p (Close f)) Entry) (sym en) (side Entry (sh.sides Entry))
      sides Exit = subst (λ w. ShowsSide w (after p (Close f)) Exit) (sym ex) (side Exit (sh.sides Exit))
