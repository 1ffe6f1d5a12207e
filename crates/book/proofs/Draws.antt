-- What is drawn from the records is what the rules define on the points.
use Rattle.std.proofs.Common.{◌≡◌, ℕ, suc, ◌+◌, ◌*◌, Bool, true, false, cond, List, [], ◌∷◌, sum_by, Ok, Err, Result, sym, refl, ap, ◌∙◌, subst, arith}
use Rattle.std.proofs.lemmas.List.Sums.{sum_by-cons}
use Rattle.terms.specs.declared.points.Side.{Side}
use Rattle.terms.specs.declared.points.Side.TheVariants.{Entry, Exit}
use Rattle.terms.specs.declared.points.Kind.{Kind}
use Rattle.terms.specs.declared.points.Kind.TheVariants.{Storage}
use Rattle.terms.specs.declared.faults.BookFault.{BookFault}
use Rattle.terms.specs.declared.measures.Lots.{Lots}
use Rattle.terms.specs.Faults.{book_refusal}
use Rattle.terms.specs.Refusals.{FirstBroken, NoneBroken}
use Rattle.network.specs.Net.{Net}
use Rattle.pricing.specs.declared.elements.Elements.{Elements}
use Rattle.pricing.specs.declared.decision.Draft.{Draft}
use Rattle.pricing.specs.Shares.{basis}
use Rattle.pricing.specs.Rules.{Answered}
use Rattle.pricing.specs.Drafts.{Drawing, draw_rules, figures_of}
use Rattle.rules.specs.declared.calls.Call.TheVariants.{Draw}
use Rattle.rules.specs.declared.calls.Answer.TheVariants.{Drawn}
use Rattle.rules.specs.Points.{Point, Plain, same_side, opposite, on_side}
use Rattle.rules.specs.Weights.{main_kind, other_kind, same_kind, sum_of_kind, km, weight_of, lots_in, weights_of, side_lots, half_of, drawing}
use Rattle.rules.specs.Plain.{Handles, refused, accepted}
use Rattle.book.specs.declared.record.PointRecord.{PointRecord}
use Rattle.book.specs.declared.table.PointTable.{PointTable}
use Rattle.book.specs.Records.{record_of, records_from}
use Rattle.book.specs.Shows.{held_in, row_of, Shows}
use Rattle.book.specs.Tallies.{record_reach, record_weights, record_side_lots}
use Rattle.book.specs.Follows.{drawn}
use Rattle.book.proofs.Tallying.{same_elements}

sum_by_records : (f : PointRecord → ℕ) (g : Point → ℕ) → ((n : ℕ) (q : Point) → f (record_of n q) ≡ g q) → (b : ℕ) (s : Side) (qs : List Point) → sum_by f (records_from b s qs) ≡ sum_by g (on_side s qs)
sum_by_records f g same b s [] = refl
sum_by_records f g same b s (q ∷ qs) = by (same_side s q.side) (sum_by_records f g same (suc b) s qs)
  where
    by : (t : Bool) → sum_by f (records_from (suc b) s qs) ≡ sum_by g (on_side s qs) → sum_by f (cond t (record_of b q ∷ records_from (suc b) s qs) (records_from (suc b) s qs)) ≡ sum_by g (cond t (q ∷ on_side s qs) (on_side s qs))
    by true e = omega (arith, sum_by-cons f (record_of b q) (records_from (suc b) s qs), sum_by-cons g q (on_side s qs), same b q, e)
    by false e = e

sum_of_kind_records : (f : PointRecord → ℕ) (g : Point → ℕ) → ((n : ℕ) (q : Point) → f (record_of n q) ≡ g q) → (k : Kind) (b : ℕ) (s : Side) (qs : List Point) → sum_of_kind (λ r. r.kind) f k (records_from b s qs) ≡ sum_of_kind (λ q. q.kind) g k (on_side s qs)
sum_of_kind_records f g same k b s [] = refl
sum_of_kind_records f g same k b s (q ∷ qs) = by (same_side s q.side) (sum_of_kind_records f g same k (suc b) s qs)
  where
    by : (t : Bool) → sum_of_kind (λ r. r.kind) f k (records_from (suc b) s qs) ≡ sum_of_kind (λ q. q.kind) g k (on_side s qs) → sum_of_kind (λ r. r.kind) f k (cond t (record_of b q ∷ records_from (suc b) s qs) (records_from (suc b) s qs)) ≡ sum_of_kind (λ q. q.kind) g k (cond t (q ∷ on_side s qs) (on_side s qs))
    by true e = ap (λ n. cond (same_kind k q.kind) n 0 + sum_of_kind (λ r. r.kind) f k (records_from (suc b) s qs)) (same b q) ∙ ap (λ n. cond (same_kind k q.kind) (g q) 0 + n) e
    by false e = e

abbrev lots : ℕ → Lots
lots n = record { 0 = n }

module _ (net : Net) (t : PointTable) (p : Plain) (sh : Shows t p) where
  weight_shown : (s : Side) (k : Kind) → sum_of_kind (λ r. r.kind) (λ r. r.lots.0 * record_reach net r.station (held_in (row_of t (opposite s)))) k (held_in (row_of t s)) ≡ weight_of net p.points s k
  weight_shown s k =
      ap (λ rs. sum_of_kind (λ r. r.kind) (λ r. r.lots.0 * record_reach net r.station rs) k (held_in (row_of t s))) (sh.sides (opposite s)).records
      ∙ ap (sum_of_kind (λ r. r.kind) (λ r. r.lots.0 * record_reach net r.station (records_from 0 (opposite s) p.points)) k) (sh.sides s).records
      ∙ sum_of_kind_records _ _ (λ n q. ap (λ m. q.lots * m) (sum_by_records (λ r. r.lots.0 * km (net.distance q.station r.station)) (λ x. x.lots * km (net.distance q.station x.station)) (λ _ _. refl) 0 (opposite s) p.points)) k 0 s p.points

  pub weights_shown : (s : Side) → record_weights net s (held_in (row_of t s)) (held_in (row_of t (opposite s))) ≡ weights_of net p.points s
  weights_shown s = same_elements _ _ _ _ _ _ (weight_shown s (main_kind s)) (weight_shown s (other_kind s)) (weight_shown s Storage)

  lots_by : (s : Side) (k : Kind) → sum_of_kind (λ r. r.kind) (λ r. r.lots.0) k (held_in (row_of t s)) ≡ lots_in p.points s k
  lots_by s k = ap (sum_of_kind (λ r. r.kind) (λ r. r.lots.0) k) (sh.sides s).records ∙ sum_of_kind_records (λ r. r.lots.0) (λ q. q.lots) (λ _ _. refl) k 0 s p.points

  lots_of_kind : (s : Side) (k : Kind) → lots (sum_of_kind (λ r. r.kind) (λ r. r.lots.0) k (held_in (row_of t s))) ≡ lots (lots_in p.points s k)
  lots_of_kind s k = ap lots (lots_by s k)

  pub lots_shown : (s : Side) → record_side_lots s (held_in (row_of t s)) ≡ side_lots p.points s
  lots_shown s = same_elements _ _ _ _ _ _ (lots_of_kind s (main_kind s)) (lots_of_kind s (other_kind s)) (lots_of_kind s Storage)

-- a drawing, from the figures that tables and plain books have
abbrev drawing_from : ℕ → Elements ℕ → ℕ → Elements Lots → Elements ℕ → ℕ → Elements Lots → Drawing
drawing_from a w r l w' r' l' = record { allowed = a; entries = basis (half_of a Entry) w r; entry_lots = l; exits = basis (half_of a Exit) w' r'; exit_lots = l' }

module _ (net : Net) (t : PointTable) (p : Plain) (sh : Shows t p) where
  -- a side's weights, storage relief and lots, as worked out from a table's records
  pub record PlanOf (w : Elements ℕ) (r : ℕ) (l : Elements Lots) (s : Side) : Type 0 where
    pub weights : w ≡ record_weights net s (held_in (row_of t s)) (held_in (row_of t (opposite s)))
    pub relief : r ≡ (row_of t s).relief.parts
    pub lots : l ≡ record_side_lots s (held_in (row_of t s))

  drawing_shown : (w w' : Elements ℕ) (r r' : ℕ) (l l' : Elements Lots) → PlanOf w r l Entry → PlanOf w' r' l' Exit → drawing_from t.allowed.dinars.0 w r l w' r' l' ≡ drawing net p
  drawing_shown w w' r r' l l' e x =
      ap (λ a. drawing_from a w r l w' r' l') sh.allowed
      ∙ ap (λ v. drawing_from p.allowed v r l w' r' l') (e.weights ∙ weights_shown net t p sh Entry)
      ∙ ap (λ q. drawing_from p.allowed (weights_of net p.points Entry) q l w' r' l') (e.relief ∙ (sh.sides Entry).relief)
      ∙ ap (λ m. drawing_from p.allowed (weights_of net p.points Entry) (p.relief Entry) m w' r' l') (e.lots ∙ lots_shown net t p sh Entry)
      ∙ ap (λ v. drawing_from p.allowed (weights_of net p.points Entry) (p.relief Entry) (side_lots p.points Entry) v r' l') (x.weights ∙ weights_shown net t p sh Exit)
      ∙ ap (λ q. drawing_from p.allowed (weights_of net p.points Entry) (p.relief Entry) (side_lots p.points Entry) (weights_of net p.points Exit) q l') (x.relief ∙ (sh.sides Exit).relief)
      ∙ ap (λ m. drawing_from p.allowed (weights_of net p.points Entry) (p.relief Entry) (side_lots p.points Entry) (weights_of net p.points Exit) (p.relief Exit) m) (x.lots ∙ lots_shown net t p sh Exit)

  handled_as : (r : Result Draft BookFault) (d : Drawing) → d ≡ drawing net p → Answered (draw_rules d) (λ x. x.figures ≡ figures_of d) r → Handles net p Draw (drawn r) p
  handled_as (Ok x) d e v = subst (λ f. Handles net p Draw (Ok (Drawn f)) p) (sym (v.1 ∙ ap figures_of e)) (accepted (subst (λ z. NoneBroken (draw_rules z)) e v.0))
  handled_as (Err f) d e v = refused (subst (λ z. FirstBroken (draw_rules z) (book_refusal f)) e v)

  -- a draw from a table's figures
  pub draws : (r : Result Draft BookFault) (w w' : Elements ℕ) (q q' : ℕ) (l l' : Elements Lots) → (let d = drawing_from t.allowed.dinars.0 w q l w' q' l' in Answered (draw_rules d) (λ x. x.figures ≡ figures_of d) r) → PlanOf w q l Entry → PlanOf w' q' l' Exit → (p' : Plain) × Handles net p Draw (drawn r) p' × Shows t p'
  draws r w w' q q' l l' v e x = (p, handled_as r _ (drawing_shown w w' q q' l l' e x) v, sh)
