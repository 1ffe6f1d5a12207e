-- However a run goes, no side passes its limits.
use Rattle.std.proofs.Common.{◌≡◌, ℕ, ◌<◌, ◌≤◌, true, cond, List, [], ◌∷◌, ◌++◌, length, sym, refl, subst, inl, inr, zero-le, arith}
use Rattle.std.proofs.lemmas.List.{length_push, append-nil}
use Rattle.std.proofs.lemmas.List.Elements.{filter-append}
use Rattle.std.proofs.lemmas.List.Sums.{sum_by_push}
use Rattle.std.proofs.lemmas.Bool.{cond_both, cases_Bool}
use Rattle.terms.specs.declared.points.Side.{Side}
use Rattle.terms.specs.Refusals.{NoneBroken}
use Rattle.network.specs.Net.{Net}
use Rattle.rules.specs.declared.calls.Call.{Call}
use Rattle.rules.specs.declared.calls.Call.TheVariants.{Open, Plan, Relieve, Close, Draw}
use Rattle.rules.specs.Limits.{most_points, most_lots, whole_relief}
use Rattle.rules.specs.Points.{Point, new_point, Plain, same_side, on_side, lots_of}
use Rattle.rules.specs.Plain.{planned, Overplanned, checks, after}
use Rattle.rules.specs.Runs.{History, Led}
use Rattle.rules.specs.Promises.{Bounded}
use Rattle.rules.proofs.Histories.{always}
use Rattle.rules.proofs.Sides.{side_is, nth_there, planned_length, planned_other}

-- a side's points are few, and so are their lots
abbrev Holds : Side → List Point → Type 0
Holds s own = (length own ≤ most_points s) × (lots_of own ≤ most_lots)

opened :
    (s : Side) (qs : List Point) (q : Point) → q.lots ≡ 0 → (same_side s q.side ≡ true → most_points s ≤ length (on_side s qs) → ⊥) →
    Holds s (on_side s qs) → Holds s (on_side s (qs ++ (q ∷ [])))
opened s qs q none room h =
    subst (Holds s) (sym (filter-append (λ z. same_side s z.side) qs (q ∷ [])))
    (cond_both (same_side s q.side) (q ∷ []) [] (λ more. Holds s (on_side s qs ++ more))
    (λ c. let r = room c in (omega (arith, length_push (on_side s qs) q), omega (arith, sum_by_push (λ (z : Point). z.lots) (on_side s qs) q)))
    (λ c. subst (Holds s) (sym (append-nil (on_side s qs))) h))

replanned :
    (s : Side) (qs : List Point) (n lots : ℕ) → (length qs ≤ n → ⊥) → (Overplanned qs n lots → ⊥) →
    Holds s (on_side s qs) → Holds s (on_side s (planned 0 n lots qs))
replanned s qs n lots known under h =
    let f = nth_there qs n (omega arith) in (
      omega (arith, planned_length n lots 0 s qs),
      elim (cases_Bool (same_side s f.0.side)) [
        | inl c ↦
            let o : most_lots < lots_of (on_side s (planned 0 n lots qs)) → ⊥ =
            λ v. under (f.0, f.1, subst (λ t. most_lots < lots_of (on_side t (planned 0 n lots qs))) (sym (side_is s f.0.side c)) v) in
            omega arith
        | inr c ↦ subst (λ own. lots_of own ≤ most_lots) (sym (planned_other n lots 0 s qs n f.0 (omega arith) f.1 c)) h.1
      ],
    )

relieved : (s t : Side) (parts old : ℕ) → (whole_relief < parts → ⊥) → old ≤ whole_relief → cond (same_side s t) parts old ≤ whole_relief
relieved s t parts old few l = cond_both (same_side s t) parts old (λ r. r ≤ whole_relief) (λ _. omega arith) (λ _. l)

keeps : (net : Net) (p : Plain) (c : Call) → NoneBroken (checks net p c) → ((s : Side) → Bounded p s) → (s : Side) → Bounded (after p c) s
keeps net p (Open u k at) g h s =
    let room : same_side s u ≡ true → most_points s ≤ length (on_side s p.points) → ⊥ =
    λ c. subst (λ t. most_points t ≤ length (on_side t p.points) → ⊥) (side_is s u c) g.1.0 in
    let o = opened s p.points (new_point u k at) refl room ((h s).points, (h s).lots) in
    record { points = o.0; lots = o.1; relief = (h s).relief }
keeps net p (Plan n lots) g h s =
    let o = replanned s p.points n lots.0 g.0 g.1.0 ((h s).points, (h s).lots) in
    record { points = o.0; lots = o.1; relief = (h s).relief }
keeps net p (Relieve u parts) g h s = record { points = (h s).points; lots = (h s).lots; relief = relieved u s parts (p.relief s) g.0 (h s).relief }
keeps net p (Close f) g h s = record { points = (h s).points; lots = (h s).lots; relief = (h s).relief }
keeps net p Draw g h s = h s

pub bounded : (net : Net) (h : History) (p : Plain) → Led net h p → (s : Side) → Bounded p s
bounded net = always net (λ p. (s : Side) → Bounded p s) (λ s. record { points = zero-le; lots = zero-le; relief = zero-le }) (keeps net)
