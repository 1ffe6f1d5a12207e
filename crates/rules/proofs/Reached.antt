-- Every two open points of opposite sides have a distance within the farthest, and so no side is too heavy.
use Rattle.std.proofs.Common.{◌≡◌, ℕ, ◌*◌, ◌<◌, ◌≤◌, ◌⊎◌, List, [], ◌∷◌, ◌++◌, Some, None, Option, sym, refl, ap, ◌∙◌, subst, inl, inr, arith}
use mathlib.Core.List.Memᴰ
use mathlib.Core.List.{Memᴰ}
use Rattle.terms.specs.declared.points.Side.{Side}
use Rattle.terms.specs.declared.points.Side.TheVariants.{Entry, Exit}
use Rattle.terms.specs.Refusals.{NoneBroken}
use Rattle.network.specs.Net.{Net, Lawful}
use Rattle.pricing.specs.Shares.{weight}
use Rattle.rules.specs.declared.calls.Call.{Call}
use Rattle.rules.specs.declared.calls.Call.TheVariants.{Open, Plan, Relieve, Close, Draw}
use Rattle.rules.specs.Limits.{most_lots, farthest, most_weight}
use Rattle.rules.specs.Points.{Point, new_point, Plain, opposite, on_side, lots_of}
use Rattle.rules.specs.Weights.{km, reach, basis_of}
use Rattle.rules.specs.Plain.{planned, checks, after}
use Rattle.rules.specs.Runs.{History, Led}
use Rattle.rules.specs.Promises.{Reached, Bounded}
use Rattle.rules.proofs.Histories.{always}
use Rattle.rules.proofs.Sides.{mem_push, mem_planned, mem_side}
use Rattle.rules.proofs.Sums.{sum_below}
use Rattle.rules.proofs.Elements.{Fitting, weight_is}

abbrev Near : Net → ℕ → ℕ → Type 0
Near net a b = (d : ℕ) × (net.distance a b ≡ Some d) × (d ≤ farthest)

near_from : (o : Option ℕ) → (o ≡ None → ⊥) → (farthest < km o → ⊥) → (d : ℕ) × (o ≡ Some d) × (d ≤ farthest)
near_from None some short = absurd (some refl)
near_from (Some d) some short = (d, refl, omega arith)

turned : (s t : Side) → t ≡ opposite s → s ≡ opposite t
turned Entry Entry e = cc
turned Entry Exit e = refl
turned Exit Entry e = refl
turned Exit Exit e = cc

not_own : (s : Side) → s ≡ opposite s → ⊥
not_own Entry e = let z : ◌≡◌ {A = ℕ} 0 1 = cc in omega arith
not_own Exit e = let z : ◌≡◌ {A = ℕ} 0 1 = cc in omega arith

module _ (net : Net) (lawful : Lawful net) where
  opened :
      (qs : List Point) (n : Point) → Reached net qs →
      ((x : Point) → Memᴰ x qs → x.side ≡ opposite n.side → Near net n.station x.station) → Reached net (qs ++ (n ∷ []))
  opened qs n old new q x mq mx e = by (mem_push q qs n mq) (mem_push x qs n mx)
    where
      by : Memᴰ q qs ⊎ (q ≡ n) → Memᴰ x qs ⊎ (x ≡ n) → Near net q.station x.station
      by (inl a) (inl b) = old q x a b e
      by (inr a) (inl b) =
          subst (λ (z : Point). Near net z.station x.station) (sym a) (new x b (subst (λ (z : Point). x.side ≡ opposite z.side) a e))
      by (inl a) (inr b) =
          let s = new q a (subst (λ (z : Point). q.side ≡ opposite z.side) b (turned q.side x.side e)) in
          (s.0, lawful.mirror q.station x.station ∙ ap (λ (z : Point). net.distance z.station q.station) b ∙ s.1, s.2)
      by (inr a) (inr b) =
          absurd (not_own n.side (ap (λ (z : Point). z.side) (sym b) ∙ e ∙ ap (λ (z : Point). opposite z.side) a))

  replanned : (qs : List Point) (n lots : ℕ) → Reached net qs → Reached net (planned 0 n lots qs)
  replanned qs n lots old q x mq mx e =
      let a = mem_planned 0 n lots qs q mq in
      let b = mem_planned 0 n lots qs x mx in
      let s = old a.point b.point a.there b.there (sym b.side ∙ e ∙ ap opposite a.side) in
      (s.0, ap (λ z. net.distance z x.station) a.station ∙ ap (net.distance a.point.station) b.station ∙ s.1, s.2)

  keeps : (p : Plain) (c : Call) → NoneBroken (checks net p c) → Reached net p.points → Reached net (after p c).points
  keeps p (Open s k at) g h =
      opened p.points (new_point s k at) h
      (λ x m e. near_from (net.distance at x.station) (λ z. g.1.1.1.0 (x, m, e, z)) (λ z. g.1.1.1.1.0 (x, m, e, z)))
  keeps p (Plan n lots) g h = replanned p.points n lots.0 h
  keeps p (Relieve s parts) g h = h
  keeps p (Close f) g h = h
  keeps p Draw g h = h

  pub reached : (h : History) (p : Plain) → Led net h p → Reached net p.points
  reached = always net (λ p. Reached net p.points) (λ q x mq mx e. absurd (Memᴰ.not-nil mq)) keeps

-- ---- how heavy a side can be

-- within these distances a station's reach is at most the lots at the farthest
reach_below :
    (net : Net) (at : ℕ) (qs : List Point) → ((q : Point) → Memᴰ q qs → Near net at q.station) → reach net at qs ≤ lots_of qs * farthest
reach_below net at qs near =
    sum_below (λ q. km (net.distance at q.station)) farthest qs
    (λ q m. let w = near q m in subst (λ o. km o ≤ farthest) (sym w.1) w.2)

pub light :
    (net : Net) (p : Plain) → Fitting p.points → Reached net p.points → ((s : Side) → Bounded p s) →
    (s : Side) → weight (basis_of net p s) ≤ most_weight
light net p fits all bounds s =
    let others = on_side (opposite s) p.points in
    let few : (q : Point) → Memᴰ q (on_side s p.points) → reach net q.station others ≤ most_lots * farthest =
    λ q m.
    let a = mem_side s p.points q m in
    let near : (x : Point) → Memᴰ x others → Near net q.station x.station =
    λ x k. let b = mem_side (opposite s) p.points x k in all q x a.0 b.0 (b.1 ∙ ap opposite (sym a.1)) in
    let r = reach_below net q.station others near in
    omega (arith, r, (bounds (opposite s)).lots) in
    let k = sum_below (λ q. reach net q.station others) (most_lots * farthest) (on_side s p.points) few in
    omega (arith, weight_is net p fits s, k, (bounds s).lots)
