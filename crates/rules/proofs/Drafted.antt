-- A draw is answered, in one way, and keeps what is promised of it.
use Rattle.std.proofs.Common.{◌≡◌, ℕ, ◌+◌, ◌*◌, Bool, true, false, cond, List, [], ◌∷◌, refl, ap, subst, inl, inr, arith}
use Rattle.std.proofs.lemmas.Bool.{cases_lt}
use Rattle.terms.specs.declared.points.Side.{Side}
use Rattle.terms.specs.declared.points.Side.TheVariants.{Entry, Exit}
use Rattle.terms.specs.declared.points.Kind.{Kind}
use Rattle.terms.specs.declared.points.Kind.TheVariants.{Storage}
use Rattle.network.specs.Net.{Net}
use Rattle.pricing.specs.Shares.{others}
use Rattle.pricing.specs.Tariffs as tariffs
use Rattle.pricing.specs.Tariffs.{Weighed, SidePromised, Collects}
use Rattle.pricing.specs.Drafts.{figures_of}
use Rattle.pricing.proofs.Sides.{side_promised}
use Rattle.pricing.proofs.Drawn as drawn
use Rattle.rules.specs.declared.calls.Call.TheVariants.{Draw}
use Rattle.rules.specs.Points.{Point, Plain, opposite, on_side, lots_of}
use Rattle.rules.specs.Weights.{main_kind, other_kind, same_kind, sum_of_kind, reach, side_lots, basis_of, drawing}
use Rattle.rules.specs.Plain.{Outcome, Handles, refused, accepted}
use Rattle.rules.specs.Promises.{Bounded, HasExactShares, side_in, collected, Drafted, Draws, given, no_entry_shares, no_exit_shares, Drawable}
use Rattle.rules.proofs.Outcomes.{settled}
use Rattle.rules.proofs.Sides.{sides_lots}
use Rattle.rules.proofs.Elements.{Fitting, planned_is}

-- an element without lots has no weight
idle_one :
    (t : Bool) (lots far more-lots more-weight : ℕ) → cond t lots 0 + more-lots ≡ 0 → (more-lots ≡ 0 → more-weight ≡ 0) →
    cond t (lots * far) 0 + more-weight ≡ 0
idle_one true lots far l w e rest =
    let none : lots ≡ 0 = omega arith in
    omega (arith, ap (λ n. n * far) none, rest (omega arith))
idle_one false lots far l w e rest = omega (arith, rest (omega arith))

idle :
    (net : Net) (k : Kind) (others own : List Point) → sum_of_kind (λ q. q.kind) (λ q. q.lots) k own ≡ 0 →
    sum_of_kind (λ q. q.kind) (λ q. q.lots * reach net q.station others) k own ≡ 0
idle net k others [] e = refl
idle net k others (q ∷ qs) e = idle_one (same_kind k q.kind) q.lots (reach net q.station others) _ _ e (idle net k others qs)

weighed : (net : Net) (p : Plain) (s : Side) → Weighed (basis_of net p s) (side_lots p.points s)
weighed net p s =
    let others = on_side (opposite s) p.points in
    let own = on_side s p.points in
    record { main = idle net (main_kind s) others own; other = idle net (other_kind s) others own; storage = idle net Storage others own }

module _ (net : Net) (p : Plain) (fits : Fitting p.points) (bounds : (s : Side) → Bounded p s) where
  sides :
      HasExactShares net p Entry → HasExactShares net p Exit → (s : Side) →
      SidePromised (basis_of net p s) (side_lots p.points s) (side_in (figures_of (drawing net p)) s)
  sides e x Entry = side_promised (basis_of net p Entry) (side_lots p.points Entry) e (bounds Entry).relief
  sides e x Exit = side_promised (basis_of net p Exit) (side_lots p.points Exit) x (bounds Exit).relief

  drafted : HasExactShares net p Entry → HasExactShares net p Exit → Drafted net p (figures_of (drawing net p))
  drafted e x =
      let both = drawn.promised (drawing net p) (figures_of (drawing net p)) (omega arith) (sides e x Entry) (sides e x Exit) in
      let got = both.collects (weighed net p Entry) (weighed net p Exit) in
      let lots : tariffs.planned (side_lots p.points Entry) + tariffs.planned (side_lots p.points Exit) ≡ lots_of p.points =
      omega (arith, planned_is net p fits Entry, planned_is net p fits Exit, sides_lots p.points) in
      record {
        whole = both.whole;
        revenue = subst (λ n. Collects p.allowed n (collected (figures_of (drawing net p)) p)) lots got;
        near = λ s. (sides e x s).near;
        methodical = λ s. (sides e x s).methodical;
      }

  -- a draw that is handled as told is drawable, since it is handled in one way
  drawable_by : (o : Outcome) → Draws net p o → Handles net p Draw o p → Drawable net p
  drawable_by o d h = record { outcome = o; draws = d; handled = h; only = λ o' p' h'. settled net p Draw o' o p' p h' h }

  pub drawable : Drawable net p
  drawable =
      elim (cases_lt 0 (others (basis_of net p Entry))) [
        | inl e ↦
            elim (cases_lt 0 (others (basis_of net p Exit))) [
              | inl x ↦ drawable_by _ (given e x (drafted e x)) (accepted ((λ z. omega arith), ((λ z. omega arith), tt)))
              | inr n ↦ drawable_by _ (no_exit_shares e (λ z. omega arith)) (refused (inr ((λ z. omega arith), inl (omega arith, refl))))
            ]
        | inr n ↦ drawable_by _ (no_entry_shares (λ z. omega arith)) (refused (inl (omega arith, refl)))
      ]
