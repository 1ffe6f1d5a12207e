-- Every point has a kind of its side, so the three elements of a side have all of its points.
use Rattle.std.proofs.Common.{◌≡◌, ℕ, ◌+◌, ◌*◌, true, cond, List, [], ◌∷◌, sum_by, refl, ap, ◌∙◌, subst, inl, inr, arith}
use mathlib.Core.List.Memᴰ
use mathlib.Core.List.{Memᴰ}
use Rattle.std.proofs.lemmas.Bool.{false≢true, cases_Bool}
use Rattle.std.proofs.lemmas.List.Sums.{sum_by-cons}
use Rattle.terms.specs.declared.points.Side.{Side}
use Rattle.terms.specs.declared.points.Side.TheVariants.{Entry, Exit}
use Rattle.terms.specs.declared.points.Kind.{Kind}
use Rattle.terms.specs.declared.points.Kind.TheVariants.{Transmission, Production, Storage, Local, Interconnector}
use Rattle.terms.specs.Points.{of_side}
use Rattle.terms.specs.Refusals.{NoneBroken}
use Rattle.network.specs.Net.{Net}
use Rattle.pricing.specs.Shares.{weight}
use Rattle.pricing.specs.Tariffs as tariffs
use Rattle.rules.specs.declared.calls.Call.{Call}
use Rattle.rules.specs.declared.calls.Call.TheVariants.{Open, Plan, Relieve, Close, Draw}
use Rattle.rules.specs.Points.{Point, new_point, Plain, opposite, on_side, lots_of}
use Rattle.rules.specs.Weights.{main_kind, other_kind, same_kind, sum_of_kind, reach, side_lots, basis_of}
use Rattle.rules.specs.Plain.{checks, after}
use Rattle.rules.specs.Runs.{History, Led}
use Rattle.rules.proofs.Histories.{always}
use Rattle.rules.proofs.Sides.{mem_push, mem_planned, mem_side}

-- every point has a kind of its side
abbrev pub Fitting : List Point → Type 0
Fitting qs = (q : Point) → Memᴰ q qs → of_side q.side q.kind ≡ true

keeps : (net : Net) (p : Plain) (c : Call) → NoneBroken (checks net p c) → Fitting p.points → Fitting (after p c).points
keeps net p (Open s k at) g h q m =
    elim (mem_push q p.points (new_point s k at) m) [
      | inl l ↦ h q l
      | inr e ↦
          let fits : of_side s k ≡ true = elim (cases_Bool (of_side s k)) [ inl t ↦ t | inr f ↦ absurd (g.0 f) ] in
          ap (λ (z : Point). of_side z.side z.kind) e ∙ fits
    ]
keeps net p (Plan n lots) g h q m =
    let s = mem_planned 0 n lots.0 p.points q m in
    ap (λ t. of_side t q.kind) s.side ∙ ap (of_side s.point.side) s.kind ∙ h s.point s.there
keeps net p (Relieve s parts) g h q m = h q m
keeps net p (Close f) g h q m = h q m
keeps net p Draw g h q m = h q m

pub fitting : (net : Net) (h : History) (p : Plain) → Led net h p → Fitting p.points
fitting net = always net (λ p. Fitting p.points) (λ q m. absurd (Memᴰ.not-nil m)) (keeps net)

-- a kind of a side is one of its three
one_kind :
    (s : Side) (k : Kind) (n : ℕ) → of_side s k ≡ true →
    cond (same_kind (main_kind s) k) n 0 + cond (same_kind (other_kind s) k) n 0 + cond (same_kind Storage k) n 0 ≡ n
one_kind Entry Transmission n e = omega arith
one_kind Entry Production n e = omega arith
one_kind Entry Storage n e = omega arith
one_kind Entry Local n e = absurd (false≢true e)
one_kind Entry Interconnector n e = absurd (false≢true e)
one_kind Exit Transmission n e = absurd (false≢true e)
one_kind Exit Production n e = absurd (false≢true e)
one_kind Exit Storage n e = omega arith
one_kind Exit Local n e = omega arith
one_kind Exit Interconnector n e = omega arith

-- a figure over the three elements
abbrev by_kind : (Point → ℕ) → Kind → List Point → ℕ
by_kind f k qs = sum_of_kind (λ q. q.kind) f k qs

kinds_sum :
    (s : Side) (f : Point → ℕ) (own : List Point) → ((q : Point) → Memᴰ q own → of_side s q.kind ≡ true) →
    by_kind f (main_kind s) own + by_kind f (other_kind s) own + by_kind f Storage own ≡ sum_by f own
kinds_sum s f [] fits = refl
kinds_sum s f (q ∷ qs) fits =
    omega (arith, sum_by-cons f q qs, one_kind s q.kind (f q) (fits q (Memᴰ.head refl)), kinds_sum s f qs (λ x m. fits x (Memᴰ.tail m)))

module _ (net : Net) (p : Plain) (fits : Fitting p.points) (s : Side) where
  of_its_side : (q : Point) → Memᴰ q (on_side s p.points) → of_side s q.kind ≡ true
  of_its_side q m = let k = mem_side s p.points q m in subst (λ t. of_side t q.kind ≡ true) k.1 (fits q k.0)

  -- a side's weight is that of all its points
  pub weight_is :
      weight (basis_of net p s) ≡ sum_by (λ q. q.lots * reach net q.station (on_side (opposite s) p.points)) (on_side s p.points)
  weight_is = kinds_sum s (λ q. q.lots * reach net q.station (on_side (opposite s) p.points)) (on_side s p.points) of_its_side

  -- and so are its lots
  pub planned_is : tariffs.planned (side_lots p.points s) ≡ lots_of (on_side s p.points)
  planned_is = kinds_sum s (λ q. q.lots) (on_side s p.points) of_its_side
