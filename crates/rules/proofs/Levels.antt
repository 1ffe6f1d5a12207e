-- Both sides weigh the same: each the sum over all pairs of an entry and an exit.
use Rattle.std.proofs.Common.{◌≡◌, ℕ, ◌*◌, List, sum_by, sym, ap, ◌∙◌, arith}
use Rattle.terms.specs.declared.points.Side.{Side}
use Rattle.terms.specs.declared.points.Side.TheVariants.{Entry, Exit}
use Rattle.network.specs.Net.{Net, Lawful}
use Rattle.pricing.specs.Shares.{weight}
use Rattle.rules.specs.Points.{Point, Plain, on_side}
use Rattle.rules.specs.Weights.{km, reach, basis_of}
use Rattle.rules.specs.Promises.{Averaged, pairs_weight}
use Rattle.rules.proofs.Sums.{sum_same, sum_times, sum_swap}
use Rattle.rules.proofs.Elements.{Fitting, weight_is}

-- what a pair of points brings
abbrev pair : Net → Point → Point → ℕ
pair net e x = e.lots * x.lots * km (net.distance e.station x.station)

module _ (net : Net) where
  -- a point's weight is the sum over its pairs
  in_pairs : (q : Point) (xs : List Point) → q.lots * reach net q.station xs ≡ sum_by (pair net q) xs
  in_pairs q xs =
      sum_times q.lots (λ x. x.lots * km (net.distance q.station x.station)) xs
      ∙ sum_same (λ x. q.lots * (x.lots * km (net.distance q.station x.station))) (pair net q) (λ x. omega arith) xs

  turned : Lawful net → (x e : Point) → pair net x e ≡ pair net e x
  turned lawful x e = omega (arith, ap (λ o. x.lots * e.lots * km o) (lawful.mirror x.station e.station))

  pub level : Lawful net → (p : Plain) → Fitting p.points → (s : Side) → weight (basis_of net p s) ≡ pairs_weight net p.points
  level lawful p fits Entry =
      let exits = on_side Exit p.points in
      weight_is net p fits Entry ∙ sum_same _ (λ e. sum_by (pair net e) exits) (λ e. in_pairs e exits) (on_side Entry p.points)
  level lawful p fits Exit =
      let entries = on_side Entry p.points in
      let exits = on_side Exit p.points in
      weight_is net p fits Exit
      ∙ sum_same _ (λ x. sum_by (λ e. pair net e x) entries) (λ x. in_pairs x entries ∙ sum_same (pair net x) (λ e. pair net e x) (turned lawful x) entries) exits
      ∙ sym (sum_swap (pair net) entries exits)

  pub averaged : (points : List Point) → Averaged net points
  averaged points q some = record { first = omega arith; second = omega arith; equal = omega arith }
