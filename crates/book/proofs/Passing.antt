-- One distance more of a pass.
use Rattle.std.proofs.Common.{◌≡◌, ℕ, ◌<◌, ◌≤◌, true, false, cond, ◌⊎◌, List, [], ◌∷◌, ◌++◌, Some, None, nat_cmp, refl, ap, inl, inr, arith}
use Rattle.std.specs.List.{All}
use Rattle.std.specs.Ordering.{ord_max, is_lt}
use Rattle.std.proofs.lemmas.Grind.{common_steps}
use Rattle.std.proofs.lemmas.List.Elements.{All-push}
use Rattle.std.proofs.lemmas.List.Quantifiers.{Any-push}
use Rattle.network.specs.Net.{Net}
use Rattle.rules.specs.Limits.{farthest}
use Rattle.rules.specs.Weights.{km}
use Rattle.book.specs.declared.record.PointRecord.{PointRecord}
use Rattle.book.specs.Passes.{Strays}

-- None of these records lacks a distance, none is farther than the farthest so far, and where that is too far one is.
pub record Seen (net : Net) (at : ℕ) (rs : List PointRecord) (far : ℕ) : Type 0 where
  pub reached : All (λ r. net.distance at r.station ≡ None → ⊥) rs
  pub within : All (λ r. km (net.distance at r.station) ≤ far) rs
  pub strays : farthest < far → Strays net at rs

le_first : (a b : ℕ) → a ≤ ord_max nat_cmp a b
le_first a b = grind (arith, common_steps)

le_second : (a b : ℕ) → b ≤ ord_max nat_cmp a b
le_second a b = grind (arith, common_steps)

either : (a b : ℕ) → (ord_max nat_cmp a b ≡ a) ⊎ (ord_max nat_cmp a b ≡ b)
either a b = elim (is_lt (nat_cmp b a)) as (λ v. (cond v a b ≡ a) ⊎ (cond v a b ≡ b)) [ true ↦ inl refl | false ↦ inr refl ]

module _ (net : Net) (at : ℕ) (rs : List PointRecord) (r : PointRecord) where
  strays_push : Strays net at rs → Strays net at (rs ++ (r ∷ []))
  strays_push s = (s.0, s.1, grind (arith, common_steps, s.2), grind (arith, common_steps, s.2, s.3), s.4)

  pub seen_push : (far d : ℕ) → net.distance at r.station ≡ Some d → Seen net at rs far → Seen net at (rs ++ (r ∷ [])) (ord_max nat_cmp far d)
  seen_push far d e s =
      let k = ap km e in
      let up = le_first far d in
      let here : km (net.distance at r.station) ≤ ord_max nat_cmp far d = let m = le_second far d in omega arith in record {
        reached = All-push (λ x. net.distance at x.station ≡ None → ⊥) rs r s.reached (λ n. grind (arith, e, n));
        within = All-push (λ x. km (net.distance at x.station) ≤ ord_max nat_cmp far d) rs r (λ i z l. let m = s.within i z l in omega (arith, m, up)) here;
        strays = λ l. elim (either far d) [
          | inl f ↦ strays_push (s.strays (omega arith))
          | inr f ↦ Any-push (λ x. farthest < km (net.distance at x.station)) rs r (omega arith)
        ];
      }
