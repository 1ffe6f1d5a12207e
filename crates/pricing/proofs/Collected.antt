-- What the tariffs of a side collect.
use Rattle.std.proofs.Common.{◌≡◌, ℕ, ◌+◌, arith}
use Rattle.terms.specs.declared.measures.Lots.{Lots}
use Rattle.terms.proofs.Halves.{nearest_within}
use Rattle.pricing.specs.declared.elements.Elements.{Elements}
use Rattle.pricing.specs.Shares.{Basis, HasShares, storage_share, main_share, other_share}
use Rattle.pricing.specs.Tariffs.{tariff_of, side_of, paid, planned, takings, Weighed, Collects}
use Rattle.pricing.proofs.Parts.{storage_le, main_le}

-- one element: its tariff lies within half a step of 1,000 × share / lots
element_collects : (share : ℕ) (lots : Lots) → (lots.0 ≡ 0 → share ≡ 0) → Collects share lots.0 (paid (tariff_of share lots) lots)
element_collects share lots z = record { high = grind (arith, nearest_within); low = grind (arith, nearest_within) }

-- an element of weight 0 has no share
no_main : (b : Basis) → b.main ≡ 0 → main_share b ≡ 0
no_main b e = grind arith

no_other : (b : Basis) → HasShares b → b.other ≡ 0 → other_share b ≡ 0
no_other b some e = grind arith

no_storage : (b : Basis) → b.storage ≡ 0 → storage_share b ≡ 0
no_storage b e = grind arith

pub whole_shares : (b : Basis) → main_share b + other_share b + storage_share b ≡ b.amount.0
whole_shares b = omega (arith, main_le b, storage_le b)

pub side_collects : (b : Basis) (l : Elements Lots) → HasShares b → Weighed b l → Collects b.amount.0 (planned l) (takings (side_of b l) l)
side_collects b l some w =
    let m = element_collects (main_share b) l.main (λ e. no_main b (w.main e)) in
    let p = element_collects (other_share b) l.other (λ e. no_other b some (w.other e)) in
    let s = element_collects (storage_share b) l.storage (λ e. no_storage b (w.storage e)) in
    record { high = omega (arith, whole_shares b, m.high, p.high, s.high); low = omega (arith, whole_shares b, m.low, p.low, s.low) }
