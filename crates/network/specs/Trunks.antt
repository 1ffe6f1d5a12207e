-- The laws of a trunk.
use Rattle.std.specs.Prelude.{◌≡◌, ℕ, ◌+◌, ◌<◌, ◌≤◌, List, length, Some, slice_index, Vec, vec_len}
use Rattle.std.specs.declared.alloc.Global.{Global}
use Rattle.std.proofs.Common.{ap, ◌∙◌, arith}
use Rattle.std.proofs.lemmas.Bool.Decides.{nat_tests}
use Rattle.network.specs.Limits.{bottom_stations, longest}
use Rattle.network.specs.Net.{Lawful}
use Rattle.network.specs.Trunk.{gap, trunk_net}
use Rattle.network.specs.Nets.{inside_in, inside_out, inside_some, some_is}

module _ (ps : List ℕ) (some : 1 ≤ length ps) (few : length ps ≤ bottom_stations) (low : (k : ℕ) → k < length ps → slice_index ps k ≤ longest) where
  short : (a b k : ℕ) → (trunk_net ps).distance a b ≡ Some k → k ≤ longest
  short a b k e =
      let h = inside_some (length ps) a b k (Some (gap (slice_index ps a) (slice_index ps b))) e in
      omega (arith, low a h.0, low b h.1.0, some_is _ _ h.1.1)

  detour : (a b c j k : ℕ) → (trunk_net ps).distance a b ≡ Some j → (trunk_net ps).distance b c ≡ Some k → (l : ℕ) × (((trunk_net ps).distance a c ≡ Some l) × (l ≤ j + k))
  detour a b c j k e f =
      let h = inside_some (length ps) a b j (Some (gap (slice_index ps a) (slice_index ps b))) e in
      let i = inside_some (length ps) b c k (Some (gap (slice_index ps b) (slice_index ps c))) f in
      (gap (slice_index ps a) (slice_index ps c), (inside_in (length ps) a c _ h.0 i.1.0, omega (arith, some_is _ _ h.1.1, some_is _ _ i.1.1)))

  mirror : (a b : ℕ) → (trunk_net ps).distance a b ≡ (trunk_net ps).distance b a
  mirror a b = grind (arith, nat_tests)

  pub trunk_lawful : Lawful (trunk_net ps)
  trunk_lawful = record {
    some = some;
    few = omega arith;
    short = short;
    outside = λ a b h. inside_out (length ps) a b _ h;
    itself = λ a h. inside_in (length ps) a a _ h h ∙ ap Some (omega arith);
    mirror = mirror;
    detour = detour;
  }

-- the same of positions in a vector
pub held_lawful : (v : Vec ℕ Global) → 1 ≤ vec_len v → vec_len v ≤ bottom_stations → ((k : ℕ) → k < vec_len v → slice_index v.items k ≤ longest) → Lawful (trunk_net v.items)
held_lawful v some few low = trunk_lawful v.items (omega arith) (omega arith) (λ k h. low k (omega arith))
