-- Worked examples: what the definitions give, each beside the figure worked by hand.
use Rattle.std.specs.Prelude.{◌≡◌, ℕ, List, [], ◌∷◌, map, Some, Option}
use Rattle.network.specs.Net.{Net}
use Rattle.network.specs.Trunk.{trunk_net}
use Rattle.network.specs.Link.{link_net}
use Rattle.network.specs.Pairing.{pairing_net}

-- a trunk with stations at 0, 40 and 100 km
abbrev trunk : Net
trunk = trunk_net (0 ∷ 40 ∷ 100 ∷ [])

-- the trunk with a link of 70 km between its ends
abbrev linked : Net
linked = link_net trunk 0 2 70

-- the trunk, and at its last station a trunk with stations at 0 and 25 km
abbrev paired : Net
paired = pairing_net trunk (trunk_net (0 ∷ 25 ∷ [])) 2 0

abbrev pub distances : List (Option ℕ × Option ℕ)
distances =
    (linked.distance 0 2, Some 70)
    ∷ (linked.distance 1 2, Some 60)
    ∷ (paired.distance 0 4, Some 125)
    ∷ (paired.distance 2 3, Some 0)
    ∷ []

-- each example gives its figure
abbrev pub Hold : List (Option ℕ × Option ℕ) → Type 0
Hold examples = map (λ (e : Option ℕ × Option ℕ). e.0) examples ≡ map (λ (e : Option ℕ × Option ℕ). e.1) examples
