-- A trunk: a position in km for each station.
use Rattle.std.specs.Prelude.{ℕ, ◌+◌, ◌-◌, ◌<◌, ◌⊎◌, List, ◌∷◌, length, Some, slice_index}
use Rattle.terms.specs.declared.faults.SourceFault.TheVariants.{WrongCount}
use Rattle.terms.specs.Refusals.{Rule}
use Rattle.network.specs.Limits.{bottom_stations, longest}
use Rattle.network.specs.Net.{Net, inside}
use Rattle.network.specs.Rules.{refused, each}

-- the difference of two positions
abbrev pub gap : ℕ → ℕ → ℕ
gap p q = (p - q) + (q - p)

-- The distance of two stations is the difference of their positions.
abbrev pub trunk_net : List ℕ → Net
trunk_net positions = record {
  stations = length positions;
  distance = λ a b. inside (length positions) a b (Some (gap (slice_index positions a) (slice_index positions b)));
}

-- There are 1 to 64 stations, and no position is over 9,999.
abbrev pub trunk_rules : List ℕ → List Rule
trunk_rules positions =
    refused WrongCount ((length positions < 1) ⊎ (bottom_stations < length positions))
    ∷ each (λ i. longest < slice_index positions i) 0 (length positions)
