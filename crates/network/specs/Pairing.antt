-- A pairing: two sources that meet at a station of each.
use Rattle.std.specs.Prelude.{ℕ, ◌+◌, ◌-◌, ◌<◌, ◌≤◌, min, cond, ◌⊎◌, List, [], ◌∷◌, Option, nat_lt}
use Rattle.terms.specs.declared.faults.SourceFault.TheVariants.{NoStation, WrongCount}
use Rattle.terms.specs.Refusals.{Rule}
use Rattle.network.specs.Limits.{most_stations}
use Rattle.network.specs.Net.{Net, inside, plus, capped}
use Rattle.network.specs.Rules.{refused}

-- from a of the first to x, where they meet, and on from y to b of the second
abbrev pub across : Net → Net → ℕ → ℕ → ℕ → ℕ → Option ℕ
across first second x y a b = capped (plus (first.distance a x) (second.distance y b))

-- The first keeps its numbers, and the second's follow. Inside one source the distance is its own.
abbrev pub paired : Net → Net → ℕ → ℕ → ℕ → ℕ → Option ℕ
paired first second x y a b =
    cond (nat_lt a first.stations)
    (cond (nat_lt b first.stations) (first.distance a b) (across first second x y a (b - first.stations)))
    (cond (nat_lt b first.stations) (across first second x y b (a - first.stations)) (second.distance (a - first.stations) (b - first.stations)))

abbrev pub pairing_net : Net → Net → ℕ → ℕ → Net
pairing_net first second x y = record { stations = first.stations + second.stations; distance = paired first second x y }

-- The stations together are at most 1,000. x is a station of the first, and y of the second.
abbrev pub pairing_rules : Net → Net → ℕ → ℕ → List Rule
pairing_rules first second x y =
    refused WrongCount (most_stations < first.stations + second.stations)
    ∷ (refused NoStation ((first.stations ≤ x) ⊎ (second.stations ≤ y)) ∷ [])

-- The same with every number from 1,000 on cut off, so that it keeps the laws whatever the counts. Where they add up to at most 1,000, this cuts nothing off.
abbrev pub cut_pairing : Net → Net → ℕ → ℕ → Net
cut_pairing first second x y = record {
  stations = min most_stations (first.stations + second.stations);
  distance = λ a b. inside most_stations a b (paired first second x y a b);
}
