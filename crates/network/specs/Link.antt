-- A link: one piece more between two stations of any source.
use Rattle.std.specs.Prelude.{◌≡◌, ℕ, ◌<◌, ◌≤◌, ◌⊎◌, List, [], ◌∷◌, Some, Option}
use Rattle.terms.specs.declared.faults.SourceFault.TheVariants.{NoStation, BadFigure}
use Rattle.terms.specs.Refusals.{Rule}
use Rattle.network.specs.Limits.{longest}
use Rattle.network.specs.Net.{Net, Lawful, plus, least, capped}
use Rattle.network.specs.Rules.{refused}

-- from a to the end u below, over the link, and from its end v to b below
abbrev pub via : Net → ℕ → ℕ → ℕ → ℕ → ℕ → Option ℕ
via below u v length a b = plus (plus (below.distance a u) (Some length)) (below.distance v b)

-- The distance of two stations is the least of their distance below and those over the link in either sense.
abbrev pub link_net : Net → ℕ → ℕ → ℕ → Net
link_net below p q length = record {
  stations = below.stations;
  distance = λ a b. capped (least (below.distance a b) (least (via below p q length a b) (via below q p length a b)));
}

-- Both ends are stations below, and the length is at most 9,999.
abbrev pub link_rules : Net → ℕ → ℕ → ℕ → List Rule
link_rules below p q length =
    refused NoStation ((below.stations ≤ p) ⊎ (below.stations ≤ q))
    ∷ (refused (BadFigure 0) (longest < length) ∷ [])

-- Whatever its ends and its length, a link keeps the laws, and makes no distance longer.
pub record LinkLaw (below : Net) : Type 0 where
  pub lawful : (p q length : ℕ) → Lawful (link_net below p q length)
  pub no_longer : (p q length a b k : ℕ) → below.distance a b ≡ Some k → (j : ℕ) × (((link_net below p q length).distance a b ≡ Some j) × (j ≤ k))
