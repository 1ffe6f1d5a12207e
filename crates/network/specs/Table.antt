-- What the figures of a distance table must keep.
use Rattle.std.specs.Prelude.{◌≡◌, ℕ, ◌+◌, ◌*◌, ◌/◌, ◌%◌, ◌<◌, ◌≤◌, ◌⊎◌, List, ◌∷◌, ◌++◌, length, ◌≢◌, slice_index}
use Rattle.terms.specs.declared.faults.SourceFault.TheVariants.{WrongCount}
use Rattle.terms.specs.Refusals.{Rule}
use Rattle.network.specs.Limits.{bottom_stations, longest, none_figure}
use Rattle.network.specs.Rules.{refused, each}
use Rattle.network.specs.Grid.{at}

-- neither a distance nor none
abbrev pub NoFigure : ℕ → Type 0
NoFigure figure = (longest < figure) × (figure ≢ none_figure)

-- From a to b there is a detour over c, and the figure is longer, or none, which is above every sum of two distances.
pub record Beaten (n : ℕ) (figures : List ℕ) (a b c : ℕ) : Type 0 where
  pub station : c < n
  pub to : at n figures a c ≤ longest
  pub from : at n figures c b ≤ longest
  pub longer : at n figures a c + at n figures c b < at n figures a b

-- A figure breaks a law where it is not 0 with itself, unlike its mirror, or beaten by a detour over one station.
pub data BreaksLaw (n : ℕ) (figures : List ℕ) (a b : ℕ) : Type 0 where
  not_itself : a ≡ b → (at n figures a b ≢ 0) → BreaksLaw n figures a b
  unlike : (at n figures a b ≢ at n figures b a) → BreaksLaw n figures a b
  beaten : (c : ℕ) → Beaten n figures a b c → BreaksLaw n figures a b

-- There are 1 to 64 stations and n × n figures. Each is a distance or none, and, once all are, none breaks a law.
-- The figure in row a and column b has the place a × n + b.
abbrev pub table_rules : ℕ → List ℕ → List Rule
table_rules n figures =
    refused WrongCount ((n < 1) ⊎ ((bottom_stations < n) ⊎ (length figures ≢ n * n)))
    ∷ (each (λ i. NoFigure (slice_index figures i)) 0 (length figures)
    ++ each (λ i. BreaksLaw n figures (i / n) (i % n)) 0 (length figures))
