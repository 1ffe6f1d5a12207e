-- A pipe map: pipes between stations.
use Rattle.std.specs.Prelude.{◌≡◌, ℕ, ◌<◌, ◌≤◌, ◌⊎◌, List, ◌∷◌, length, slice_index_or}
use Rattle.terms.specs.declared.faults.SourceFault.TheVariants.{WrongCount}
use Rattle.terms.specs.Refusals.{Rule}
use Rattle.network.specs.declared.pipe.Pipe.{Pipe}
use Rattle.network.specs.Limits.{bottom_stations, longest, most_pipes}
use Rattle.network.specs.Rules.{refused, each}
use Rattle.network.specs.Routes.{Route, LeastOf}
use Rattle.network.specs.Grid.{at, distance_of}

-- what stands past the last pipe
abbrev pub no_pipe : Pipe
no_pipe = record { from = 0; to = 0; length = record { 0 = 0 } }

abbrev pub pipe_at : List Pipe → ℕ → Pipe
pipe_at pipes i = slice_index_or pipes i no_pipe

-- p joins a and b, in either sense, and is l km long
abbrev pub Lies : Pipe → ℕ → ℕ → ℕ → Type 0
Lies p a b l = (((p.from ≡ a) × (p.to ≡ b)) ⊎ ((p.from ≡ b) × (p.to ≡ a))) × (p.length.0 ≡ l)

-- some pipe of the list does
abbrev pub Joins : List Pipe → ℕ → ℕ → ℕ → Type 0
Joins pipes a b l = (i : ℕ) × ((i < length pipes) × Lies (pipe_at pipes i) a b l)

-- A pipe lies between two different stations, and is 1 to 9,999 km long.
pub record GoodPipe (n : ℕ) (p : Pipe) : Type 0 where
  pub from_in : p.from < n
  pub to_in : p.to < n
  pub apart : p.from ≡ p.to → ⊥
  pub some_length : 1 ≤ p.length.0
  pub short : p.length.0 ≤ longest

abbrev pub GoodPipes : ℕ → List Pipe → Type 0
GoodPipes n pipes = (i : ℕ) → i < length pipes → GoodPipe n (pipe_at pipes i)

-- There are 1 to 64 stations and at most 200 pipes, and each pipe is good.
abbrev pub map_rules : ℕ → List Pipe → List Rule
map_rules n pipes =
    refused WrongCount ((n < 1) ⊎ ((bottom_stations < n) ⊎ (most_pipes < length pipes)))
    ∷ each (λ i. GoodPipe n (pipe_at pipes i) → ⊥) 0 (length pipes)

-- the figures are the least lengths over all routes along the pipes
abbrev pub LeastGrid : ℕ → List Pipe → List ℕ → Type 0
LeastGrid n pipes figures = (a b : ℕ) → a < n → b < n → LeastOf (Route (Joins pipes) n a b) (distance_of (at n figures a b))
