-- Distances as a square of figures, row by row.
use Rattle.std.specs.Prelude.{◌≡◌, ℕ, ◌+◌, ◌*◌, ◌<◌, ◌≤◌, cond, List, length, Some, None, Option, nat_le, slice_index}
use Rattle.network.specs.Limits.{bottom_stations, longest, none_figure}
use Rattle.network.specs.Net.{Net, inside}

-- the figure in row a and column b of n columns
abbrev pub at : ℕ → List ℕ → ℕ → ℕ → ℕ
at n figures a b = slice_index figures (a * n + b)

-- A figure up to 9,999 is a distance. Any other stands for none.
abbrev pub distance_of : ℕ → Option ℕ
distance_of figure = cond (nat_le figure longest) (Some figure) None

-- the figure that stands for a distance or none
abbrev pub figure_of : Option ℕ → ℕ
figure_of None = none_figure
figure_of (Some k) = k

-- The distance of two stations is the figure in the row of one and the column of the other.
abbrev pub grid_net : ℕ → List ℕ → Net
grid_net n figures = record { stations = n; distance = λ a b. inside n a b (distance_of (at n figures a b)) }

-- the figures of at most 64 stations
pub record Square (n : ℕ) (figures : List ℕ) : Type 0 where
  pub few : n ≤ bottom_stations
  pub size : length figures ≡ n * n

-- The laws of a source, said of the figures.
pub record GridLaws (n : ℕ) (figures : List ℕ) : Type 0 where
  pub itself : (a : ℕ) → a < n → at n figures a a ≡ 0
  pub mirror : (a b : ℕ) → a < n → b < n → at n figures a b ≤ longest → at n figures b a ≡ at n figures a b
  pub reach : (a b c : ℕ) → a < n → b < n → c < n → at n figures a b ≤ longest → at n figures b c ≤ longest → at n figures a c ≤ longest
  pub detour : (a b c : ℕ) → a < n → b < n → c < n → at n figures a b ≤ longest → at n figures b c ≤ longest → at n figures a c ≤ at n figures a b + at n figures b c
