-- The distances of a source as lines of text: a line for each station, with its number, a colon, and its distance to each station.
use Rattle.std.specs.Prelude.{ℕ, zero, suc, List, [], ◌++◌, Some, None, codes, decimal, Option}
use Rattle.network.specs.Net.{Net}

-- a distance in km, or - where there is none
abbrev pub distance_text : Option ℕ → List ℕ
distance_text None = codes "-"
distance_text (Some d) = decimal d

-- the distances to the first k stations, each after a space
abbrev pub cells : (ℕ → Option ℕ) → ℕ → List ℕ
cells far zero = []
cells far (suc k) = cells far k ++ (codes " " ++ distance_text (far k))

abbrev pub row_text : Net → ℕ → List ℕ
row_text net a = decimal a ++ (codes ":" ++ (cells (net.distance a) net.stations ++ codes "\n"))

-- the lines of the first k stations
abbrev pub rows : Net → ℕ → List ℕ
rows net zero = []
rows net (suc k) = rows net k ++ row_text net k

abbrev pub table_text : Net → List ℕ
table_text net = rows net net.stations
