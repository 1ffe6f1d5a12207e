-- The limits of distance sources.
use Rattle.std.specs.Prelude.{ℕ}

-- the stations of any source
abbrev pub most_stations : ℕ
most_stations = 1000

-- the stations of a trunk, a distance table or a pipe map
abbrev pub bottom_stations : ℕ
bottom_stations = 64

-- the longest distance in km, which stands for that length or more; the highest position and the longest pipe or link too
abbrev pub longest : ℕ
longest = 9999

-- the figure of a distance table that stands for no distance
abbrev pub none_figure : ℕ
none_figure = 65535

-- the pipes of a pipe map
abbrev pub most_pipes : ℕ
most_pipes = 200
