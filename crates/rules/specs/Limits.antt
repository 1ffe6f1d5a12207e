-- The limits of a book.
use Rattle.std.specs.Prelude.{ℕ, ◌*◌}
use Rattle.terms.specs.declared.points.Side.{Side}
use Rattle.terms.specs.declared.points.Side.TheVariants.{Entry, Exit}

-- the points of a side
abbrev pub most_points : Side → ℕ
most_points Entry = 32
most_points Exit = 96

-- the planned lots of a side
abbrev pub most_lots : ℕ
most_lots = 40000

-- the longest distance in km between two open points of opposite sides
abbrev pub farthest : ℕ
farthest = 1000

-- a relief that takes the whole, in ten-thousandths
abbrev pub whole_relief : ℕ
whole_relief = 10000

-- the weight of a side whose lots, and whose opposite side's, are all at the farthest distance
abbrev pub most_weight : ℕ
most_weight = most_lots * most_lots * farthest
