-- The points of a book, and what a plain book keeps.
use Rattle.std.specs.Prelude.{ℕ, Bool, List, [], ℤ, pos, filter, sum_by, ◌==◌}
use Rattle.terms.specs.declared.points.Side.{Side}
use Rattle.terms.specs.declared.points.Side.TheVariants.{Entry, Exit}
use Rattle.terms.specs.declared.points.Kind.{Kind}
use Rattle.terms.specs.Points.{side_letter}
use Rattle.revenue.specs.declared.figures.Closing.{Closing}

-- A point: its side and kind, the station where it stands, and its planned lots.
pub record Point : Type 0 where
  pub side : Side
  pub kind : Kind
  pub station : ℕ
  pub lots : ℕ

-- a point that was just opened
abbrev pub new_point : Side → Kind → ℕ → Point
new_point side kind station = record { side = side; kind = kind; station = station; lots = 0 }

-- the point with other lots
abbrev pub with_lots : ℕ → Point → Point
with_lots lots q = record { side = q.side; kind = q.kind; station = q.station; lots = lots }

-- The plain book, a model fed only a source's meaning and the calls: its points by number, the two reliefs,
-- the allowed revenue, the carried amount, and each closing.
pub record Plain : Type 0 where
  pub points : List Point
  pub relief : Side → ℕ
  pub allowed : ℕ
  pub carried : ℤ
  pub closings : List Closing

-- It starts with no point, no closing, and 0 elsewhere.
abbrev pub empty : Plain
empty = record { points = []; relief = λ _. 0; allowed = 0; carried = pos 0; closings = [] }

-- whether two sides are one, by their letters
abbrev pub same_side : Side → Side → Bool
same_side s t = side_letter s == side_letter t

abbrev pub opposite : Side → Side
opposite Entry = Exit
opposite Exit = Entry

-- the points of one side, in the order of their numbers
abbrev pub on_side : Side → List Point → List Point
on_side s qs = filter (λ q. same_side s q.side) qs

-- the planned lots of points
abbrev pub lots_of : List Point → ℕ
lots_of qs = sum_by (λ q. q.lots) qs
