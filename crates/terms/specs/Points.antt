-- The sides and kinds of points, and their letters.
use Rattle.std.specs.Prelude.{ℕ, Bool, true, false, cond, Some, None, Option, ◌==◌}
use Rattle.terms.specs.declared.points.Side.{Side}
use Rattle.terms.specs.declared.points.Side.TheVariants.{Entry, Exit}
use Rattle.terms.specs.declared.points.Kind.{Kind}
use Rattle.terms.specs.declared.points.Kind.TheVariants.{Transmission, Production, Storage, Local, Interconnector}

-- E and X
abbrev pub side_letter : Side → ℕ
side_letter Entry = 69
side_letter Exit = 88

-- the side with that letter
abbrev pub side_of : ℕ → Option Side
side_of c = cond (c == 69) (Some Entry) (cond (c == 88) (Some Exit) None)

-- T, P, S, L and I
abbrev pub kind_letter : Kind → ℕ
kind_letter Transmission = 84
kind_letter Production = 80
kind_letter Storage = 83
kind_letter Local = 76
kind_letter Interconnector = 73

-- the kind with that letter
abbrev pub kind_of : ℕ → Option Kind
kind_of c =
    cond (c == 84) (Some Transmission)
    (cond (c == 80) (Some Production)
    (cond (c == 83) (Some Storage)
    (cond (c == 76) (Some Local)
    (cond (c == 73) (Some Interconnector) None))))

-- Entries are of transmission, production or storage; exits are local, of an interconnector or of storage.
abbrev pub of_side : Side → Kind → Bool
of_side Entry Transmission = true
of_side Entry Production = true
of_side Entry Storage = true
of_side Entry Local = false
of_side Entry Interconnector = false
of_side Exit Transmission = false
of_side Exit Production = false
of_side Exit Storage = true
of_side Exit Local = true
of_side Exit Interconnector = true
