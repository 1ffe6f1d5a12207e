-- What one step of the search for shortest routes makes of a figure.
use Rattle.std.specs.Prelude.{ℕ, ◌+◌, ◌*◌, min, cond, List, nat_le, slice_set}
use Rattle.network.specs.declared.pipe.Pipe.{Pipe}
use Rattle.network.specs.Limits.{longest}
use Rattle.network.specs.Grid.{at}

-- z, or x and then y if that is shorter
abbrev pub shortcut : ℕ → ℕ → ℕ → ℕ
shortcut x y z = cond (nat_le x longest) (cond (nat_le y longest) (min z (min longest (x + y))) z) z

-- the figure from a to b once k may be passed through
abbrev pub through : ℕ → List ℕ → ℕ → ℕ → ℕ → ℕ
through n figures k a b = shortcut (at n figures a k) (at n figures k b) (at n figures a b)

-- the figures once a pipe is laid, in both senses
abbrev pub laid : ℕ → Pipe → List ℕ → List ℕ
laid n p figures =
    slice_set (slice_set figures (p.from * n + p.to) (min p.length.0 (at n figures p.from p.to)))
    (p.to * n + p.from) (min p.length.0 (at n figures p.to p.from))
