use Rattle.std.proofs.Common.{◌≤◌, rules}
use Rattle.network.specs.Limits.{longest}
use Rattle.network.proofs.figures.figure.Goals as goal

pub map_or-requires : goal.map_or-requires
map_or-requires c x e =
    let short : x.0 ≤ longest = c.requires x.0 (cc e) in
    search rules
