-- What each kind of source means, from its fields.
use Rattle.std.specs.Prelude.{vec_items}
use Rattle.network.specs.Net.{Net}
use Rattle.network.specs.Trunk.{trunk_net}
use Rattle.network.specs.Grid.{grid_net}
use Rattle.network.specs.Link.{link_net}
use Rattle.network.specs.Pairing.{cut_pairing}
use Rattle.network.specs.declared.trunk.Trunk.{Trunk}
use Rattle.network.specs.declared.table.DistanceTable.{DistanceTable}
use Rattle.network.specs.declared.map.PipeMap.{PipeMap}
use Rattle.network.specs.declared.link.Link.{Link}
use Rattle.network.specs.declared.pairing.Pairing.{Pairing}

abbrev pub of_trunk : Trunk → Net
of_trunk t = trunk_net (vec_items t.positions)

abbrev pub of_table : DistanceTable → Net
of_table t = grid_net t.grid.count (vec_items t.grid.figures)

-- that of the distances worked out when it was made
abbrev pub of_map : PipeMap → Net
of_map m = of_table m.table

-- where `net` says what the source below means
abbrev pub of_link : {S : Type 0} → (S → Net) → Link S → Net
of_link net t = link_net (net t.below) t.p t.q t.length.0

-- where `first-net` and `second-net` say what the two sources mean
abbrev pub of_pairing : {S T : Type 0} → (S → Net) → (T → Net) → Pairing S T → Net
of_pairing first-net second-net t = cut_pairing (first-net t.first) (second-net t.second) t.x t.y
