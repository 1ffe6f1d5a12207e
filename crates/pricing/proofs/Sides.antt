-- What is promised of a side's shares and tariffs.
use Rattle.std.proofs.Common.{◌≤◌}
use Rattle.terms.specs.declared.measures.Lots.{Lots}
use Rattle.pricing.specs.declared.elements.Elements.{Elements}
use Rattle.pricing.specs.Limits.{whole_relief}
use Rattle.pricing.specs.Shares.{Basis, HasShares}
use Rattle.pricing.specs.Tariffs.{side_of, SidePromised}
use Rattle.pricing.proofs.Nearness.{near_main, near_other, near_storage}
use Rattle.pricing.proofs.Factors.{methodical}
use Rattle.pricing.proofs.Collected.{whole_shares, side_collects}

pub side_promised : (b : Basis) (l : Elements Lots) → HasShares b → b.relief ≤ whole_relief → SidePromised b l (side_of b l)
side_promised b l some relieved =
    record {
      whole = whole_shares b;
      near = record { main = near_main b some relieved; other = near_other b some relieved; storage = near_storage b some relieved };
      methodical = methodical b some relieved;
      collects = side_collects b l some;
    }
