-- What is promised of a draft follows from what is promised of its sides.
use Rattle.std.proofs.Common.{◌≡◌, ◌+◌, ◌≤◌, arith}
use Rattle.pricing.specs.declared.figures.TariffFigures.{TariffFigures}
use Rattle.pricing.specs.Limits.{whole_relief}
use Rattle.pricing.specs.Shares.{HasShares}
use Rattle.pricing.specs.Tariffs.{SidePromised}
use Rattle.pricing.specs.Drafts.{Drawing, figures_of, Promised}
use Rattle.pricing.proofs.Sides.{side_promised}

-- of any figures that keep what is promised of their sides
pub promised :
    (d : Drawing) (f : TariffFigures) → d.entries.amount.0 + d.exits.amount.0 ≡ d.allowed →
    SidePromised d.entries d.entry_lots f.entries → SidePromised d.exits d.exit_lots f.exits → Promised d f
promised d f halves e x =
    record {
      entries = e;
      exits = x;
      whole = omega (arith, e.whole, x.whole);
      collects =
          λ v w.
          let g = e.collects v in
          let h = x.collects w in
          record { high = omega (arith, g.high, h.high); low = omega (arith, g.low, h.low) };
    }

-- of the figures that a draw is defined to give
pub figures_promised :
    (d : Drawing) → d.entries.amount.0 + d.exits.amount.0 ≡ d.allowed → HasShares d.entries → HasShares d.exits →
    d.entries.relief ≤ whole_relief → d.exits.relief ≤ whole_relief → Promised d (figures_of d)
figures_promised d halves e x r s =
    promised d (figures_of d) halves (side_promised d.entries d.entry_lots e r) (side_promised d.exits d.exit_lots x s)
