-- Ranges that don't reach far: what keeps the voltages of lifts within their limit.
use Rattle.std.specs.Prelude.{ℕ, ◌≤◌, ◌*◌}
use Rattle.gic_model.specs.Network.{Network}
use Rattle.gic_net.specs.Net.{element_of}

-- the greatest resistance is at least the least one, and at most 20 times as much
pub record IsModest (least most : ℕ) : Type 0 where
  pub ordered : least ≤ most
  pub twentyfold : most ≤ 20 * least

-- so are the resistances of each element in two networks
abbrev pub AreModestNetworks : (least most : Network) → Type 0
AreModestNetworks least most = (place : ℕ) → IsModest (element_of least place).micro_ohm (element_of most place).micro_ohm
