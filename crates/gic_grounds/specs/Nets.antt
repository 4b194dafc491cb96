-- What two nets with grounds at the ends of their ranges are nets of.
use Rattle.std.specs.Prelude.{◌≡◌, Bool}
use Rattle.gic_model.specs.declared.parts.Item.{Item}
use Rattle.gic_model.specs.Network.{Network}
use Rattle.gic_model.specs.Standing.{standing_elements}
use Rattle.gic_net.specs.Net.{standing}
use Rattle.gic_varied.specs.Lifts.{with_least, with_most}
use Rattle.gic_varied.specs.Ranges.{Ranges}
use Rattle.gic_grounds.specs.declared.nets.GroundNets.{GroundNets}

-- the one is this network with its grounds at the least resistances of these ranges, the other with them at the greatest, and of both stand the items that stand here
pub record AreExtremesOf (network : Network) (stands : Item → Bool) (ranges : Ranges) (nets : GroundNets) : Type 0 where
  pub least_network : nets.least.network ≡ with_least ranges network
  pub most_network : nets.most.network ≡ with_most ranges network
  pub least_standing : standing nets.least ≡ standing_elements (with_least ranges network) stands
  pub most_standing : standing nets.most ≡ standing_elements (with_most ranges network) stands

-- they are so of some network
pub record AreSomeExtremes (nets : GroundNets) : Type 0 where
  pub network : Network
  pub stands : Item → Bool
  pub ranges : Ranges
  pub are : AreExtremesOf network stands ranges nets
