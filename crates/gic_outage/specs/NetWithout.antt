-- A net without an item.
use Rattle.std.specs.Prelude.{true}
use Rattle.gic_model.specs.declared.parts.Item.{Item}
use Rattle.gic_net.specs.Net.{NetView, switched_net}

-- the net with this item open as well
abbrev pub net_without : NetView → Item → NetView
net_without net item = switched_net net item true
