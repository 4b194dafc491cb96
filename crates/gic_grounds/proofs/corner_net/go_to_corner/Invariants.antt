use Rattle.std.proofs.Common.{◌≡◌, ◌<◌, ℕ, length}
use Rattle.gic_net.specs.Net.{element_of}
use Rattle.gic_grounds.specs.Corner.{is_most_at, element_at_corner}
use Rattle.gic_grounds.proofs.corner_net.go_to_corner.Given as goal

-- the elements so far are at the corner, and each is that of the least grounds but for its resistance
abbrev pub invariant-loop-place : goal.invariant-loop-place
invariant-loop-place l = record {
  same_nodes : l.net.network.nodes ≡ l.nets.least.network.nodes;
  same_count : length l.net.network.list ≡ length l.nets.least.network.list;
  same_items : l.net.open_items ≡ l.nets.least.open_items;
  alike : (k : ℕ) → k < length l.nets.least.network.list →
      element_of l.net.network k ≡ record (element_of l.nets.least.network k) { micro_ohm = (element_of l.net.network k).micro_ohm };
  gone : (k : ℕ) → k < l.place →
      element_of l.net.network k ≡ element_at_corner (is_most_at l.corner) (element_of l.nets.least.network k) (element_of l.nets.most.network k);
}
