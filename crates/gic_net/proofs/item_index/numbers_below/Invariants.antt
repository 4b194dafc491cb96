use Rattle.std.proofs.Common.{◌<◌, ℕ}
use Rattle.gic_net.specs.Row.{item_number_at}
use Rattle.gic_net.proofs.item_index.numbers_below.Given as goal

abbrev pub invariant-loop-element : goal.invariant-loop-element
invariant-loop-element l = (place : ℕ) → place < l.element-index → item_number_at l.list place < l.above
