use Rattle.std.proofs.Common.{◌≡◌, ◌<◌, ℕ, false}
use Rattle.gic_model.specs.Earthing.{is_earth}
use Rattle.gic_net.specs.Net.{placed_at}
use Rattle.gic_net.proofs.spread.leads_to_earth.Given as goal

abbrev pub invariant-loop-place : goal.invariant-loop-place
invariant-loop-place l = (j : ℕ) → j < l.place → is_earth (placed_at l.net l.node.0 j).1.to ≡ false
