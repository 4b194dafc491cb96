use Rattle.std.proofs.Common.{◌≡◌, ◌<◌, ℕ}
use Rattle.gic_model.specs.Earthing.{LeadsToEarth, IsEarthed}
use Rattle.gic_net.specs.Net.{standing}
use Rattle.gic_net.specs.Scratch.{IsReached}
use Rattle.gic_net.proofs.spread.reach_from_earth.Given as goal

abbrev pub invariant-loop-node : goal.invariant-loop-node
invariant-loop-node l = record {
  nodes : l.scratch.nodes ≡ l.fn.scratch.nodes;
  earthed : (k : ℕ) → IsReached l.scratch.reached k → IsEarthed (standing l.net) k;
  from_earth : (k : ℕ) → k < l.node → LeadsToEarth (standing l.net) k → IsReached l.scratch.reached k;
}
