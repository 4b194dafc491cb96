use Rattle.std.proofs.Common.{◌≤◌, length}
use Rattle.gic_precondition.specs.Inside.{AreWiresInside}
use Rattle.gic_precondition.proofs.wiring.put_wires.Given as goal

abbrev pub invariant-loop-place : goal.invariant-loop-place
invariant-loop-place l = record {
  few : l.count ≤ length l.wires;
  inside : AreWiresInside l.net.network.nodes l.wires;
}
