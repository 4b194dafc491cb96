use Rattle.std.proofs.Common.{◌≡◌, ◌<◌, ◌≤◌, ◌-◌, ℕ, length, get_or}
use Rattle.gic_model.specs.Earthing.{IsJoined}
use Rattle.gic_net.specs.Net.{standing}
use Rattle.gic_net.specs.Scratch.{IsReached}
use Rattle.gic_net.specs.Spread.{StartsAtEarth}
use Rattle.gic_net.proofs.spread.spread.Given as goal

abbrev pub invariant-loop-done : goal.invariant-loop-done
invariant-loop-done l = record {
  nodes : l.scratch.nodes ≡ l.fn.scratch.nodes;
  starts : StartsAtEarth (standing l.net) l.scratch.reached;
  behind : l.done ≤ length l.scratch.reached;
  closed : (i m : ℕ) → i < l.done → IsJoined (standing l.net) (get_or l.scratch.reached i 0) m → IsReached l.scratch.reached m;
}

abbrev pub decreases-loop-done : goal.decreases-loop-done
decreases-loop-done l = l.fn.scratch.nodes - l.done
