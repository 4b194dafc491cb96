use Rattle.std.proofs.Common.{◌<◌, ℕ}
use Rattle.gic_model.specs.Standing.{IsLive}
use Rattle.gic_model.specs.Earthing.{IsEarthed}
use Rattle.gic_net.specs.Net.{standing}
use Rattle.gic_net.proofs.unearthed.earthed.Given as goal

abbrev pub invariant-loop-node : goal.invariant-loop-node
invariant-loop-node l = (k : ℕ) → k < l.node → IsLive (standing l.net) k → IsEarthed (standing l.net) k
