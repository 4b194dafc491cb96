use Rattle.std.proofs.Common.{arith}
use Rattle.gic_net.specs.Net.{stands}
use Rattle.gic_cert.proofs.Conductances.{conductance_least}
use Rattle.gic_cert.proofs.step.step_asked_at.Goals as goal

pub quotient_up-requires-clause-conductance : goal.quotient_up-requires-clause-conductance
quotient_up-requires-clause-conductance c =
    let net = c.args.net.now in
    omega (arith, conductance_least net.network (stands net) c.args.node.0 c.within_limits.ensures c.requires.live, c.conductance.ensures.value)
