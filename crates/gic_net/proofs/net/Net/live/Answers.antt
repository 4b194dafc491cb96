use Rattle.std.proofs.Common.{nat_lt, ap, ◌∙◌}
use Rattle.gic_model.specs.Network.{ends_at}
use Rattle.gic_net.specs.Net.{standing}
use Rattle.gic_net.proofs.Places.{some_any}
use Rattle.gic_net.proofs.net.Net.live.Goals as goal

pub returns : goal.returns
returns c = ap (nat_lt 0) c.degree.ensures.value ∙ some_any (λ p. ends_at p.1 c.args.node.0) (standing c.args.self.now)
