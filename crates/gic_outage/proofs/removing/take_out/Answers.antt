use Rattle.std.proofs.Common.{ap, ◌∙◌}
use Rattle.gic_net.specs.Net.{NetView, stands, standing}
use Rattle.gic_outage.proofs.Outages.{open_without, standing_others}
use Rattle.gic_outage.proofs.removing.take_out.Goals as goal

pub returns-clause-opened : goal.returns-clause-opened
returns-clause-opened c = ap (λ (net : NetView). stands net c.args.item) c.switch.ensures ∙ open_without c.args.net.now c.args.item c.requires

pub returns-clause-standing : goal.returns-clause-standing
returns-clause-standing c = ap (λ (net : NetView). standing net) c.switch.ensures ∙ standing_others c.args.net.now c.args.item
