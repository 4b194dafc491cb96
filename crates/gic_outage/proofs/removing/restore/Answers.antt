use Rattle.std.proofs.Common.{◌≡◌, false, rules}
use Rattle.gic_net.specs.Net.{switched_net}
use Rattle.gic_outage.proofs.Outages.{undone}
use Rattle.gic_outage.proofs.removing.restore.Goals as goal

pub returns-clause-undone : goal.returns-clause-undone
returns-clause-undone c =
    let closed : c.switch.new.self ≡ switched_net c.args.net.now c.args.removed false = search (rules, c.switch.ensures, c.removed.view_is) in
    λ before idle taken. undone before c.args.net.now c.switch.new.self c.args.removed idle taken closed
