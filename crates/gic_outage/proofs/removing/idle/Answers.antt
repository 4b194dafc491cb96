use Rattle.std.proofs.Common.{not, ap, ◌∙◌}
use Rattle.gic_outage.proofs.Outages.{idle_by_element, idle_without_element}
use Rattle.gic_outage.proofs.removing.idle.Goals as goal

pub returns-in-Some : goal.returns-in-Some
returns-in-Some c = ap not c.stands.ensures.value ∙ idle_by_element c.args.net.now c.args.item c.in-Some.element.0 c.in-Some.ensures.within c.in-Some.ensures.some

pub returns-in-None : goal.returns-in-None
returns-in-None c = idle_without_element c.args.net.now c.args.item c.in-None.ensures.none
