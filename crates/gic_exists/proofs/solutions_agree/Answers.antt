use Rattle.std.proofs.Common.{not}
use Rattle.std.specs.List.{list_any}
use Rattle.gic_model.specs.Standing.{is_item}
use Rattle.gic_model.specs.Voltages.{number_at}
use Rattle.gic_exists.proofs.InNetworks.{agree_in}
use Rattle.gic_exists.proofs.solutions_agree.Goals as goal

pub returns : goal.returns
returns c = agree_in c.args.elements.now (λ item. not (list_any (is_item item) c.args.opened.now)) (number_at c.args.volts.now) c.within_limits.ensures c.requires.earthed
