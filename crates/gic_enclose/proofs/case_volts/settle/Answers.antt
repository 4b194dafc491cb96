use Rattle.std.proofs.Common.{List, ℤ, subst}
use Rattle.gic_model.specs.Guess.{IsSettled}
use Rattle.gic_model.specs.Voltages.{number_at}
use Rattle.gic_net.specs.Net.{standing}
use Rattle.gic_enclose.proofs.case_volts.settle.Goals as goal

pub returns-clause-settled : goal.returns-clause-settled
returns-clause-settled g c =
    subst (λ (volts : List ℤ). IsSettled (standing c.args.net.now) (number_at volts) (number_at c.settle_wide.new.solver)) c.as_wide.ensures c.settle_wide.ensures.settled
