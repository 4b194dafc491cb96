use Rattle.std.proofs.Common.{◌^◌, List, ℤ, subst, sym}
use Rattle.gic_model.specs.Guess.{IsSettled, IsSettledWithin}
use Rattle.gic_model.specs.Voltages.{number_at}
use Rattle.gic_net.specs.Net.{standing}
use Rattle.gic_enclose.proofs.case_volts.enclose.Goals as goal

pub returns-clause-narrow : goal.returns-clause-narrow
returns-clause-narrow c settled =
    c.enclose_wide.ensures.narrow (subst (λ (volts : List ℤ). IsSettledWithin (standing c.args.net.now) (number_at volts) (number_at c.args.solver.now) (2 ^ 29)) (sym c.as_wide.ensures) settled)

pub returns-clause-tight : goal.returns-clause-tight
returns-clause-tight c settled =
    c.enclose_wide.ensures.tight (subst (λ (volts : List ℤ). IsSettled (standing c.args.net.now) (number_at volts) (number_at c.args.solver.now)) (sym c.as_wide.ensures) settled)
