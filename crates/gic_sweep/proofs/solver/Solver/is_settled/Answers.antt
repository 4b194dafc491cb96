use Rattle.std.proofs.Common.{◌^◌, ℤ, List, IsTrue, subst}
use Rattle.gic_model.specs.Guess.{IsSettled, IsSettledWithin}
use Rattle.gic_model.specs.Voltages.{number_at}
use Rattle.gic_net.specs.Net.{standing}
use Rattle.gic_sweep.proofs.solver.Solver.is_settled.Goals as goal

pub returns-clause-settled : goal.returns-clause-settled
returns-clause-settled c =
    subst (λ (xs : List ℤ). IsTrue c.are_settled.result → IsSettled (standing c.args.net.now) (number_at c.args.volts.now) (number_at xs)) c.self.view_is c.are_settled.ensures.settled

pub returns-clause-seen : goal.returns-clause-seen
returns-clause-seen c =
    subst (λ (xs : List ℤ). IsSettledWithin (standing c.args.net.now) (number_at c.args.volts.now) (number_at xs) (2 ^ 17) → IsTrue c.are_settled.result) c.self.view_is c.are_settled.ensures.seen
