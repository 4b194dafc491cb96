use Rattle.std.proofs.Common.{ℤ, List, length, pos, ◌-ℤ◌, ◌≤ℤ◌, sym, subst, subst₂}
use Rattle.gic_model.specs.Guess.{HoldsResidual}
use Rattle.gic_model.specs.Voltages.{number_at}
use Rattle.gic_net.specs.Net.{standing, stands, row_at}
use Rattle.gic_sweep.proofs.solver.find_residuals.Goals as goal

pub returns-clause-holds : goal.returns-clause-holds
returns-clause-holds c = λ k.
    let net = c.args.net.now in
    let v = number_at c.args.volts.now in
    let x = number_at c.guesses.result.now in
    let holds = c.rounded_residual_law.ensures.holds net.network (stands net) v x k c.within_limits.ensures in
    let low = c.find.new.self.low in
    let high = c.find.new.self.high in
    let here = subst₂ (λ (a b : ℤ). HoldsResidual (standing net) v x k a b) (sym (c.find.ensures.low k)) (sym (c.find.ensures.high k)) holds in
    subst (λ (xs : List ℤ). HoldsResidual (standing net) v (number_at xs) k (number_at low k) (number_at high k)) c.guesses.ensures.value here

pub returns-clause-ends : goal.returns-clause-ends
returns-clause-ends c =
    let net = c.args.net.now in
    let v = number_at c.args.volts.now in
    let x = number_at c.guesses.result.now in
    record {
      count = c.find.ensures.count;
      narrow = λ k.
          let narrow = c.rounded_residual_law.ensures.narrow net.network (stands net) v x k c.within_limits.ensures in
          subst₂ (λ (a b : ℤ). (b -ℤ a) ≤ℤ pos (length (row_at net k))) (sym (c.find.ensures.low k)) (sym (c.find.ensures.high k)) narrow;
      small = c.find.ensures.small;
    }
