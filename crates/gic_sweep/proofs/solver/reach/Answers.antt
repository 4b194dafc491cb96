use Rattle.gic_model.specs.Voltages.{number_at}
use Rattle.gic_sweep.proofs.solver.reach.Goals as goal

pub returns-clause-settled : goal.returns-clause-settled
returns-clause-settled c = c.reach_between.ensures.settled (number_at c.args.volts.now) (number_at c.args.solver.now) c.find_residuals.ensures.holds

pub returns-clause-close : goal.returns-clause-close
returns-clause-close c = λ t h. c.reach_between.ensures.close (number_at c.args.volts.now) (number_at c.args.solver.now) t c.find_residuals.ensures.holds h
