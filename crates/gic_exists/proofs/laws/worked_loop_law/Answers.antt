use Rattle.std.proofs.Common.{[]}
use Rattle.gic_model.specs.WorkedLoop.{loop, loop_volts, loop_solution}
use Rattle.gic_exists.proofs.WorkedNetworks.{the_solution, loop_limits, loop_earthed, loop_solved}
use Rattle.gic_exists.proofs.laws.worked_loop_law.Goals as goal

pub returns-clause-earthed : goal.returns-clause-earthed
returns-clause-earthed c = loop_earthed

pub returns-clause-solution : goal.returns-clause-solution
returns-clause-solution c = the_solution loop [] loop_volts loop_solution loop_limits loop_earthed loop_solved
