use Rattle.std.proofs.Common.{[]}
use Rattle.gic_model.specs.WorkedLoop.{loop_volts}
use Rattle.gic_exists.specs.Worked.{neutral_loop, neutral_solution}
use Rattle.gic_exists.proofs.WorkedNetworks.{the_solution, neutral_limits, neutral_earthed, neutral_solved}
use Rattle.gic_exists.proofs.laws.worked_neutral_law.Goals as goal

pub returns-clause-earthed : goal.returns-clause-earthed
returns-clause-earthed c = neutral_earthed

pub returns-clause-solution : goal.returns-clause-solution
returns-clause-solution c = the_solution neutral_loop [] loop_volts neutral_solution neutral_limits neutral_earthed neutral_solved
