use Rattle.std.proofs.Common.{[], ◌∷◌}
use Rattle.gic_model.specs.declared.parts.Item.TheVariants.{Ground}
use Rattle.gic_model.specs.WorkedLoop.{loop, loop_volts}
use Rattle.gic_exists.specs.Worked.{one_ground_solution}
use Rattle.gic_exists.proofs.WorkedNetworks.{the_solution, loop_limits, one_ground_earthed, one_ground_solved}
use Rattle.gic_exists.proofs.laws.worked_one_ground_law.Goals as goal

pub returns-clause-earthed : goal.returns-clause-earthed
returns-clause-earthed c = one_ground_earthed

pub returns-clause-solution : goal.returns-clause-solution
returns-clause-solution c = the_solution loop (Ground 0 ∷ []) loop_volts one_ground_solution loop_limits one_ground_earthed one_ground_solved
