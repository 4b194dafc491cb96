use Rattle.gic_model.specs.Standing.{standing_elements}
use Rattle.gic_model.proofs.Ends.{standing_within}
use Rattle.gic_model.proofs.Pushes.{potentials_bounded}
use Rattle.gic_enclose.proofs.Bounds.{solutions_below, settled_below}
use Rattle.gic_enclose.proofs.laws.potential_bound_law.Goals as goal

pub returns : goal.returns
returns c = record {
  solutions = λ network stands volts s k limits earthed volt solves live.
      potentials_bounded network.nodes (standing_elements network stands) (standing_within network stands limits) volts s earthed volt solves k live;
  grains = solutions_below;
  guesses = settled_below;
}
