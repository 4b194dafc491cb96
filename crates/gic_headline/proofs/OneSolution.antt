-- The network of a sound case has one solution where its live nodes are earthed.
use Rattle.std.proofs.Common.{ℕ, ℤ, Bool, List}
use Rattle.gic_case.specs.Lists.{Lists}
use Rattle.gic_case.specs.Sound.{IsSound}
use Rattle.gic_model.specs.declared.parts.Item.{Item}
use Rattle.gic_model.specs.declared.parts.Switching.{Switching}
use Rattle.gic_model.specs.Earthing.{AreEarthed}
use Rattle.gic_model.specs.Limits.{IsWithinLimits}
use Rattle.gic_model.specs.Network.{Network}
use Rattle.gic_model.specs.Standing.{standing_elements, stands_after}
use Rattle.gic_exists.specs.Exists.{EarthedNetworksAreSolved, SolutionsAgree}
use Rattle.gic_winding.specs.Degrees.{ElementsAreWithinLimits}
use Rattle.gic_winding.specs.ElementList.{elements_of}
use Rattle.gic_winding.specs.InForce.{standing_in}
use Rattle.gic_stand.specs.Needs.{Solved, IsMet}
use Rattle.gic_inputs.specs.Inputs.{rows_in}
use Rattle.gic_criteria.specs.declared.asked.Criteria.{Criteria}
use Rattle.gic_inputs.specs.declared.inputs.Inputs.{Inputs}
use Rattle.gic_inputs.specs.declared.inputs.StormInputs.{StormInputs}
use Rattle.gic_model.specs.Standing.{rows_in_force}
use Rattle.gic_storm.specs.Steps.{time_of_step}
use Rattle.gic_course.specs.Steps.{storm_steps, storm_volts}
use Rattle.gic_course.proofs.StepsStand.{solvable_at}
use Rattle.gic_laws.specs.Orientation.{NoFieldGivesMore, AlignedFieldGivesAsMuch}
use Rattle.gic_uniform.specs.Uniform.{uniform_volts}
use Rattle.gic_outage.specs.RightOutage.{northward_volts, eastward_volts}
use Rattle.gic_headline.specs.Directions.{HasWorstDirection, strength_asked}
use Rattle.gic_headline.specs.Solved.{HasOneSolution, AreStepsSolved}
use Rattle.gic_headline.proofs.EveryDirection.{under_everywhere}

module _ (exist : EarthedNetworksAreSolved) (agree : SolutionsAgree) (limits : ElementsAreWithinLimits) where
  -- in any network within the limits that is earthed
  pub solved_where_earthed : (network : Network) (stands : Item → Bool) → IsWithinLimits network → AreEarthed (standing_elements network stands) → (volts : ℕ → ℤ)
      → HasOneSolution (standing_elements network stands) volts
  solved_where_earthed network stands within earthed volts = record { exists = exist network stands volts within earthed; agree = agree network stands volts within earthed }

  pub one_solution : (case : Lists) → IsSound case → (rows : List Switching) → AreEarthed (standing_in case rows) → (volts : ℕ → ℤ) → HasOneSolution (standing_in case rows) volts
  one_solution case sound rows earthed volts = solved_where_earthed (elements_of case) (stands_after rows) (limits case sound) earthed volts

  pub steps_solved : (inputs : StormInputs) → IsSound inputs.case → IsMet Solved (storm_steps inputs) → AreStepsSolved inputs
  steps_solved inputs sound met number own =
      one_solution inputs.case sound (rows_in_force (time_of_step inputs.storm.rows number) (rows_in inputs.switchings))
      (solvable_at inputs number met own).earthed (storm_volts inputs number)

  -- in the field of the event that is asked for
  pub worst_direction : NoFieldGivesMore → AlignedFieldGivesAsMuch → (inputs : Inputs Criteria) → IsSound inputs.case → (network : Network) (stands : Item → Bool) → IsWithinLimits network
      → AreEarthed (standing_elements network stands) → HasWorstDirection inputs (standing_elements network stands)
  worst_direction more aligned inputs sound network stands within earthed =
      let one = solved_where_earthed network stands within earthed in
      record {
        solved = λ north east. one (uniform_volts inputs.case north east);
        none_gives_more = λ north east parts in_north in_east s t solve weaker.
            more inputs.case network stands (strength_asked inputs) north east parts in_north in_east s t within earthed solve weaker;
        aligned_gives_as_much = λ north east parts in_north in_east s t solve goes.
            aligned inputs.case network stands (strength_asked inputs) north east parts in_north in_east s t within earthed solve goes;
        under = under_everywhere more inputs sound network stands within earthed (one (northward_volts inputs)) (one (eastward_volts inputs));
      }
