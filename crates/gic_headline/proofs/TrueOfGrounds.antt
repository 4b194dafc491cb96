-- What is true of the report of `robust`, whatever resistances of their ranges the grounds have.
use Rattle.std.proofs.Common.{ℕ, Bool, List, ℤ, pos, arith}
use Rattle.gic_case.specs.Sound.{IsSound}
use Rattle.gic_exists.specs.Exists.{EarthedNetworksAreSolved, SolutionsAgree}
use Rattle.gic_model.specs.declared.parts.Element.{Element}
use Rattle.gic_model.specs.declared.parts.Item.{Item}
use Rattle.gic_model.specs.Earthing.{AreEarthed}
use Rattle.gic_model.specs.Network.{Network}
use Rattle.gic_model.specs.Solution.{Solution, IsSolution}
use Rattle.gic_model.specs.Standing.{stands_after}
use Rattle.gic_varied.specs.EachGround.{StandingGroundsAreInRanges, AnyGroundsStayWithinLimits, NetworksAreEarthedAlike}
use Rattle.gic_varied.specs.Grounds.{with_grounds}
use Rattle.gic_varied.specs.Ranges.{Ranges}
use Rattle.gic_varied.specs.Varied.{IsVaried}
use Rattle.gic_varied.specs.VariedLaws.{SolutionsAreVaried}
use Rattle.gic_winding.specs.Degrees.{ElementsAreWithinLimits}
use Rattle.gic_winding.specs.ElementList.{elements_of}
use Rattle.gic_criteria.specs.Event.{field_of, threshold_of}
use Rattle.gic_criteria.specs.declared.asked.RobustCriteria.{RobustCriteria}
use Rattle.gic_inputs.specs.Inputs.{rows_in}
use Rattle.gic_inputs.specs.declared.inputs.Inputs.{Inputs}
use Rattle.gic_stand.specs.Needs.{Solved, IsMet}
use Rattle.gic_stand.specs.Standing.{IsSolvable}
use Rattle.gic_uniform.specs.Uniform.{uniform_field, uniform_volts}
use Rattle.gic_worst.specs.RightRows.{AreSolutionsOf}
use Rattle.gic_worst.specs.Rows.{ScreenRowView, screen_row_at}
use Rattle.gic_grounds.specs.Tolerances.{tolerance_at}
use Rattle.gic_grounds.specs.Tolerated.{own_in, most_in, ranges_in}
use Rattle.gic_outage.specs.RightOutage.{northward_volts, eastward_volts}
use Rattle.gic_robust.specs.Follows.{IsTrueWhateverGrounds, RobustVerdictsAreTrue}
use Rattle.gic_robust.specs.RightRobust.{AreVariedSolutionsOf, IsRobustRow, IsRightRobust}
use Rattle.gic_robust.specs.Steps.{most_steps, tolerated_of}
use Rattle.gic_robust.proofs.GroundVolts.{no_ground_volts}
use Rattle.gic_laws.specs.Orientation.{NoFieldGivesMore, AlignedFieldGivesAsMuch}
use Rattle.gic_headline.specs.Grounds.{screened, AreGroundsOf, standing_with, IsTrueRow, AreTrueWith}
use Rattle.gic_headline.specs.TrueReports.{IsTrueRobust}
use Rattle.gic_headline.proofs.OneSolution.{worst_direction}

-- the theorems on networks with other grounds
pub record GroundTheorems : Type 0 where
  pub varied : SolutionsAreVaried
  pub in_ranges : StandingGroundsAreInRanges
  pub limits : AnyGroundsStayWithinLimits
  pub alike : NetworksAreEarthedAlike

module _ (law : GroundTheorems) (inputs : Inputs RobustCriteria) (ohm : Element → ℕ) (inside : AreGroundsOf inputs ohm) where
  abbrev network : Network
  network = elements_of inputs.case

  abbrev stands : Item → Bool
  stands = stands_after (rows_in inputs.switchings)

  abbrev ranges : Ranges
  ranges = ranges_in (tolerated_of inputs)

  -- the strength of the event's field
  abbrev strength : ℤ
  strength = field_of inputs.question.criteria.event

  -- a solution with these resistances is a varied one
  varied_one : (north east : ℤ) (s : Solution) → IsSolution (standing_with inputs ohm) (uniform_volts inputs.case north east) s
      → IsVaried (own_in (tolerated_of inputs)) ranges (uniform_volts inputs.case north east) s
  varied_one north east s solves =
      law.varied network stands ranges ohm (uniform_volts inputs.case north east) s (law.in_ranges network stands ranges ohm inside)
      (no_ground_volts inputs.case (uniform_field inputs.case north east) stands) solves

  both_varied : (one other : Solution) → AreSolutionsOf (standing_with inputs ohm) (northward_volts (screened inputs)) (eastward_volts (screened inputs)) one other
      → AreVariedSolutionsOf (tolerated_of inputs) (northward_volts (screened inputs)) (eastward_volts (screened inputs)) one other
  both_varied one other solve = record {
    in_north = varied_one strength (pos 0) one solve.in_north;
    in_east = varied_one (pos 0) strength other solve.in_east;
  }

  true_row : (t : ℕ) (row : ScreenRowView) → IsRobustRow (tolerated_of inputs) (northward_volts (screened inputs)) (eastward_volts (screened inputs)) t row
      → IsTrueWhateverGrounds (tolerated_of inputs) (northward_volts (screened inputs)) (eastward_volts (screened inputs)) (threshold_of inputs.question.criteria.event) t row.worst
      → IsTrueRow inputs ohm t row
  true_row t row right said = record {
    to_north = λ s solves. right.to_north.holds s (varied_one strength (pos 0) s solves);
    to_east = λ s solves. right.to_east.holds s (varied_one (pos 0) strength s solves);
    verdict = record {
      below = λ is one other solve. said.below is one other (both_varied one other solve);
      reaches = λ is one other solve. said.reaches is one other (both_varied one other solve);
      undecided = said.undecided;
    };
  }

  earthed_with : IsMet Solved (most_steps inputs) → AreEarthed (standing_with inputs ohm)
  earthed_with met =
      let most : IsSolvable (most_in (tolerated_of inputs)) = met 0 (omega arith) in
      law.alike network stands (λ e. (ranges e).most) ohm most.earthed

  true_with : EarthedNetworksAreSolved → SolutionsAgree → ElementsAreWithinLimits → NoFieldGivesMore → AlignedFieldGivesAsMuch → RobustVerdictsAreTrue
      → (text : List ℕ) → IsSound inputs.case → IsMet Solved (most_steps inputs) → (right : IsRightRobust inputs text) → AreTrueWith inputs right.rows ohm
  true_with exist agree limits more aligned verdicts text sound met right = record {
    each = λ t within. true_row t (screen_row_at right.rows t) (right.right.right t within) (verdicts (tolerated_of inputs) _ _ inputs.question text right t within);
    directions =
        worst_direction exist agree limits more aligned (screened inputs) sound (with_grounds ohm network) stands
        (law.limits network (tolerance_at inputs.case inputs.question.tolerance) ohm (limits inputs.case sound) inside) (earthed_with met);
  }

pub true_robust : EarthedNetworksAreSolved → SolutionsAgree → ElementsAreWithinLimits → NoFieldGivesMore → AlignedFieldGivesAsMuch → RobustVerdictsAreTrue → GroundTheorems
    → (inputs : Inputs RobustCriteria) (text : List ℕ) → IsSound inputs.case → IsMet Solved (most_steps inputs) → IsRightRobust inputs text → IsTrueRobust inputs text
true_robust exist agree limits more aligned verdicts law inputs text sound met right = record {
  report = right;
  verdicts = λ t within. verdicts (tolerated_of inputs) _ _ inputs.question text right t within;
  whatever_grounds = λ ohm inside. true_with law inputs ohm inside exist agree limits more aligned verdicts text sound met right;
}
