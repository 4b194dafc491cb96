-- The elements that stand at the steps of a storm.
use Rattle.std.proofs.Common.{◌≡◌, ℕ, suc, ◌-◌, ◌<◌, [], length, take, ap, sym, subst, ◌∙◌, arith}
use Rattle.std.proofs.lemmas.List.{get_or-map, length-map}
use Rattle.gic_model.specs.Network.{Network}
use Rattle.gic_model.specs.Standing.{standing_elements, stands_after}
use Rattle.gic_net.specs.Net.{standing}
use Rattle.gic_storm.specs.Steps.{steps_in, first_time}
use Rattle.gic_winding.specs.ElementList.{elements_of}
use Rattle.gic_stand.specs.Needs.{Solved, standing_at, IsMet}
use Rattle.gic_inputs.specs.Inputs.{rows_in}
use Rattle.gic_stand.specs.Standing.{IsSolvable}
use Rattle.gic_switch.specs.declared.epoch.Epoch.{Epoch}
use Rattle.gic_inputs.specs.declared.inputs.StormInputs.{StormInputs}
use Rattle.gic_course.specs.declared.switched.SwitchedNet.{SwitchedNet}
use Rattle.gic_course.specs.Epochs.{HasStep, IsEpochOf}
use Rattle.gic_course.specs.Ready.{IsSwitchedFor}
use Rattle.gic_course.specs.Steps.{IsStepOf, standing_at_time, standing_at_step, storm_steps}
use Rattle.gic_course.proofs.ItemsStand.{elements_so}

-- there are as many as the storm has steps
pub steps-length : (inputs : StormInputs) → length (storm_steps inputs) ≡ length (steps_in inputs.storm.rows)
steps-length inputs = length-map (steps_in inputs.storm.rows) (λ step. standing_at_time inputs (first_time step))

-- those at a place are those of the step whose number is one more
pub stands_at : (inputs : StormInputs) (place : ℕ) → place < length (steps_in inputs.storm.rows) → standing_at (storm_steps inputs) place ≡ standing_at_step inputs (suc place)
stands_at inputs place within =
    let back : suc place - 1 ≡ place = omega arith in
    rw back (get_or-map (λ step. standing_at_time inputs (first_time step)) (steps_in inputs.storm.rows) place [] [] within)

-- where all steps can be solved, this one can
pub solvable_at : (inputs : StormInputs) (number : ℕ) → IsMet Solved (storm_steps inputs) → IsStepOf inputs number → IsSolvable (standing_at_step inputs number)
solvable_at inputs number met step =
    let place : suc (number - 1) ≡ number = omega (arith, step.least) in
    let within : number - 1 < length (steps_in inputs.storm.rows) = omega (arith, step.least, step.most) in
    subst (λ n. IsSolvable (standing_at_step inputs n)) place
    (subst IsSolvable (stands_at inputs (number - 1) within)
    (met (number - 1) (omega (arith, within, steps-length inputs))))

-- a step of an epoch is one of the storm
pub step_in : (inputs : StormInputs) (e : Epoch) (number : ℕ) → IsEpochOf inputs e → HasStep number e → IsStepOf inputs number
step_in inputs e number own has = record {
  least = omega (arith, own.least, has.from_first);
  most = omega (arith, own.most, has.to_last);
}

-- the epoch has its first step
pub first_step : (inputs : StormInputs) (e : Epoch) → IsEpochOf inputs e → HasStep e.first e
first_step inputs e own = record { from_first = omega arith; to_last = own.some }

-- with the switchings of an epoch in force, the net is that of each of its steps
pub stands_in_epoch : (inputs : StormInputs) (now : SwitchedNet) (e : Epoch) → IsEpochOf inputs e → IsSwitchedFor inputs now → now.through ≡ e.through →
    (number : ℕ) → HasStep number e → standing now.net ≡ standing_at_step inputs number
stands_in_epoch inputs now e own switched through number has =
    let rows = rows_in inputs.switchings in
    let network = elements_of inputs.case in
    elements_so now.net rows now.through switched.stands.items ∙
    ap (λ (n : Network). standing_elements n (stands_after (take now.through rows))) switched.network ∙
    ap (λ n. standing_elements network (stands_after (take n rows))) through ∙
    ap (λ rs. standing_elements network (stands_after rs)) (sym (own.in_force number has.from_first has.to_last).first_rows)
