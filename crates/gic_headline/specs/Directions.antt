-- The worst direction of an event's field over a network.
use Rattle.std.specs.Prelude.{◌≡◌, ℕ, ◌+◌, ◌*◌, ◌<◌, ◌≤◌, List, length, ℤ, pos, ◌*ℤ◌}
use Rattle.gic_model.specs.Solution.{Solution, IsSolution}
use Rattle.gic_model.specs.Sums.{Placed}
use Rattle.gic_effective.specs.Threshold.{IsUnder}
use Rattle.gic_criteria.specs.Event.{field_of}
use Rattle.gic_criteria.specs.Worst.{square_of}
use Rattle.gic_criteria.specs.declared.asked.Criteria.{Criteria}
use Rattle.gic_inputs.specs.declared.inputs.Inputs.{Inputs}
use Rattle.gic_uniform.specs.Uniform.{uniform_volts}
use Rattle.gic_worst.specs.RightRows.{IsWorstUnder}
use Rattle.gic_outage.specs.RightOutage.{northward_volts, eastward_volts}
use Rattle.gic_laws.specs.Orientation.{AreSolutions, times, north_current, east_current, current_squared, worst_squared}
use Rattle.gic_headline.specs.Solved.{HasOneSolution}

-- the strength of the field of the event that is asked for, in mV/km
abbrev pub strength_asked : Inputs Criteria → ℤ
strength_asked inputs = field_of inputs.question.event

-- in every field of at most the event's strength, whatever its direction, the transformer's absolute effective current is under the threshold in mA per phase, whatever solves the network. The parts of the field are any rational numbers of mV/km: (north/parts, east/parts)
abbrev pub IsUnderInEveryDirection : Inputs Criteria → List Placed → (threshold t : ℕ) → Type 0
IsUnderInEveryDirection inputs standing threshold t = (north east : ℤ) (parts : ℕ) (s : Solution) → 0 < parts →
    square_of north + square_of east ≤ square_of (strength_asked inputs *ℤ pos parts) →
    IsSolution standing (uniform_volts inputs.case north east) (times parts s) → IsUnder inputs.case threshold t s

-- in each field of whole parts a solution exists, and any two agree (`HasOneSolution`). No field of at most the event's strength, whatever its direction, gives a transformer more than its worst current; a field whose parts are in proportion to the transformer's two currents gives as much, in proportion to the field's strength.
-- So where its worst current is under a threshold, its current is in each of these fields. All parts of fields are rational numbers: in the worst direction none of exactly the event's strength need exist
pub record HasWorstDirection (inputs : Inputs Criteria) (standing : List Placed) : Type 0 where
  pub solved : (north east : ℤ) → HasOneSolution standing (uniform_volts inputs.case north east)
  pub none_gives_more : (north east : ℤ) (parts : ℕ) (in_north in_east s : Solution) (t : ℕ) →
      AreSolutions inputs.case standing (strength_asked inputs) north east parts in_north in_east s →
      square_of north + square_of east ≤ square_of (strength_asked inputs *ℤ pos parts) →
      current_squared inputs.case t in_north in_east s ≤ worst_squared inputs.case t in_north in_east s
  pub aligned_gives_as_much : (north east : ℤ) (parts : ℕ) (in_north in_east s : Solution) (t : ℕ) →
      AreSolutions inputs.case standing (strength_asked inputs) north east parts in_north in_east s →
      north *ℤ east_current inputs.case t in_north in_east ≡ east *ℤ north_current inputs.case t in_north in_east →
      square_of (strength_asked inputs *ℤ pos parts) * current_squared inputs.case t in_north in_east s
      ≡ (square_of north + square_of east) * worst_squared inputs.case t in_north in_east s
  pub under : (threshold t : ℕ) → t < length inputs.case.transformers →
      IsWorstUnder inputs.case standing (northward_volts inputs) (eastward_volts inputs) threshold t → IsUnderInEveryDirection inputs standing threshold t
