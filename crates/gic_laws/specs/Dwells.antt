-- What the lines of dwells of a study say of the exact currents of its steps.
use Rattle.std.specs.Prelude.{◌≡◌, ℕ, ◌+◌, ◌-◌, ◌<◌, ◌≤◌, ◌^◌, pos, List, [], ◌∷◌, length, count_by, codes}
use Rattle.std.specs.List.{range_with_len}
use Rattle.std.specs.Fmt.{signed_decimal}
use Rattle.gic_case.specs.Lists.{Lists}
use Rattle.gic_model.specs.Solution.{Solution}
use Rattle.gic_winding.specs.Weights.{transformer_at}
use Rattle.gic_effective.specs.Weighted.{effective_numerator, effective_denominator}
use Rattle.gic_criteria.specs.Event.{threshold_of}
use Rattle.gic_monitor.specs.Bounds.{Current, is_at_least}
use Rattle.gic_monitor.specs.DwellText.{dwell_text}
use Rattle.gic_storm.specs.Steps.{steps_in}
use Rattle.gic_inputs.specs.declared.inputs.StormInputs.{StormInputs}
use Rattle.gic_laws.specs.Printed.{HasTrueLines, PrintsTrue, width_asked}

-- the transformer's signed effective current in a solution, in mA per phase
abbrev pub effective_current : Lists → Solution → (t : ℕ) → Current
effective_current case s t = record { numerator = effective_numerator case s t; denominator = effective_denominator case t s }

-- at how many steps of the storm the transformer's absolute effective current is this many mA per phase or more, by a solution of each step
abbrev pub steps_at_least : StormInputs → (solutions : ℕ → Solution) → (t milliamperes : ℕ) → ℕ
steps_at_least inputs solutions t milliamperes =
    count_by (λ number. is_at_least milliamperes (effective_current inputs.case (solutions number) t)) (range_with_len 1 (length (steps_in inputs.storm.rows)))

-- the storm has fewer steps than a count can tell
abbrev pub HasFewSteps : StormInputs → Type 0
HasFewSteps inputs = length (steps_in inputs.storm.rows) < 2 ^ 64

-- the threshold of the event that is asked for, in mA per phase
abbrev pub storm_threshold : StormInputs → ℕ
storm_threshold inputs = threshold_of inputs.question.event

-- the line has the transformer's name and two counts. Its absolute effective current is the threshold or more at no fewer steps than the first one and at no more than the second one; the first one is no less than the steps at which it is the threshold and a width or more, and the second one no more than those at which it is the threshold less a width or more
pub record IsTrueDwell (inputs : StormInputs) (solutions : ℕ → Solution) (t : ℕ) (line : List (List ℕ)) : Type 0 where
  pub certain : ℕ
  pub possible : ℕ
  pub line_is : line ≡ codes "dwell" ∷ (transformer_at inputs.case t).name ∷ signed_decimal (pos certain) ∷ signed_decimal (pos possible) ∷ []
  pub fewest : certain ≤ steps_at_least inputs solutions t (storm_threshold inputs)
  pub most : HasFewSteps inputs → steps_at_least inputs solutions t (storm_threshold inputs) ≤ possible
  pub certain_near : HasFewSteps inputs → steps_at_least inputs solutions t (storm_threshold inputs + width_asked inputs) ≤ certain
  pub possible_near : possible ≤ steps_at_least inputs solutions t (storm_threshold inputs - width_asked inputs)

-- a monitor of dwells prints such a line for each transformer of the case, in order
abbrev pub DwellsAreTrue : Type 0
DwellsAreTrue = PrintsTrue dwell_text (λ inputs solutions. HasTrueLines (length inputs.case.transformers) (IsTrueDwell inputs solutions))
