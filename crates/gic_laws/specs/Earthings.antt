-- What the lines of earthings of a study say of the exact currents of its steps.
use Rattle.std.specs.Prelude.{◌≡◌, ℕ, ◌*◌, pos, ◌+ℤ◌, ◌-ℤ◌, ◌*ℤ◌, ◌≤ℤ◌, List, length, slice_get, Option, None, Some, IsTrue}
use Rattle.gic_fixed.specs.Encloses.{Encloses}
use Rattle.gic_fixed.specs.Ends.{Ends}
use Rattle.gic_model.specs.declared.parts.Element.{Element}
use Rattle.gic_model.specs.Solution.{Solution}
use Rattle.gic_model.specs.Standing.{is_standing}
use Rattle.gic_winding.specs.ElementList.{earthings_of, elements_of, item_name}
use Rattle.gic_monitor.specs.EarthText.{earth_line, earth_text}
use Rattle.gic_inputs.specs.declared.inputs.StormInputs.{StormInputs}
use Rattle.gic_course.specs.Steps.{IsStepOf, standing_at_step}
use Rattle.gic_laws.specs.Printed.{HasTrueLines, PrintsTrue, width_asked}

-- the element at a place stands at this step of the storm
pub record StandsAt (inputs : StormInputs) (place number : ℕ) : Type 0 where
  pub own : IsStepOf inputs number
  pub stands : IsTrue (is_standing (standing_at_step inputs number) place)

-- the current in mA at each step at which the element stands lies within the range, and at one of these it is no more than the width asked above the low end, at one no more below the high end
pub record IsTrueRange (inputs : StormInputs) (solutions : ℕ → Solution) (place : ℕ) (range : Ends) : Type 0 where
  pub holds : (number : ℕ) → StandsAt inputs place number → Encloses range.low range.high ((solutions number).current place) (1000000 * (solutions number).denominator)
  pub near_low : (number : ℕ) × StandsAt inputs place number
      × ((solutions number).current place ≤ℤ ((range.low +ℤ pos (width_asked inputs)) *ℤ pos (1000000 * (solutions number).denominator)))
  pub near_high : (number : ℕ) × StandsAt inputs place number
      × (((range.high -ℤ pos (width_asked inputs)) *ℤ pos (1000000 * (solutions number).denominator)) ≤ℤ (solutions number).current place)

-- there is a range exactly where the element stands at a step
abbrev pub IsTrueRangeIfAny : StormInputs → (solutions : ℕ → Solution) → (place : ℕ) → Option Ends → Type 0
IsTrueRangeIfAny inputs solutions place None = (number : ℕ) → StandsAt inputs place number → ⊥
IsTrueRangeIfAny inputs solutions place (Some range) = IsTrueRange inputs solutions place range

-- the line has the name of the earthing at this place among the elements, and its range, or `open` where there is none
pub record IsTrueEarthing (inputs : StormInputs) (solutions : ℕ → Solution) (place : ℕ) (line : List (List ℕ)) : Type 0 where
  pub earthing : Element
  pub own : slice_get (elements_of inputs.case).list place ≡ Some earthing
  pub range : Option Ends
  pub line_is : line ≡ earth_line (item_name inputs.case earthing.item) range
  pub is_true : IsTrueRangeIfAny inputs solutions place range

-- a monitor of earthings prints such a line for each earthing of the case, in order: the earthings are its first elements
abbrev pub EarthingsAreTrue : Type 0
EarthingsAreTrue = PrintsTrue earth_text (λ inputs solutions. HasTrueLines (length (earthings_of inputs.case)) (IsTrueEarthing inputs solutions))
