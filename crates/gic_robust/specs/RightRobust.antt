-- What a report of the mode has to say.
use Rattle.std.specs.Prelude.{◌≡◌, ℕ, ◌<◌, List, length, ℤ, pos, ◌≤ℤ◌}
use Rattle.gic_model.specs.Solution.{Solution}
use Rattle.gic_criteria.specs.declared.asked.RobustCriteria.{RobustCriteria}
use Rattle.gic_criteria.specs.Event.{threshold_of, field_of}
use Rattle.gic_criteria.specs.Worst.{EnclosesWorst, IsWorstOf}
use Rattle.gic_case.specs.Lists.{Lists}
use Rattle.gic_inputs.specs.declared.inputs.Inputs.{Inputs}
use Rattle.gic_text.specs.Lines.{lines_text}
use Rattle.gic_effective.specs.Weighted.{effective_numerator, effective_denominator}
use Rattle.gic_varied.specs.Varied.{IsVaried}
use Rattle.gic_uniform.specs.Uniform.{uniform_volts}
use Rattle.gic_worst.specs.Rows.{ScreenRowView, screen_row_at}
use Rattle.gic_grounds.specs.Tolerated.{Tolerated, ranges_in, own_in}
use Rattle.gic_grounds.specs.VariedCurrent.{References, AreReferences, IsVariedCurrent}
use Rattle.gic_robust.specs.RobustText.{robust_report}
use Rattle.gic_robust.specs.Steps.{tolerated_of}

-- solutions for the voltages of the field to the north and of the field to the east, each with some resistance of its range at each ground, and not always the same
pub record AreVariedSolutionsOf (v : Tolerated) (north east : ℕ → ℤ) (to_north to_east : Solution) : Type 0 where
  pub in_north : IsVaried (own_in v) (ranges_in v) north to_north
  pub in_east : IsVaried (own_in v) (ranges_in v) east to_east

-- the first two intervals hold the transformer's currents in every such solution and lie within the certified enclosures that are made of one pair of references with all grounds at their least; the third is the worst interval of the two, and holds its current for the worst orientation in every two such solutions
pub record IsRobustRow (v : Tolerated) (north east : ℕ → ℤ) (t : ℕ) (row : ScreenRowView) : Type 0 where
  pub references : References
  pub of_case : AreReferences v north east references
  pub to_north : IsVariedCurrent v north references.unit references.north t row.north
  pub to_east : IsVariedCurrent v east references.unit references.east t row.east
  pub at_worst : (one other : Solution) → AreVariedSolutionsOf v north east one other →
      EnclosesWorst row.worst.low row.worst.high (effective_numerator v.case one t) (effective_denominator v.case t one) (effective_numerator v.case other t) (effective_denominator v.case t other)
  pub worst_is : IsWorstOf row.north row.east row.worst
  pub in_order : row.worst.low ≤ℤ row.worst.high

-- one such row a transformer
pub record AreRobust (v : Tolerated) (north east : ℕ → ℤ) (rows : List ScreenRowView) : Type 0 where
  pub count : length rows ≡ length v.case.transformers
  pub right : (t : ℕ) → t < length v.case.transformers → IsRobustRow v north east t (screen_row_at rows t)

-- the text of a report of these rows
abbrev pub robust_text : Lists → RobustCriteria → List ScreenRowView → List ℕ
robust_text case asked rows =
    lines_text (robust_report case.transformers asked.criteria.width (threshold_of asked.criteria.event) (field_of asked.criteria.event) asked.tolerance rows)

-- the text is that of one such row a transformer
pub record ShowsRobustRows (v : Tolerated) (north east : ℕ → ℤ) (asked : RobustCriteria) (text : List ℕ) : Type 0 where
  pub rows : List ScreenRowView
  pub right : AreRobust v north east rows
  pub text_is : text ≡ robust_text v.case asked rows

-- with all switchings in force, in the field of the event that is asked for, to the north and to the east
abbrev pub IsRightRobust : Inputs RobustCriteria → List ℕ → Type 0
IsRightRobust inputs =
    ShowsRobustRows (tolerated_of inputs)
    (uniform_volts inputs.case (field_of inputs.question.criteria.event) (pos 0)) (uniform_volts inputs.case (pos 0) (field_of inputs.question.criteria.event)) inputs.question
