-- What follows of a right report of one field.
use Rattle.std.specs.Prelude.{◌≡◌, ℕ, ◌+◌, ◌-◌, ◌<◌, List, length, ℤ}
use Rattle.gic_case.specs.Lists.{Lists}
use Rattle.gic_fixed.specs.Encloses.{EnclosesAbsolute}
use Rattle.gic_fixed.specs.Ends.{IsAtMostWide}
use Rattle.gic_model.specs.Solution.{Solution, IsSolution}
use Rattle.gic_model.specs.Sums.{Placed}
use Rattle.gic_view.specs.Absolute.{absolute_ends}
use Rattle.gic_view.specs.View.{View, effective_at}
use Rattle.gic_effective.specs.Threshold.{IsAtLeast, IsUnder}
use Rattle.gic_effective.specs.Weighted.{effective_numerator, effective_denominator}
use Rattle.gic_criteria.specs.declared.asked.Question.{Question}
use Rattle.gic_criteria.specs.Event.{threshold_of}
use Rattle.gic_criteria.specs.declared.criterion.Verdict.TheVariants.{Below, Reaches, Undecided}
use Rattle.gic_report.specs.VerdictText.{IsAcross, verdict_at}
use Rattle.gic_field.specs.RightField.{ShowsRightView}

-- the absolute interval of each transformer holds its absolute effective current in every solution, and is no wider than asked
pub record AreRightAbsolutes (case : Lists) (standing : List Placed) (volts : ℕ → ℤ) (width : ℕ) (view : View) : Type 0 where
  pub hold : (t : ℕ) → t < length case.transformers → (s : Solution) → IsSolution standing volts s →
      EnclosesAbsolute (absolute_ends (effective_at view t)).low (absolute_ends (effective_at view t)).high (effective_numerator case s t) (effective_denominator case t s)
  pub narrow : (t : ℕ) → t < length case.transformers → IsAtMostWide width (absolute_ends (effective_at view t)).low (absolute_ends (effective_at view t)).high

-- what the verdicts of a view say of the transformers is true of every solution
pub record AreTrueVerdicts (case : Lists) (standing : List Placed) (volts : ℕ → ℤ) (threshold : ℕ) (view : View) : Type 0 where
  pub below : (t : ℕ) → t < length case.transformers → verdict_at case threshold view t ≡ Below →
      (s : Solution) → IsSolution standing volts s → IsUnder case threshold t s
  pub reaches : (t : ℕ) → t < length case.transformers → verdict_at case threshold view t ≡ Reaches →
      (s : Solution) → IsSolution standing volts s → IsAtLeast case threshold t s
  pub undecided : (t : ℕ) → t < length case.transformers → verdict_at case threshold view t ≡ Undecided →
      IsAcross threshold (absolute_ends (effective_at view t))

-- the absolute intervals of a right report are right
abbrev pub AbsolutesAreRight : Type 0
AbsolutesAreRight = (case : Lists) (standing : List Placed) (volts : ℕ → ℤ) (q : Question) (text : List ℕ) (report : ShowsRightView case standing volts q text) →
    AreRightAbsolutes case standing volts q.criteria.width report.view

-- the verdicts of a right report are true
abbrev pub FieldVerdictsAreTrue : Type 0
FieldVerdictsAreTrue = (case : Lists) (standing : List Placed) (volts : ℕ → ℤ) (q : Question) (text : List ℕ) (report : ShowsRightView case standing volts q text) →
    AreTrueVerdicts case standing volts (threshold_of q.criteria.event) report.view

-- a right report tells a transformer undecided only where its absolute effective current is within one width of the threshold in every solution: not under it less the width, and under it with the width added
abbrev pub UndecidedIsNearThreshold : Type 0
UndecidedIsNearThreshold = (case : Lists) (standing : List Placed) (volts : ℕ → ℤ) (q : Question) (text : List ℕ) (report : ShowsRightView case standing volts q text) →
    (t : ℕ) → t < length case.transformers → verdict_at case (threshold_of q.criteria.event) report.view t ≡ Undecided → (s : Solution) → IsSolution standing volts s →
    IsAtLeast case (threshold_of q.criteria.event - q.criteria.width) t s × IsUnder case (threshold_of q.criteria.event + q.criteria.width) t s
