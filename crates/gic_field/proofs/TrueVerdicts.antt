-- The verdicts of a right view are true of every solution.
use Rattle.std.proofs.Common.{◌≡◌, ℕ, ◌+◌, ◌-◌, ◌*◌, ◌<◌, ◌≤◌, Bool, List, length, ℤ, pos, ◌*ℤ◌, ◌<ℤ◌, ◌≤ℤ◌, unsigned_abs, arith}
use Rattle.std.proofs.lemmas.Grind.{common_steps}
use Rattle.std.proofs.lemmas.Int.{ints, clamps}
use Rattle.gic_fixed.proofs.Divisions.{positive_product}
use Rattle.gic_fixed.proofs.Enclosures.{Encloses-abs, ≤ℤ-times}
use Rattle.gic_fixed.specs.Encloses.{EnclosesAbsolute}
use Rattle.gic_fixed.specs.Ends.{IsAtMostWide}
use Rattle.gic_fixed.specs.Rounding.{least_abs, greatest_abs}
use Rattle.gic_case.specs.Lists.{Lists, has_effect}
use Rattle.gic_model.specs.Solution.{Solution, IsSolution}
use Rattle.gic_model.specs.Sums.{Placed}
use Rattle.gic_view.specs.View.{View, effective_at}
use Rattle.gic_winding.specs.Weights.{transformer_at}
use Rattle.gic_effective.specs.Narrow.{IsNarrowView}
use Rattle.gic_effective.specs.RightView.{IsRightView}
use Rattle.gic_effective.specs.Weighted.{effective_numerator, effective_denominator}
use Rattle.gic_criteria.proofs.Judged.{under_end}
use Rattle.gic_criteria.specs.Verdict.{verdict_of}
use Rattle.gic_criteria.specs.declared.criterion.Verdict.TheVariants.{Below, Undecided}
use Rattle.gic_criteria.specs.VerdictLaws.{BelowIsUnder, ReachesIsAtLeast, UndecidedIsAcross}
use Rattle.gic_effective.specs.Threshold.{IsAtLeast, IsUnder}
use Rattle.gic_report.proofs.Absolutes.{absolute_narrow}
use Rattle.gic_report.specs.VerdictText.{verdict_at}
use Rattle.gic_field.specs.Follows.{AreTrueVerdicts, AreRightAbsolutes}

-- the absolute interval of a right view holds the transformer's absolute effective current
absolute_holds : (case : Lists) (standing : List Placed) (volts : ℕ → ℤ) (view : View) (t : ℕ) (s : Solution)
    → IsRightView case standing volts view → t < length case.transformers → IsSolution standing volts s
    → EnclosesAbsolute (least_abs (effective_at view t).low (effective_at view t).high) (greatest_abs (effective_at view t).low (effective_at view t).high)
    (effective_numerator case s t) (effective_denominator case t s)
absolute_holds case standing volts view t s right within solves =
    Encloses-abs (effective_at view t).low (effective_at view t).high (effective_numerator case s t) (effective_denominator case t s)
    ((right.effective t within).holds s solves)

-- a transformer that a verdict calls below is assessed, so its high voltage and its denominators are above 0
rated : (lo hi : ℤ) (threshold high_volts : ℕ) (earthed : Bool) → verdict_of lo hi threshold high_volts earthed ≡ Below → 0 < high_volts
rated lo hi threshold high_volts earthed said = grind (arith, common_steps)

some_denominator : (high_volts denominator : ℕ) → 0 < high_volts → 0 < denominator → 0 < 3000000 * high_volts * denominator
some_denominator high_volts denominator some = positive_product (3000000 * high_volts) denominator (omega (arith, some))

pub true_verdicts : (case : Lists) (standing : List Placed) (volts : ℕ → ℤ) (threshold : ℕ) (view : View)
    → BelowIsUnder → ReachesIsAtLeast → UndecidedIsAcross
    → IsRightView case standing volts view
    → AreTrueVerdicts case standing volts threshold view
true_verdicts case standing volts threshold view below reaches undecided right =
    let lo : ℕ → ℤ = λ t. least_abs (effective_at view t).low (effective_at view t).high in
    let hi : ℕ → ℤ = λ t. greatest_abs (effective_at view t).low (effective_at view t).high in
    let held : (t : ℕ) → t < length case.transformers → (s : Solution) → IsSolution standing volts s → EnclosesAbsolute (lo t) (hi t) (effective_numerator case s t) (effective_denominator case t s) =
    λ t within s solves. absolute_holds case standing volts view t s right within solves in
    record {
      below = λ t within verdict s solves.
          let high_volts = (transformer_at case t).high_volts in
          let earthed = has_effect (transformer_at case t).kind in
          below (lo t) (hi t) (effective_numerator case s t) (effective_denominator case t s) threshold high_volts earthed
          (some_denominator high_volts s.denominator (rated (lo t) (hi t) threshold high_volts earthed verdict) solves.denominator_above_0)
          verdict (held t within s solves).below_hi;
      reaches = λ t within verdict s solves.
          reaches (lo t) (hi t) (effective_numerator case s t) (effective_denominator case t s) threshold (transformer_at case t).high_volts (has_effect (transformer_at case t).kind)
          verdict (held t within s solves).above_lo;
      undecided = λ t within verdict.
          undecided (lo t) (hi t) threshold (transformer_at case t).high_volts (has_effect (transformer_at case t).kind) verdict;
    }

pub right_absolutes : (case : Lists) (standing : List Placed) (volts : ℕ → ℤ) (width : ℕ) (view : View)
    → IsRightView case standing volts view → IsNarrowView case width view
    → AreRightAbsolutes case standing volts width view
right_absolutes case standing volts width view right narrow = record {
  hold = λ t within s solves. absolute_holds case standing volts view t s right within solves;
  narrow = λ t within. absolute_narrow (effective_at view t).low (effective_at view t).high width (narrow.effective t within);
}

-- an absolute interval across a threshold that is no wider than this begins and ends within one width of it
begins_near : (lo hi : ℤ) (threshold width : ℕ) → pos threshold ≤ℤ greatest_abs lo hi → IsAtMostWide width (least_abs lo hi) (greatest_abs lo hi) → pos (threshold - width) ≤ℤ least_abs lo hi
begins_near lo hi threshold width across narrow = omega (arith, ints, clamps, across, narrow)

ends_near : (lo hi : ℤ) (threshold width : ℕ) → lo <ℤ pos threshold → IsAtMostWide width lo hi → hi <ℤ pos (threshold + width)
ends_near lo hi threshold width across narrow = omega (arith, ints, across, narrow)

-- a current that is no less than an end is no less than what that end is no less than
no_less : (lo : ℤ) (n d least : ℕ) → pos least ≤ℤ lo → (lo *ℤ pos d) ≤ℤ pos n → least * d ≤ n
no_less lo n d least begins holds = let times = ≤ℤ-times (pos least) lo d begins in omega (arith, ints, times, holds)

-- a transformer that a verdict calls undecided is assessed too
rated_too : (lo hi : ℤ) (threshold high_volts : ℕ) (earthed : Bool) → verdict_of lo hi threshold high_volts earthed ≡ Undecided → 0 < high_volts
rated_too lo hi threshold high_volts earthed said = grind (arith, common_steps)

pub undecided_near : (case : Lists) (standing : List Placed) (volts : ℕ → ℤ) (threshold width : ℕ) (view : View)
    → UndecidedIsAcross → IsRightView case standing volts view → IsNarrowView case width view
    → (t : ℕ) → t < length case.transformers → verdict_at case threshold view t ≡ Undecided → (s : Solution) → IsSolution standing volts s
    → IsAtLeast case (threshold - width) t s × IsUnder case (threshold + width) t s
undecided_near case standing volts threshold width view undecided right narrow t within verdict s solves =
    let e = effective_at view t in
    let lo = least_abs e.low e.high in
    let hi = greatest_abs e.low e.high in
    let n = effective_numerator case s t in
    let d = effective_denominator case t s in
    let high_volts = (transformer_at case t).high_volts in
    let earthed = has_effect (transformer_at case t).kind in
    let across = undecided lo hi threshold high_volts earthed verdict in
    let wide = absolute_narrow e.low e.high width (narrow.effective t within) in
    let held = absolute_holds case standing volts view t s right within solves in (
      no_less lo (unsigned_abs n) d (threshold - width) (begins_near e.low e.high threshold width across.1 wide) held.above_lo,
      under_end hi (unsigned_abs n) d (threshold + width) (some_denominator high_volts s.denominator (rated_too lo hi threshold high_volts earthed verdict) solves.denominator_above_0)
          (ends_near lo hi threshold width across.0 wide) held.below_hi,
    )
