-- The verdict on a right worst interval is true.
use Rattle.std.proofs.Common.{◌≡◌, ℕ, ◌+◌, ◌-◌, ◌*◌, ◌<◌, Bool, List, ℤ, pos, ◌<ℤ◌, ◌≤ℤ◌, arith}
use Rattle.std.proofs.lemmas.Int.{ints}
use Rattle.std.proofs.lemmas.Grind.{common_steps}
use Rattle.gic_case.specs.Lists.{Lists, has_effect}
use Rattle.gic_fixed.proofs.Divisions.{positive_product}
use Rattle.gic_fixed.specs.Ends.{Ends, IsAtMostWide}
use Rattle.gic_model.specs.Sums.{Placed}
use Rattle.gic_winding.specs.Weights.{transformer_at}
use Rattle.gic_criteria.proofs.Judged.{worst_under, worst_at_least}
use Rattle.gic_criteria.specs.Verdict.{verdict_of}
use Rattle.gic_criteria.specs.VerdictLaws.{UndecidedIsAcross, WorstBelowIsUnder, WorstReachesIsAtLeast}
use Rattle.gic_criteria.specs.declared.criterion.Verdict.TheVariants.{Below, Undecided}
use Rattle.gic_worst.specs.RightRows.{IsRightWorst, IsTrueVerdict, IsWorstUnder, IsWorstAtLeast, worst_verdict_at}

-- a transformer that a verdict calls below is assessed, so its high voltage and its denominators are above 0
rated : (lo hi : ℤ) (threshold high_volts : ℕ) (earthed : Bool) → verdict_of lo hi threshold high_volts earthed ≡ Below → 0 < high_volts
rated lo hi threshold high_volts earthed said = grind (arith, common_steps)

some_denominator : (high_volts denominator : ℕ) → 0 < high_volts → 0 < denominator → 0 < 3000000 * high_volts * denominator
some_denominator high_volts denominator some = positive_product (3000000 * high_volts) denominator (omega (arith, some))

pub verdict_true : UndecidedIsAcross → WorstBelowIsUnder → WorstReachesIsAtLeast → (case : Lists) (standing : List Placed) (north east : ℕ → ℤ) (threshold width t : ℕ) (worst : Ends)
    → IsRightWorst case standing north east width t worst → IsTrueVerdict case standing north east threshold t worst
verdict_true across under at_least case standing north east threshold width t worst right =
    let high_volts = (transformer_at case t).high_volts in
    let earthed = has_effect (transformer_at case t).kind in
    record {
      below = λ said one other solves.
          let some = rated worst.low worst.high threshold high_volts earthed said in
          under worst.low worst.high _ _ _ _ threshold high_volts earthed
          (some_denominator high_volts one.denominator some solves.in_north.denominator_above_0) (some_denominator high_volts other.denominator some solves.in_east.denominator_above_0)
          right.in_order said (right.holds one other solves);
      reaches = λ said one other solves.
          at_least worst.low worst.high _ _ _ _ threshold high_volts earthed
          said (right.holds one other solves);
      undecided = λ said. across worst.low worst.high threshold high_volts earthed said;
    }

-- an interval across a threshold that is no wider than this begins and ends within one width of it
begins_near : (lo hi : ℤ) (threshold width : ℕ) → pos 0 ≤ℤ lo → pos threshold ≤ℤ hi → IsAtMostWide width lo hi → pos (threshold - width) ≤ℤ lo
begins_near lo hi threshold width sign across narrow = omega (arith, ints, sign, across, narrow)

ends_near : (lo hi : ℤ) (threshold width : ℕ) → lo <ℤ pos threshold → IsAtMostWide width lo hi → hi <ℤ pos (threshold + width)
ends_near lo hi threshold width across narrow = omega (arith, ints, across, narrow)

-- a transformer that a verdict calls undecided is assessed too
rated_too : (lo hi : ℤ) (threshold high_volts : ℕ) (earthed : Bool) → verdict_of lo hi threshold high_volts earthed ≡ Undecided → 0 < high_volts
rated_too lo hi threshold high_volts earthed said = grind (arith, common_steps)

pub undecided_near : UndecidedIsAcross → (case : Lists) (standing : List Placed) (north east : ℕ → ℤ) (threshold width t : ℕ) (worst : Ends)
    → IsRightWorst case standing north east width t worst → worst_verdict_at case threshold t worst ≡ Undecided
    → IsWorstAtLeast case standing north east (threshold - width) t × IsWorstUnder case standing north east (threshold + width) t
undecided_near across case standing north east threshold width t worst right said =
    let high_volts = (transformer_at case t).high_volts in
    let earthed = has_effect (transformer_at case t).kind in
    let ends = across worst.low worst.high threshold high_volts earthed said in
    let some = rated_too worst.low worst.high threshold high_volts earthed said in (
      λ one other solves. let holds = right.holds one other solves in
          worst_at_least worst.low worst.high _ _ _ _ (threshold - width)
          (begins_near worst.low worst.high threshold width holds.not_negative ends.1 right.narrow) holds,
      λ one other solves.
          worst_under worst.low worst.high _ _ _ _ (threshold + width)
          (some_denominator high_volts one.denominator some solves.in_north.denominator_above_0) (some_denominator high_volts other.denominator some solves.in_east.denominator_above_0)
          right.in_order (ends_near worst.low worst.high threshold width ends.0 right.narrow) (right.holds one other solves),
    )
