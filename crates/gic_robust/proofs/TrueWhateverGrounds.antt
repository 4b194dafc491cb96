-- The verdict on a worst interval is true whatever resistances of their ranges the grounds have.
use Rattle.std.proofs.Common.{◌≡◌, ℕ, ◌*◌, ◌<◌, Bool, ℤ, arith}
use Rattle.std.proofs.lemmas.Grind.{common_steps}
use Rattle.gic_case.specs.Lists.{has_effect}
use Rattle.gic_fixed.proofs.Divisions.{positive_product}
use Rattle.gic_winding.specs.Weights.{transformer_at}
use Rattle.gic_criteria.specs.Verdict.{verdict_of}
use Rattle.gic_criteria.specs.VerdictLaws.{UndecidedIsAcross, WorstBelowIsUnder, WorstReachesIsAtLeast}
use Rattle.gic_criteria.specs.declared.criterion.Verdict.TheVariants.{Below}
use Rattle.gic_worst.specs.Rows.{ScreenRowView}
use Rattle.gic_grounds.specs.Tolerated.{Tolerated}
use Rattle.gic_robust.specs.Follows.{IsTrueWhateverGrounds}
use Rattle.gic_robust.specs.RightRobust.{IsRobustRow}

-- a transformer that a verdict calls below is assessed, so its high voltage and its denominators are above 0
rated : (lo hi : ℤ) (threshold high_volts : ℕ) (earthed : Bool) → verdict_of lo hi threshold high_volts earthed ≡ Below → 0 < high_volts
rated lo hi threshold high_volts earthed said = grind (arith, common_steps)

-- so the denominator of its current is above 0
some_denominator : (high_volts denominator : ℕ) → 0 < high_volts → 0 < denominator → 0 < 3000000 * high_volts * denominator
some_denominator high_volts denominator some = positive_product (3000000 * high_volts) denominator (omega (arith, some))

-- the verdict on the worst interval of a right row is true
pub verdict_true : UndecidedIsAcross → WorstBelowIsUnder → WorstReachesIsAtLeast
    → (v : Tolerated) (north east : ℕ → ℤ) (threshold t : ℕ) (row : ScreenRowView) → IsRobustRow v north east t row → IsTrueWhateverGrounds v north east threshold t row.worst
verdict_true across under at_least v north east threshold t row right =
    let worst = row.worst in
    let high_volts = (transformer_at v.case t).high_volts in
    let earthed = has_effect (transformer_at v.case t).kind in
    record {
      below = λ said one other varied.
          let some = rated worst.low worst.high threshold high_volts earthed said in
          under worst.low worst.high _ _ _ _ threshold high_volts earthed
          (some_denominator high_volts one.denominator some varied.in_north.denominator_above_0)
          (some_denominator high_volts other.denominator some varied.in_east.denominator_above_0)
          right.in_order said (right.at_worst one other varied);
      reaches = λ said one other varied.
          at_least worst.low worst.high _ _ _ _ threshold high_volts earthed
          said (right.at_worst one other varied);
      undecided = λ said. across worst.low worst.high threshold high_volts earthed said;
    }
