use Rattle.std.proofs.Common.{arith}
use Rattle.std.proofs.lemmas.Int.{ints, clamps}
use Rattle.gic_view.proofs.PeakSteps.{same_ends}
use Rattle.gic_view.proofs.peaks.absolute.Goals as goal

pub invariant_of-result : goal.invariant_of-result
invariant_of-result c = record {
  ordered = omega (arith, ints, clamps, c.args.kept.ordered);
  within = record {
    low = omega (arith, ints, clamps, c.args.kept.within.low, c.args.kept.within.high);
    high = omega (arith, ints, clamps, c.args.kept.within.low, c.args.kept.within.high);
  };
}

pub returns : goal.returns
returns c = same_ends _ _ _ _ (omega (arith, ints, clamps)) (omega (arith, ints, clamps))
