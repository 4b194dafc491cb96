use Rattle.std.proofs.Common.{arith}
use Rattle.std.proofs.lemmas.Int.{ints, clamps}
use Rattle.gic_view.proofs.peaks.greater.Goals as goal

pub invariant_of-result : goal.invariant_of-result
invariant_of-result c = record {
  ordered = omega (arith, ints, clamps, c.args.a.ordered, c.args.b.ordered);
  within = record {
    low = omega (arith, ints, clamps, c.args.a.within.low, c.args.b.within.low);
    high = omega (arith, ints, clamps, c.args.a.within.high, c.args.b.within.high);
  };
}
