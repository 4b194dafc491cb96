use Rattle.std.proofs.Common.{ℤ, ◌≤ℤ◌, sym, subst₂}
use Rattle.gic_superpose.specs.Pairs.{row_of}
use Rattle.gic_superpose.proofs.Parts.{sums_ordered}
use Rattle.gic_superpose.proofs.compact.superpose_compact.Goals as goal

pub milli-requires-clause-ordered : goal.milli-requires-clause-ordered
milli-requires-clause-ordered c = subst₂ (λ (a b : ℤ). a ≤ℤ b) (sym c.whole.ensures.low) (sym c.whole.ensures.high) (sums_ordered c.args.fields.now (row_of c.args.row.now))
