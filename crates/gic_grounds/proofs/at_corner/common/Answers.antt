use Rattle.std.proofs.Common.{rules, ◌≡◌, to_z, of_z}
use Rattle.std.specs.Int.{w128, int_min, int_max}
use Rattle.gic_fixed.specs.Ends.{ends_of}
use Rattle.gic_grounds.proofs.CutAtCorners.{shared_told, first_told}
use Rattle.gic_grounds.proofs.at_corner.common.Goals as goal
use Rattle.gic_grounds.proofs.at_corner.common.Goals.{then-lo-hi, else-lo-hi}

-- the ends of what is shared
low_is : (c : goal.After-result-1) → to_z w128 (of_z w128 c.max-lo.result) ≡ int_max c.args.one.lo c.args.other.lo
low_is c = search (rules, c.max-lo.ensures)

high_is : (c : goal.After-result-1) → to_z w128 (of_z w128 c.min-hi.result) ≡ int_min c.args.one.hi c.args.other.hi
high_is c = search (rules, c.min-hi.ensures)

pub returns : goal.returns
returns c = elim c.if-lo-hi.branch [
  | then-lo-hi w ↦ shared_told (ends_of c.args.one) (ends_of c.args.other) _ _ c.if-lo-hi.result w.result-is (low_is c) (high_is c) w.if-lo-hi.true
  | else-lo-hi w ↦ first_told (ends_of c.args.one) (ends_of c.args.other) _ _ c.if-lo-hi.result w.result-is (low_is c) (high_is c) w.if-lo-hi.false
]
