use Rattle.std.proofs.Common.{◌≡◌, length}
use Rattle.gic_case_reader.specs.Sides.{sides_differ}
use Rattle.gic_case_reader.proofs.side.sides_differ.Given as goal

-- the windings that are left decide
abbrev pub invariant-loop-winding : goal.invariant-loop-winding
invariant-loop-winding l = sides_differ l.windings ≡ sides_differ l.left

abbrev pub decreases-loop-winding : goal.decreases-loop-winding
decreases-loop-winding l = length l.left
