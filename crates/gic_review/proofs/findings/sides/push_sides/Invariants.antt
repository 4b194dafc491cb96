use Rattle.std.proofs.Common.{◌≡◌, ◌++◌, drop}
use Rattle.gic_review.specs.Sides.{sides_by}
use Rattle.gic_review.proofs.findings.sides.push_sides.Given as goal

-- the sides so far and those of the windings that are left are all
abbrev pub invariant-loop-winding : goal.invariant-loop-winding
invariant-loop-winding l = l.sides.items ++ sides_by l.name (drop l.winding-index l.windings) ≡ l.fn.sides.items ++ sides_by l.name l.windings
