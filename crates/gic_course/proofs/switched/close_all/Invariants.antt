use Rattle.std.proofs.Common.{◌≡◌, take}
use Rattle.gic_course.specs.Switched.{closed_after}
use Rattle.gic_course.proofs.switched.close_all.Given as goal

-- what the rows so far name was closed
abbrev pub invariant-loop-row : goal.invariant-loop-row
invariant-loop-row l = l.net ≡ closed_after l.fn.net (take l.row-index l.rows)
