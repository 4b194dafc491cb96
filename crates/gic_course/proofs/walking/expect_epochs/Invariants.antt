use Rattle.std.proofs.Common.{◌<◌, drop}
use Rattle.gic_net.specs.Net.{standing}
use Rattle.gic_stand.specs.Standing.{IsSolvable}
use Rattle.gic_course.specs.Ready.{CanWalk}
use Rattle.gic_course.proofs.Walked.{Walked}
use Rattle.gic_course.proofs.walking.expect_epochs.Given as goal

-- the steps of the epochs so far can be solved, and the net as it stands behind one
abbrev pub invariant-loop-place : goal.invariant-loop-place
invariant-loop-place l = record {
  walked : Walked l.inputs (drop l.place l.epochs);
  seen : 0 < l.place → IsSolvable (standing l.switched.net);
  walks : CanWalk l.inputs l.switched l.workspace;
}
