use Rattle.std.proofs.Common.{map}
use Rattle.gic_course.specs.CourseOf.{CanShow}
use Rattle.gic_monitor.specs.OnBoard.{monitors_of}
use Rattle.gic_study_mode.specs.Seen.{HasSeen}
use Rattle.gic_study_mode.proofs.steps.see_steps.Given as goal

-- the steps so far were seen
abbrev pub invariant-loop-place : goal.invariant-loop-place
invariant-loop-place g l = record {
  shows : CanShow l.inputs l.course;
  seen : HasSeen l.inputs l.asked l.place
      (λ rest. map (λ m. (goal.Monitor-dyn g (m.vtable, m.value)).outlook m.value rest) (monitors_of l.initial.board))
      (λ rest. map (λ m. (goal.Monitor-dyn g (m.vtable, m.value)).outlook m.value rest) (monitors_of l.board)) l.views;
}
