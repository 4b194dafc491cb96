use Rattle.std.proofs.Common.{ℕ, List, map}
use Rattle.gic_ask.specs.declared.request.Asked.TheVariants.{Study}
use Rattle.gic_monitor.specs.OnBoard.{monitors_of}
use Rattle.gic_stand.specs.Serves.{shown}
use Rattle.gic_view.specs.View.{View}
use Rattle.gic_study.proofs.Served.{of_made, over_storm, lacking_workspace}
use Rattle.gic_study.proofs.modes.serve_study.Goals as goal

pub returns-in_err-workspace-clause-ends : goal.returns-in_err-workspace-clause-ends
returns-in_err-workspace-clause-ends g c = λ plans count same.
    lacking_workspace plans (Study c.args.asked.now) (shown g.S.Sink.written g.S.Sink.faults c.args.out.now) c.from_residual.result c.from_residual.ensures.1

pub returns-clause-ends : goal.returns-clause-ends
returns-clause-ends g c = λ plans count same.
    let outlooks : List View → List (List ℕ) = λ views. map (λ m. (goal.Monitor-dyn g (m.vtable, m.value)).outlook m.value views) (monitors_of c.in_ok-workspace.workspace.board) in
    over_storm plans c.args.asked.now outlooks _ (shown g.S.Sink.written g.S.Sink.faults c.args.out.now) (shown g.S.Sink.written g.S.Sink.faults c.study.new.out)
    c.study.result c.studied.result (of_made c.args.made c.in_ok-workspace.workspace _ c.in_ok-workspace.was same) (of_made c.args.made c.in_ok-workspace.workspace _ c.in_ok-workspace.was count)
    c.study.ensures c.studied.ensures
