use Rattle.gic_stand.specs.Serves.{shown}
use Rattle.gic_study.proofs.Served.{of_made, over_certificate}
use Rattle.gic_study.proofs.modes.serve_recheck.Goals as goal

pub returns-clause-ends : goal.returns-clause-ends
returns-clause-ends g c = λ plans.
    over_certificate plans c.args.asked.now (shown g.S.Sink.written g.S.Sink.faults c.args.out.now) (shown g.S.Sink.written g.S.Sink.faults c.recheck.new.out) c.recheck.result c.rechecked.result
    (c.recheck.ensures _ (of_made c.args.made c.in_ok-workspace.workspace _ c.in_ok-workspace.was c.requires.read))
    c.rechecked.ensures
