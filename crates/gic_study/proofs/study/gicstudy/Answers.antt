use Rattle.gic_stand.specs.Serves.{shown}
use Rattle.gic_study.proofs.study.gicstudy.Goals as goal

pub returns : goal.returns
returns g c = record {
  answer = c.report-answer.result;
  status_is = c.ended.ensures.status;
  explained = c.report-answer.ensures (shown g.E.Sink.written g.E.Sink.faults c.args.err.now) (shown g.E.Sink.written g.E.Sink.faults c.ended.new.err);
  line = c.ended.ensures.line;
}
