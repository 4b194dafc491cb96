use Rattle.gic_report.proofs.Chained.{writes_then, writes_stop}
use Rattle.gic_study_text.proofs.text.write_monitor.Goals as goal

pub returns-in_err-write_monitor_line : goal.returns-in_err-write_monitor_line
returns-in_err-write_monitor_line g c = writes_stop c.args.text.now c.in_err-write_monitor_line.ensures c.from_residual.ensures.1

pub returns : goal.returns
returns g c = writes_then c.in_ok-write_monitor_line.ensures c.write_all.ensures
