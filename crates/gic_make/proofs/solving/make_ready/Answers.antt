use Rattle.gic_net.specs.Net.{standing}
use Rattle.gic_make.proofs.Solvable.{never_fails}
use Rattle.gic_make.proofs.solving.make_ready.Goals as goal

pub unreachable-requires : goal.unreachable-requires
unreachable-requires c = never_fails c.args.case.now (standing c.args.net.now) 1 c.in-Err.field-0 c.requires.solvable c.in-Err.ensures.err
