use Rattle.gic_study.specs.ProgramPlans.{program_plans}
use Rattle.gic_study.proofs.Served.{whatever_plans}
use Rattle.gic_study.proofs.program.serve_alone.Goals as goal

pub returns : goal.returns
returns g c = whatever_plans _ program_plans c.args.asked _ _ c.serve.result c.requires.no_study c.serve.ensures
