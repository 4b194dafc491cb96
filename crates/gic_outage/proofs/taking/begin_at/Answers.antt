use Rattle.std.proofs.Common.{◌∙◌, length, ap}
use Rattle.gic_outage.proofs.taking.begin_at.Goals as goal

pub returns-clause-workspace : goal.returns-clause-workspace
returns-clause-workspace c = λ case fit. record {
  solving = record {
    scratch = fit.solving.scratch;
    vector = ap length c.copy_from.ensures ∙ c.requires ∙ fit.solving.vector;
    start = fit.solving.start;
    solver = fit.solving.solver;
    potentials = fit.solving.potentials;
  };
  north_view = fit.north_view;
  east_view = fit.east_view;
  row_count = fit.row_count;
}
