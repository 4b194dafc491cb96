use Rattle.std.proofs.Common.{ℕ, ◌+◌, ◌*◌, ◌<◌, ◌≤◌}
use Rattle.gic_enclose.specs.declared.solving.TheConstants.{MOST_TICKS}
use Rattle.gic_net.specs.Net.{standing}
use Rattle.gic_base_views.specs.BaseFields.{CanSolveBases, IsBaseWorkspaceFor}
use Rattle.gic_base_views.specs.BaseRows.{IsCertifiedIn}
use Rattle.gic_base_views.specs.Table.{base_rows_of}
use Rattle.gic_base_views.proofs.certifying.prepare_bases.Given as goal

abbrev pub invariant-loop-zone : goal.invariant-loop-zone
invariant-loop-zone g l = record {
  certified : (z : ℕ) → z < l.zone → IsCertifiedIn l.case (standing l.net) (base_rows_of l.workspace.table) z;
  can : CanSolveBases l.case l.net l.bound l.fields l.solver;
  workspace : IsBaseWorkspaceFor l.case l.workspace;
  ticks : l.steps ≤ l.fn.steps + l.zone * (2 * MOST_TICKS);
}
