-- What the mode takes memory for.
use Rattle.std.specs.Prelude.{◌≡◌, ℕ, None, length}
use Rattle.gic_make.specs.MadeCase.{made_case}
use Rattle.gic_model.specs.Voltages.{number_at}
use Rattle.gic_net.specs.Net.{standing}
use Rattle.gic_stand.specs.Standing.{standing_of}
use Rattle.gic_winding.specs.ElementList.{elements_of}
use Rattle.gic_make.specs.RightMake.{benchmark_volts}
use Rattle.gic_make.specs.Solving.{IsSummaryWorkspaceFor}
use Rattle.gic_make.specs.declared.workspace.Workspace.{Workspace}

-- it has the made case with all its elements, the voltages of the benchmark event to the north, and space for a summary
pub record IsMadeFor (seed size : ℕ) (workspace : Workspace) : Type 0 where
  pub case_is : workspace.case ≡ made_case seed size
  pub network : workspace.net.network ≡ elements_of workspace.case
  pub stands : standing workspace.net ≡ standing_of workspace.case None
  pub volts : number_at workspace.volts ≡ benchmark_volts workspace.case
  pub count : length workspace.volts ≡ length workspace.net.network.list
  pub summary : IsSummaryWorkspaceFor workspace.case workspace.summary
