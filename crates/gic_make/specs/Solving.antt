-- What a summary is made in. For the contracts of this crate.
use Rattle.std.specs.Prelude.{◌≡◌, length}
use Rattle.gic_case.specs.Lists.{Lists}
use Rattle.gic_effective.specs.ViewLengths.{HasViewLengths}
use Rattle.gic_winding.specs.ElementList.{elements_of}
use Rattle.gic_uniform.specs.Ready.{IsWorkspaceForCase}
use Rattle.gic_make.specs.declared.solving.SummaryWorkspace.{SummaryWorkspace}

-- there is space for each node, element and transformer of the case
pub record IsSummaryWorkspaceFor (case : Lists) (workspace : SummaryWorkspace) : Type 0 where
  pub solving : IsWorkspaceForCase case workspace.solving
  pub vector : length workspace.vector ≡ (elements_of case).nodes
  pub view : HasViewLengths case workspace.view
