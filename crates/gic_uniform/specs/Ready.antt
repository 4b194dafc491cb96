-- What a solve needs.
use Rattle.std.specs.Prelude.{ℕ, ◌≡◌, List, length, slice_index}
use Rattle.gic_base.specs.declared.limits.TheConstants.{MOST_WALK}
use Rattle.gic_bound.specs.Entries.{IsBoundWithin}
use Rattle.gic_case.specs.Lists.{Lists}
use Rattle.gic_model.specs.Sums.{Placed}
use Rattle.gic_stand.specs.Standing.{IsSolvable}
use Rattle.gic_winding.specs.ElementList.{elements_of}
use Rattle.gic_uniform.specs.declared.solve_workspace.SolveWorkspace.{SolveWorkspace}

-- the workspace is one for networks of this many nodes
pub record IsSolveWorkspaceFor (nodes : ℕ) (solve_workspace : SolveWorkspace) : Type 0 where
  pub scratch : solve_workspace.scratch.nodes ≡ nodes
  pub vector : length solve_workspace.vector ≡ nodes
  pub start : solve_workspace.start ≡ nodes
  pub solver : length solve_workspace.solver ≡ nodes
  pub potentials : length solve_workspace.potentials ≡ nodes

-- there is space for each node of the case
abbrev pub IsWorkspaceForCase : Lists → SolveWorkspace → Type 0
IsWorkspaceForCase case solve_workspace = IsSolveWorkspaceFor (elements_of case).nodes solve_workspace

-- these standing elements can be solved, and the workspace has a bound vector of theirs
pub record IsReadyFor (case : Lists) (standing : List Placed) (solve_workspace : SolveWorkspace) : Type 0 where
  pub has_workspace : IsWorkspaceForCase case solve_workspace
  pub solvable : IsSolvable standing
  pub bound : IsBoundWithin standing MOST_WALK (slice_index solve_workspace.vector)
