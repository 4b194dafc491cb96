-- What stays of a workspace over a solve.
use Rattle.std.proofs.Common.{◌≡◌, ℕ, List, slice_index, sym, subst}
use Rattle.gic_base.specs.declared.limits.TheConstants.{MOST_WALK}
use Rattle.gic_bound.specs.Entries.{IsBoundWithin}
use Rattle.gic_net.specs.Net.{standing}
use Rattle.gic_uniform.specs.declared.solve_workspace.SolveWorkspace.{SolveWorkspace}
use Rattle.gic_uniform.specs.Ready.{IsSolveWorkspaceFor}
use Rattle.gic_grounds.specs.Lifted.{StillSolves}

-- where the bound vector stays, every net that could be solved still can
pub still_solves : (nodes count : ℕ) (before after : SolveWorkspace) →
    IsSolveWorkspaceFor nodes after → after.vector ≡ before.vector → StillSolves nodes count before after
still_solves nodes count before after space same = λ net can. record {
  node_count = can.node_count;
  element_count = can.element_count;
  earthed = can.earthed;
  has_space = space;
  bound = subst (λ (v : List ℕ). IsBoundWithin (standing net) MOST_WALK (slice_index v)) (sym same) can.bound;
}
