use Rattle.std.proofs.Common.{ap, subst, ◌∙◌}
use Rattle.gic_model.specs.Network.{Network}
use Rattle.gic_uniform.specs.Ready.{IsSolveWorkspaceFor}
use Rattle.gic_uniform.proofs.solve_workspace.solve_workspace_for.Goals as goal

pub returns : goal.returns
returns c =
    subst (λ n. IsSolveWorkspaceFor n c.in_ok-solve_workspace.solve_workspace) (c.nodes.ensures.value ∙ ap (λ (n : Network). n.nodes) c.requires) c.in_ok-solve_workspace.ensures
