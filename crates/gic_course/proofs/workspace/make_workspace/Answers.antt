use Rattle.std.proofs.Common.{length, ap, subst, ◌∙◌}
use Rattle.gic_model.specs.Network.{Network}
use Rattle.gic_stand.proofs.Repeated.{repeated_length}
use Rattle.gic_uniform.specs.Ready.{IsSolveWorkspaceFor}
use Rattle.gic_course.proofs.workspace.make_workspace.Goals as goal

pub returns : goal.returns
returns c = record {
  nodes = subst (λ n. IsSolveWorkspaceFor n c.in_ok-solve_workspace.solve_workspace) (c.nodes.ensures.value ∙ ap (λ (n : Network). n.nodes) c.requires.elements) c.in_ok-solve_workspace.ensures;
  volts = repeated_length _ _ _ c.in_ok-volts.ensures ∙ ap (λ (n : Network). length n.list) c.requires.elements;
  zones = repeated_length _ _ _ c.in_ok-fields.ensures ∙ c.requires.zones;
  superposes = c.in_ok-bases.ensures.superposes;
  base_workspace = c.in_ok-bases.ensures.workspace;
}
