use Rattle.std.proofs.Common.{ℕ, length, pos, ap, sym, subst, subst₂, ◌∙◌}
use Rattle.gic_fixed.specs.Ends.{zero_ends}
use Rattle.gic_inputs.specs.Inputs.{rows_in}
use Rattle.gic_model.specs.Network.{Network}
use Rattle.gic_stand.proofs.Repeated.{repeated_length}
use Rattle.gic_uniform.specs.Ready.{IsSolveWorkspaceFor}
use Rattle.gic_grounds.specs.Lifted.{HasReferenceSpace}
use Rattle.gic_grounds.proofs.BothNets.{least_at_corner}
use Rattle.gic_grounds.proofs.workspace.make_varied_workspace.Goals as goal

pub returns-clause-space : goal.returns-clause-space
returns-clause-space c =
    let nodes = c.nodes-nodes.ensures.value ∙ ap (λ (n : Network). n.nodes) c.requires.elements in
    let count = ap (λ (n : Network). length n.list) c.requires.elements in
    let transformers = ap length c.transformers.ensures.value in
    record {
      elements = c.requires.elements;
      nets = record {
        rows = rows_in c.args.switchings.now;
        percent = c.args.percent;
        of_case = record { extremes = c.in_ok-nets.ensures.extremes; most_percent = c.requires.percent };
      };
      solving = subst (λ (n : ℕ). IsSolveWorkspaceFor n c.in_ok-solving.solving) nodes c.in_ok-solving.ensures;
      adjoint_space = record {
        volt_count = repeated_length (length c.args.elements.list) (pos 0) c.in_ok-volts.volts c.in_ok-volts.ensures ∙ count;
        adjoint_count = repeated_length c.nodes-nodes.result zero_ends c.in_ok-adjoint.adjoint c.in_ok-adjoint.ensures ∙ nodes;
      };
      north_space = subst₂ (λ (n t : ℕ). HasReferenceSpace n t c.in_ok-north.north) nodes transformers c.in_ok-north.ensures;
      east_space = subst₂ (λ (n t : ℕ). HasReferenceSpace n t c.in_ok-east.east) nodes transformers c.in_ok-east.ensures;
      least_corner = c.all_least.ensures;
      corner_space = record {
        some_corner = least_at_corner c.in_ok-nets.nets c.in_ok-at_corner.at_corner.net
            (c.in_ok-at_corner.ensures.same_net ∙ c.in_ok-net.ensures.net ∙ sym c.in_ok-nets.ensures.least);
        mark_count = c.in_ok-at_corner.ensures.mark_count ∙ nodes;
        reference_space = subst₂ (λ (n t : ℕ). HasReferenceSpace n t c.in_ok-at_corner.at_corner.reference) nodes transformers
            c.in_ok-at_corner.ensures.reference_space;
        adjoint_count = c.in_ok-at_corner.ensures.adjoint_count ∙ nodes;
      };
    }
