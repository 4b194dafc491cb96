use Rattle.std.proofs.Common.{◌≡◌, None, map, replicate}
use Rattle.gic_view.specs.KeptEnds.{cell_ends}
use Rattle.gic_view.proofs.step_view.StepView.new.Goals as goal

pub returns : goal.returns
returns c =
    let nodes : map cell_ends c.in_ok-nodes.nodes.items ≡ replicate c.args.nodes None = c.in_ok-nodes.ensures in
    let elements : map cell_ends c.in_ok-elements.elements.items ≡ replicate c.args.elements None = c.in_ok-elements.ensures in
    let effective = c.in_ok-effective.ensures.zeros in
    cc
