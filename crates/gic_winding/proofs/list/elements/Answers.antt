use Rattle.std.proofs.Common.{◌≡◌, ◌∙◌, subst, sym}
use Rattle.gic_model.specs.Limits.{IsWithinLimits}
use Rattle.gic_winding.specs.ElementList.{elements_of}
use Rattle.gic_winding.proofs.Limits.{within_limits, gathered}
use Rattle.gic_winding.proofs.list.elements.Goals as goal

pub new-requires : goal.new-requires
new-requires c =
    let whole : record { nodes = c.node_count.result; list = c.push_all_resistors.new.list.items } ≡ elements_of c.args.case.now = gathered c.args.case.now c.node_count.result _ _ _ _ _ c.node_count.ensures.value c.new-list.ensures.items c.in_ok-push_all_earthings.ensures c.in_ok-push_all_lines.ensures c.in_ok-push_all_windings.ensures c.in_ok-push_all_resistors.ensures in
    subst IsWithinLimits (sym whole) (within_limits c.args.case.now c.node_count.ensures.sound)

pub returns : goal.returns
returns c =
    c.new.ensures ∙ gathered c.args.case.now c.node_count.result _ _ _ _ _ c.node_count.ensures.value c.new-list.ensures.items c.in_ok-push_all_earthings.ensures c.in_ok-push_all_lines.ensures c.in_ok-push_all_windings.ensures c.in_ok-push_all_resistors.ensures
