use Rattle.std.proofs.Common.{ap, ◌∙◌}
use Rattle.gic_text.specs.Lines.{lines_text}
use Rattle.gic_model.specs.Network.{Network}
use Rattle.gic_winding.specs.ElementList.{elements_of}
use Rattle.gic_list.specs.ListText.{list_report}
use Rattle.gic_stand.specs.Needs.{Nothing}
use Rattle.gic_stand.proofs.Served.{served, met_nothing}
use Rattle.gic_stand.specs.Standing.{steps_of}
use Rattle.gic_list.specs.RightList.{IsRightList}
use Rattle.gic_list.proofs.mode.list.Goals as goal

pub returns : goal.returns
returns g c =
    served Nothing c.args.inputs.now.case (steps_of c.args.inputs.now) (IsRightList c.args.inputs.now) _ _ _ c.write_list-writing.result c.ended.result
    (met_nothing (steps_of c.args.inputs.now)) (ap (λ n. lines_text (list_report c.args.inputs.now.case n c.list.result.now)) (c.nodes.ensures.value ∙ ap (λ (n : Network). n.nodes) c.requires)
    ∙ ap (λ l. lines_text (list_report c.args.inputs.now.case (elements_of c.args.inputs.now.case).nodes l)) (c.list.ensures.value ∙ ap (λ (n : Network). n.list) c.requires)) c.write_list-writing.ensures.all c.write_list-writing.ensures.part c.write_list-writing.ensures.cause c.ended.ensures
