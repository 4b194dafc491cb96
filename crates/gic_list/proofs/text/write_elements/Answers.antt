use Rattle.std.proofs.Common.{rules}
use Rattle.gic_model.specs.declared.parts.End.TheVariants.{Node}
use Rattle.gic_model.specs.declared.parts.Item.TheVariants as item
use Rattle.gic_model.specs.declared.parts.Role.TheVariants as role
use Rattle.gic_model.specs.declared.parts.Element.{Element}
use Rattle.gic_list.specs.ListText.{element_line}
use Rattle.gic_report.proofs.Framed.{next_line}
use Rattle.gic_report.proofs.Written.{goes_on, stops}
use Rattle.gic_list.proofs.text.write_elements.Goals as goal

-- no element
abbrev none : Element
none = record { from = record { 0 = 0 }; to = Node (record { 0 = 0 }); times = 0; micro_ohm = 0; item = item.Ground 0; role = role.Ground }

pub loop-element-preserved : goal.loop-element-preserved
loop-element-preserved g c =
    let next = next_line (element_line c.args.case.now) c.args.elements.now c.loop-element.element-index none (search rules) in
    record { written = goes_on c.loop-element.invariant.written next c.in_ok-write_element.ensures }

pub returns-in_err-write_element : goal.returns-in_err-write_element
returns-in_err-write_element g c =
    let next = next_line (element_line c.args.case.now) c.args.elements.now c.loop-element.element-index none (search rules) in
    stops _ c.loop-element.invariant.written next c.in_err-write_element.ensures c.from_residual.ensures.1
