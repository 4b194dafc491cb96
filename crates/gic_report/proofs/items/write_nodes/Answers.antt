use Rattle.std.proofs.Common.{rules, ◌≡◌, ◌∷◌}
use Rattle.gic_view.specs.Kept.{optional_ends}
use Rattle.gic_case.specs.NodeNames.{names_left}
use Rattle.gic_report.proofs.Written.{goes_on, stops}
use Rattle.gic_report.proofs.RowsWritten.{next_node}
use Rattle.gic_report.proofs.items.write_nodes.Goals as goal

pub loop-name-preserved : goal.loop-name-preserved
loop-name-preserved g c =
    let more : names_left c.loop-name.name-iterator ≡ c.in-Some.name ∷ names_left c.next.new.self = search rules in
    let next = next_node _ _ _ c.take.new.self c.in-Some.name (optional_ends c.take.result) more c.take.ensures.cell c.take.ensures.left in
    record { written = goes_on c.loop-name.invariant.written next c.in_ok-write_node.ensures }

pub returns-in_err-write_node : goal.returns-in_err-write_node
returns-in_err-write_node g c =
    let more : names_left c.loop-name.name-iterator ≡ c.in-Some.name ∷ names_left c.next.new.self = search rules in
    let next = next_node _ _ _ c.take.new.self c.in-Some.name (optional_ends c.take.result) more c.take.ensures.cell c.take.ensures.left in
    stops _ c.loop-name.invariant.written next c.in_err-write_node.ensures c.from_residual.ensures.1
