use Rattle.std.proofs.Common.{rules, arith, ◌≡◌, ◌<◌, ◌∷◌, length, ap}
use Rattle.gic_case.specs.NodeNames.{names_left}
use Rattle.gic_report.proofs.Written.{goes_on, stops}
use Rattle.gic_cert.proofs.NodesWritten.{next_node}
use Rattle.gic_cert.proofs.writing.write_nodes.Goals as goal

pub loop-name-preserved : goal.loop-name-preserved
loop-name-preserved g c =
    let more : names_left c.loop-name.name-iterator ≡ c.in-Some.name ∷ names_left c.next.new.self = search rules in
    let left = ap length more in
    let inside : c.loop-name.node < length c.args.cert.now.nodes = omega (arith, left, c.loop-name.invariant.count, c.requires) in
    let next = next_node _ _ c.in-Some.name c.args.cert.now c.loop-name.node more inside in
    record {
      written = goes_on c.loop-name.invariant.written next c.in_ok-write_node_at.ensures;
      count = omega (arith, left, c.loop-name.invariant.count);
    }

pub returns-in_err-write_node_at : goal.returns-in_err-write_node_at
returns-in_err-write_node_at g c =
    let more : names_left c.loop-name.name-iterator ≡ c.in-Some.name ∷ names_left c.next.new.self = search rules in
    let left = ap length more in
    let inside : c.loop-name.node < length c.args.cert.now.nodes = omega (arith, left, c.loop-name.invariant.count, c.requires) in
    let next = next_node _ _ c.in-Some.name c.args.cert.now c.loop-name.node more inside in
    stops _ c.loop-name.invariant.written next c.in_err-write_node_at.ensures c.from_residual.ensures.1
