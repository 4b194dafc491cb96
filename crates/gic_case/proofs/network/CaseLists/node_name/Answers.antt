use Rattle.std.proofs.Common.{◌<◌, arith, sym, ◌∙◌}
use Rattle.gic_case.specs.NodeNames.{names_left}
use Rattle.gic_case.proofs.Passed.{passed_one}
use Rattle.gic_case.proofs.network.CaseLists.node_name.Goals as goal

pub loop-passed-preserved : goal.loop-passed-preserved
loop-passed-preserved c =
    let more : c.loop-passed.passed < c.args.node.0 = omega (arith, c.loop-passed-test.true, c.loop-passed.auto.passed-end) in
    sym (passed_one names_left c.loop-passed.names c.next.new.self c.next.result c.args.node.0 c.loop-passed.passed c.next.ensures.steps more)
    ∙ c.loop-passed.invariant
