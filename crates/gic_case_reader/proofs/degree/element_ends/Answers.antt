use Rattle.std.proofs.Common.{◌≡◌, ◌≤◌, length, arith, rules, ap}
use Rattle.std.proofs.lemmas.Grind.{common_steps}
use Rattle.gic_case.specs.Lists.{element_ends}
use Rattle.gic_case_reader.proofs.Degrees.{length-element_ends}
use Rattle.gic_case_reader.proofs.degree.element_ends.Goals as goal

pub returns-clause-few : goal.returns-clause-few
unfolding element_ends
returns-clause-few c =
    let same : c.push_transformer_ends.new.ends.items ≡ element_ends c.args.network.now = grind (arith, common_steps) in
    let many = ap length same in
    let most = length-element_ends c.args.network.now in
    let substations : length c.args.network.now.substations ≤ 4096 = search rules in
    let lines : length c.args.network.now.lines ≤ 24576 = search rules in
    let transformers : length c.args.network.now.transformers ≤ 8192 = search rules in
    omega (arith, many, most)
