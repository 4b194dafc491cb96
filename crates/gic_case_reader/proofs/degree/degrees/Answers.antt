use Rattle.std.proofs.Common.{◌<◌, ◌≤◌, length, get_or, arith, rules, refl, ◌∙◌}
use Rattle.std.proofs.lemmas.List.{get_or_default}
use Rattle.gic_case_reader.proofs.Degrees.{counted_there, counted_elsewhere, degree_most}
use Rattle.gic_case_reader.proofs.degree.degrees.Goals as goal
use Rattle.gic_case_reader.proofs.degree.degrees.Goals.{then-node-len, else-node-len}

pub overflow_add-index_mut : goal.overflow_add-index_mut
overflow_add-index_mut c =
    let ends = c.args.ends.now in
    let i = c.loop-end.end-index in
    let node = get_or ends i 0 in
    let within : i < length ends = omega arith in
    let there : node < c.args.nodes = omega arith in
    let most = degree_most ends i node within in
    let counted = c.loop-end.invariant.counted node there in
    let value = c.index_mut.ensures.value ∙ get_or_default c.loop-end.counts.items node c.index_mut.result.now 0 (search rules) in
    omega (arith, most, counted, value)

pub loop-end-preserved : goal.loop-end-preserved
loop-end-preserved c =
    let ends = c.args.ends.now in
    let i = c.loop-end.end-index in
    let node = get_or ends i 0 in
    let counts = c.loop-end.counts.items in
    let within : i < length ends = omega arith in
    elim c.if-node-len.branch [
      | then-node-len w ↦
          let there : node < length counts = search rules in
          rw w.counts-is (record {
            many = c.loop-end.invariant.many;
            counted = λ k below. counted_there counts ends c.args.nodes i node w.index_mut.result.now within refl there w.index_mut.ensures.value c.loop-end.invariant.counted k below;
          })
      | else-node-len w ↦
          let far : c.args.nodes ≤ node = omega arith in
          rw w.counts-is (record {
            many = c.loop-end.invariant.many;
            counted = counted_elsewhere counts ends c.args.nodes i node within refl far c.loop-end.invariant.counted;
          })
    ]
