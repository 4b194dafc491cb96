use Rattle.std.proofs.Common.{◌<◌, ◌∙◌, length, arith}
use Rattle.std.specs.Prelude.{slice_index}
use Rattle.std.proofs.lemmas.List.{length-set}
use Rattle.gic_review.proofs.Pointed.{turned_pointers, turned_ahead, turned_behind, all_turned}
use Rattle.gic_review.proofs.findings.union.point_at_firsts.Goals as goal

pub loop-node-preserved : goal.loop-node-preserved
loop-node-preserved c =
    let old = c.args.pointers.now in
    let now = c.loop-node.pointers in
    let i = c.loop-node.node in
    let h = c.loop-node.invariant in
    let inside : i < length old = omega arith in
    record {
      count = length-set now i (slice_index now (slice_index now i)) ∙ h.count;
      pointers = turned_pointers old now i inside h.count h.pointers h.ahead;
      ahead = turned_ahead old now i inside h.count h.pointers h.ahead;
      behind = λ firsts lead. turned_behind old now i inside h.count h.pointers h.ahead firsts lead (h.behind firsts lead);
    }

pub returns-clause-firsts : goal.returns-clause-firsts
returns-clause-firsts c = λ firsts lead.
    all_turned c.loop-node.pointers firsts c.loop-node.node (omega (arith, c.loop-node.invariant.count, lead.count)) (omega arith) (c.loop-node.invariant.behind firsts lead)
