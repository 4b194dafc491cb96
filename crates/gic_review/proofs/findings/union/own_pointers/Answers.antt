use Rattle.std.proofs.Common.{◌≡◌, ◌++◌, ◌∷◌, [], rules, ap, sym, ◌∙◌}
use Rattle.gic_review.proofs.Pointed.{range_next}
use Rattle.gic_review.proofs.findings.union.own_pointers.Goals as goal

pub loop-node-preserved : goal.loop-node-preserved
loop-node-preserved c =
    let pushed : c.push.new.self.items ≡ c.loop-node.pointers.items ++ c.loop-node.node ∷ [] = search rules in
    pushed ∙ ap (λ l. l ++ c.loop-node.node ∷ []) c.loop-node.invariant ∙ sym (range_next c.loop-node.node)
