use Rattle.std.proofs.Common.{◌≡◌, ◌++◌, ◌∷◌, [], rules, ap, sym, ◌∙◌}
use Rattle.gic_review.specs.Places.{alone}
use Rattle.gic_review.proofs.LaidOut.{start_next}
use Rattle.gic_review.proofs.findings.places.start_places.Goals as goal

pub loop-group-preserved : goal.loop-group-preserved
loop-group-preserved c =
    let pushed : c.push.new.self.items ≡ c.loop-group.places.items ++ alone c.loop-group.group ∷ [] = search rules in
    pushed ∙ ap (λ l. l ++ alone c.loop-group.group ∷ []) c.loop-group.invariant ∙ sym (start_next c.loop-group.group)
