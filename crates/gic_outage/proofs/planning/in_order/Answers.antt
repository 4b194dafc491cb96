use Rattle.std.proofs.Common.{◌≡◌, ◌++◌, ◌∷◌, [], rules, ◌∙◌}
use Rattle.gic_model.specs.declared.parts.Item.TheVariants.{Line}
use Rattle.gic_outage.proofs.Planned.{line_more}
use Rattle.gic_outage.proofs.planning.in_order.Goals as goal

pub loop-place-preserved : goal.loop-place-preserved
loop-place-preserved c =
    let pushed : c.push.new.self.items ≡ c.loop-place.items.items ++ Line c.loop-place.place ∷ [] = search (rules, c.in_ok-push.ensures.items) in
    pushed ∙ line_more c.loop-place.items.items c.loop-place.place c.loop-place.invariant
