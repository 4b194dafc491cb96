use Rattle.std.proofs.Common.{◌≡◌, ◌<◌, List, length, get_or, arith, ap, ◌∙◌}
use Rattle.std.specs.Vec.{with_item}
use Rattle.std.proofs.lemmas.List.{get_or_default, length-set}
use Rattle.gic_model.specs.declared.parts.Item.{Item}
use Rattle.gic_model.specs.declared.parts.Item.TheVariants.{Line}
use Rattle.gic_net.specs.Net.{NetView}
use Rattle.gic_outage.specs.Outages.{item_at}
use Rattle.gic_outage.specs.Plan.{plan_of}
use Rattle.gic_outage.specs.declared.workspace.Workspace.{Workspace}
use Rattle.gic_outage.proofs.Taken.{next_taken}
use Rattle.gic_outage.proofs.run.take_items.Goals as goal

pub loop-place-preserved : goal.loop-place-preserved
loop-place-preserved c =
    let l = c.loop-place in
    let inputs = c.args.inputs.now in
    let before = c.args.workspace.now in
    let item = c.index.result.now in
    let outcomes = with_item l.workspace.outcomes l.place c.take_item.result in
    let greatest = c.take_item.new.greatest in
    let inside : l.place < length (plan_of inputs.case) = omega (arith, c.loop-place-test.true, c.len-place-end.ensures, ap length c.requires.workspace.plan) in
    let plan : l.workspace.plan.items ≡ plan_of inputs.case = ap (λ (w : Workspace). w.plan.items) l.invariant.rest ∙ c.requires.workspace.plan in
    let own : item ≡ item_at inputs.case l.place =
    c.index.ensures ∙ ap (λ (items : List Item). get_or items l.place item) plan ∙ get_or_default (plan_of inputs.case) l.place item (Line 0) inside in
    let net : c.take_item.new.net ≡ before.net = c.take_item.ensures.net ∙ ap (λ (w : Workspace). w.net) l.invariant.rest in
    record {
      taken = next_taken inputs l.place item c.take_item.result l.workspace.outcomes.items l.workspace.greatest greatest (omega (arith, inside, l.invariant.outcomes)) own c.take_item.ensures.ended l.invariant.taken;
      rest = ap (λ (w : Workspace). record w { net = c.take_item.new.net; screening = c.take_item.new.workspace; outcomes = outcomes; greatest = greatest }) l.invariant.rest
          ∙ ap (λ (n : NetView). record before { net = n; screening = c.take_item.new.workspace; outcomes = outcomes; greatest = greatest }) net;
      screening = c.take_item.ensures.workspace;
      outcomes = length-set l.workspace.outcomes.items l.place c.take_item.result ∙ l.invariant.outcomes;
    }
