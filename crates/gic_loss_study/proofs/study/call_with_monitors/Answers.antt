use Rattle.std.proofs.Common.{◌≡◌, ◌∙◌, ap}
use denote.Param.Object.{read_made}
use Rattle.gic_monitor.specs.DwellText.{dwell_text}
use Rattle.gic_monitor.specs.EarthText.{earth_text}
use Rattle.gic_monitor.specs.LossText.{volt_text, table_text}
use Rattle.gic_monitor.specs.declared.loss.volt_loss.VoltLoss.{VoltLoss}
use Rattle.gic_monitor.specs.declared.loss.table_loss.TableLoss.{TableLoss}
use Rattle.gic_loss_study.proofs.Attached.{Plan, attached}
use Rattle.gic_loss_study.proofs.study.call_with_monitors.Goals as goal
use Rattle.gic_loss_study.proofs.study.call_with_monitors.OwnLists as own

-- a box has the plan of what it was made of
dwells : (g : _) (c : goal.After-gicstudy g) → ◌≡◌ {A = Plan} ((own.own-1.entry c.into_dyn_box.result.vtable).1.plan c.into_dyn_box.result.value) dwell_text
dwells g c = read_made own.own-1 own.entry-1-1 own.at-1-1 own.same-1-1 Plan (λ j y. j.1.plan y) _ _ _ c.into_dyn_box.ensures.1

earthings : (g : _) (c : goal.After-gicstudy g) → ◌≡◌ {A = Plan} ((own.own-1.entry c.into_dyn_box-2.result.vtable).1.plan c.into_dyn_box-2.result.value) earth_text
earthings g c = read_made own.own-1 own.entry-1-2 own.at-1-2 own.same-1-2 Plan (λ j y. j.1.plan y) _ _ _ c.into_dyn_box-2.ensures.1

losses : (g : _) (c : goal.After-gicstudy g) → ◌≡◌ {A = Plan} ((own.own-1.entry c.into_dyn_box-3.result.vtable).1.plan c.into_dyn_box-3.result.value) (volt_text 1)
losses g c =
    let made : c.in-Ok-Ok-Ok-Ok.losses.value ≡ c.new-5.result = c.in-Ok-Ok-Ok-Ok.ensures''.ok in
    let scaled : ◌≡◌ {A = Plan} (own.entry-1-3.1.plan c.new-5.result) (volt_text 1) = λ k roster views. c.new-5.ensures.plan roster views k in
    read_made own.own-1 own.entry-1-3 own.at-1-3 own.same-1-3 Plan (λ j y. j.1.plan y) _ _ _ c.into_dyn_box-3.ensures.1
    ∙ ap (λ (m : VoltLoss). own.entry-1-3.1.plan m) made ∙ scaled

by_table : (g : _) (c : goal.After-gicstudy g) → ◌≡◌ {A = Plan} ((own.own-1.entry c.into_dyn_box-4.result.vtable).1.plan c.into_dyn_box-4.result.value) (table_text c.in-Ok.table.items)
by_table g c =
    let made : c.in-Ok-Ok-Ok-Ok.by_table.value ≡ c.new-7.result = c.in-Ok-Ok-Ok-Ok.ensures'''.ok in
    let read : ◌≡◌ {A = Plan} (own.entry-1-4.1.plan c.new-7.result) (table_text c.in-Ok.table.items) = λ k roster views. c.new-7.ensures.plan roster views k in
    read_made own.own-1 own.entry-1-4 own.at-1-4 own.same-1-4 Plan (λ j y. j.1.plan y) _ _ _ c.into_dyn_box-4.ensures.1
    ∙ ap (λ (m : TableLoss). own.entry-1-4.1.plan m) made ∙ read

pub returns : goal.returns
returns g c =
    attached (λ m. (own.own-1.entry m.vtable).1.plan m.value)
    c.new-monitors.result.items c.push.new.self.items c.push-2.new.self.items c.push-3.new.self.items c.push-4.new.self.items c.truncate.new.self.items
    c.into_dyn_box.result c.into_dyn_box-2.result c.into_dyn_box-3.result c.into_dyn_box-4.result c.in-Ok.table.items c.args.count
    c.new-monitors.ensures.items c.in-Ok-Ok-Ok-Ok-2.ensures.items c.in-Ok-Ok-Ok-Ok-2.ensures'.items c.in-Ok-Ok-Ok-Ok-2.ensures''.items c.in-Ok-Ok-Ok-Ok-2.ensures'''.items c.truncate.ensures.items
    (dwells g c) (earthings g c) (losses g c) (by_table g c) _ _ _ _ _ c.gicstudy.ensures
