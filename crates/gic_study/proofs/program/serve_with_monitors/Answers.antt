use Rattle.std.proofs.Common.{◌≡◌, ◌∙◌, ap}
use denote.Param.Object.{read_made}
use Rattle.gic_monitor.specs.DwellText.{dwell_text}
use Rattle.gic_monitor.specs.EarthText.{earth_text}
use Rattle.gic_monitor.specs.LossText.{volt_text}
use Rattle.gic_monitor.specs.declared.loss.volt_loss.VoltLoss.{VoltLoss}
use Rattle.gic_study.specs.ProgramPlans.{program_plans}
use Rattle.gic_study.proofs.Attached.{Plan, attached}
use Rattle.gic_study.proofs.program.serve_with_monitors.Goals as goal
use Rattle.gic_study.proofs.program.serve_with_monitors.OwnLists as own

-- a box has the plan of what it was made of
dwells : (g : _) (c : goal.After-serve g) → ◌≡◌ {A = Plan} ((own.own-1.entry c.into_dyn_box.result.vtable).1.plan c.into_dyn_box.result.value) dwell_text
dwells g c = read_made own.own-1 own.entry-1-1 own.at-1-1 own.same-1-1 Plan (λ j y. j.1.plan y) _ _ _ c.into_dyn_box.ensures.1

earthings : (g : _) (c : goal.After-serve g) → ◌≡◌ {A = Plan} ((own.own-1.entry c.into_dyn_box-2.result.vtable).1.plan c.into_dyn_box-2.result.value) earth_text
earthings g c = read_made own.own-1 own.entry-1-2 own.at-1-2 own.same-1-2 Plan (λ j y. j.1.plan y) _ _ _ c.into_dyn_box-2.ensures.1

losses : (g : _) (c : goal.After-serve g) → ◌≡◌ {A = Plan} ((own.own-1.entry c.into_dyn_box-3.result.vtable).1.plan c.into_dyn_box-3.result.value) (volt_text 1)
losses g c =
    let made : c.in-Ok-Ok-Ok.losses.value ≡ c.new-5.result = c.in-Ok-Ok-Ok.ensures''.ok in
    let scaled : ◌≡◌ {A = Plan} (own.entry-1-3.1.plan c.new-5.result) (volt_text 1) = λ k roster views. c.new-5.ensures.plan roster views k in
    read_made own.own-1 own.entry-1-3 own.at-1-3 own.same-1-3 Plan (λ j y. j.1.plan y) _ _ _ c.into_dyn_box-3.ensures.1
    ∙ ap (λ (m : VoltLoss). own.entry-1-3.1.plan m) made ∙ scaled

pub returns-in_default : goal.returns-in_default
returns-in_default g c = c.without_memory.ensures program_plans c.args.asked

pub returns-in_default-2 : goal.returns-in_default-2
returns-in_default-2 g c = c.without_memory-in_default-2.ensures program_plans c.args.asked

pub returns : goal.returns
returns g c =
    attached (λ m. (own.own-1.entry m.vtable).1.plan m.value)
    c.new-monitors.result.items c.push.new.self.items c.push-2.new.self.items c.push-3.new.self.items
    c.into_dyn_box.result c.into_dyn_box-2.result c.into_dyn_box-3.result
    c.new-monitors.ensures.items c.in-Ok-Ok-Ok-2.ensures.items c.in-Ok-Ok-Ok-2.ensures'.items c.in-Ok-Ok-Ok-2.ensures''.items
    (dwells g c) (earthings g c) (losses g c) _ _ _ _ c.serve.ensures
