use Rattle.std.proofs.Common.{length, map, ap, ◌∙◌}
use Rattle.gic_monitor.specs.RosterView.{RosterView}
use Rattle.gic_study_mode.proofs.workspace.make_workspace.Goals as goal

pub returns-clause-made : goal.returns-clause-made
returns-clause-made g c = c.in_ok-steps.ensures

pub returns-clause-count : goal.returns-clause-count
returns-clause-count g c = c.in_ok-begin.ensures.count ∙ ap length c.new-board.ensures

pub returns-clause-plans : goal.returns-clause-plans
returns-clause-plans g c = λ views.
    c.in_ok-begin.ensures.texts views
    ∙ ap (map (λ m. (goal.Monitor-dyn g (m.vtable, m.value)).plan m.value c.in_ok-steps.steps.roster views)) c.new-board.ensures
    ∙ ap (λ (roster : RosterView). map (λ m. (goal.Monitor-dyn g (m.vtable, m.value)).plan m.value roster views) c.args.monitors.items) c.in_ok-steps.ensures.roster
