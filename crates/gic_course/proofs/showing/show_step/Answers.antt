use Rattle.std.proofs.Common.{◌≡◌, ℕ, length, ap, sym, subst, ◌∙◌}
use Rattle.gic_net.specs.Net.{standing}
use Rattle.gic_view.specs.View.{View}
use Rattle.gic_course.specs.Steps.{standing_at_step, storm_fields}
use Rattle.gic_course.specs.Views.{IsShownIn}
use Rattle.gic_course.proofs.Told.{shown_told, fields-count}
use Rattle.gic_course.proofs.KeptReady.{settled_with_fields}
use Rattle.gic_course.proofs.SuperposedSteps.{shown_with}
use Rattle.gic_course.proofs.showing.show_step.Goals as goal

pub show_fields-requires-clause-can : goal.show_fields-requires-clause-can
show_fields-requires-clause-can c =
    let ready = c.requires.ready in
    record {
      network = ready.network;
      solvable = c.requires.solvable;
      space = record {
        nodes = ready.space.nodes;
        volts = ready.space.volts;
        zones = ap length c.fill_fields.ensures ∙ fields-count _ _ ∙ ready.storm;
        superposes = ready.space.superposes;
        base_workspace = ready.space.base_workspace;
      };
      settled = settled_with_fields c.args.way c.args.inputs.now.case c.args.net.now c.args.workspace.now _ ready.settled;
    }

both_told : (view numbered timed : View) (number time : ℕ) → numbered ≡ record view { number = number } → timed ≡ record numbered { time = time } → timed ≡ record view { number = number; time = time }
both_told view numbered timed number time first second = second ∙ ap (λ (v : View). record v { time = time }) first

told : (c : goal.After-set_time) → c.set_time.new.self ≡ record c.show_fields.new.view { number = c.args.number; time = c.time_of_step.result }
told c = both_told c.show_fields.new.view c.set_number.new.self c.set_time.new.self c.args.number c.time_of_step.result c.set_number.ensures c.set_time.ensures

pub returns-clause-shown : goal.returns-clause-shown
returns-clause-shown c =
    let inputs = c.args.inputs.now in
    let case = inputs.case in
    let stands = standing_at_step inputs c.args.number in
    let fields = storm_fields inputs c.args.number in
    subst (IsShownIn case stands fields c.args.width) (sym (told c))
    (shown_told case stands fields c.args.width c.show_fields.new.view _ _
    (shown_with case (standing c.args.net.now) _ _ _ c.args.width c.show_fields.new.view c.requires.ready.stands c.fill_fields.ensures c.show_fields.ensures.shown))

pub returns-clause-number : goal.returns-clause-number
returns-clause-number c = ap (λ (v : View). v.number) (told c)

pub returns-clause-time : goal.returns-clause-time
returns-clause-time c = ap (λ (v : View). v.time) (told c) ∙ c.time_of_step.ensures

pub returns-clause-stays : goal.returns-clause-stays
returns-clause-stays c = record {
  storm = c.requires.ready.storm;
  step = c.requires.ready.step;
  network = c.requires.ready.network;
  stands = c.requires.ready.stands;
  space = c.show_fields.ensures.can.space;
  settled = c.show_fields.ensures.can.settled;
}
