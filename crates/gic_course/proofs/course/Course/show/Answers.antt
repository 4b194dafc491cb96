use Rattle.std.proofs.Common.{sym, subst}
use Rattle.gic_model.specs.Standing.{rows_in_force, stands_after}
use Rattle.gic_storm.specs.Steps.{time_of_step}
use Rattle.gic_inputs.specs.Inputs.{rows_in}
use Rattle.gic_winding.specs.ElementList.{elements_of}
use Rattle.gic_stand.specs.Standing.{IsSolvable}
use Rattle.gic_course.specs.Steps.{storm_volts}
use Rattle.gic_uniform.proofs.SmallEnds.{view_small}
use Rattle.gic_course.proofs.Absolutes.{view_absolutes}
use Rattle.gic_course.proofs.StepsStand.{solvable_at}
use Rattle.gic_course.proofs.KeptReady.{still_ready}
use Rattle.gic_course.proofs.course.Course.show.Goals as goal

pub show_step-requires-clause-solvable : goal.show_step-requires-clause-solvable
show_step-requires-clause-solvable c =
    subst IsSolvable (sym c.be_ready_for-way.ensures.ready.stands) (solvable_at c.args.inputs.now c.args.number c.requires.shows.solvable c.requires.step)

pub returns-clause-shows : goal.returns-clause-shows
returns-clause-shows c =
    let was = c.be_ready_for-way.ensures.shows in
    let now = c.be_ready_for-way.new.self in
    record {
      own = record {
        storm = was.own.storm;
        epochs = was.own.epochs;
        switched = was.own.switched;
        space = c.show_step.ensures.stays.space;
        ready = still_ready c.args.inputs.now now.ready now.switched.net now.workspace c.show_step.new.workspace c.args.number c.be_ready_for-way.result c.be_ready_for-way.ensures.way c.show_step.ensures.stays was.own.ready;
      };
      solvable = was.solvable;
    }

pub returns-clause-solved : goal.returns-clause-solved
returns-clause-solved c =
    let inputs = c.args.inputs.now in
    let case = inputs.case in
    let rows = rows_in_force (time_of_step inputs.storm.rows c.args.number) (rows_in inputs.switchings) in
    let shown = c.show_step.ensures.shown in
    record {
      number = c.show_step.ensures.number;
      time = c.show_step.ensures.time;
      solved = record {
        right = shown.right;
        narrow = shown.narrow;
        small = view_small c.existence_law.ensures c.potential_law.ensures case (elements_of case) (stands_after rows) (storm_volts inputs c.args.number) c.args.width c.show_step.new.view
            c.keeps_rules.ensures (c.limits_law.ensures case c.keeps_rules.ensures) (solvable_at inputs c.args.number c.requires.shows.solvable c.requires.step) shown.driven
            c.requires.width.most shown.right shown.narrow;
      };
    }

pub returns-clause-absolutes : goal.returns-clause-absolutes
returns-clause-absolutes c =
    let inputs = c.args.inputs.now in
    let case = inputs.case in
    let shown = c.show_step.ensures.shown in
    let rows = rows_in_force (time_of_step inputs.storm.rows c.args.number) (rows_in inputs.switchings) in
    view_absolutes c.existence_law.ensures c.potential_law.ensures case (elements_of case) (stands_after rows) (storm_volts inputs c.args.number) c.args.width c.show_step.new.view
    (c.limits_law.ensures case c.keeps_rules.ensures) (solvable_at inputs c.args.number c.requires.shows.solvable c.requires.step) shown.driven c.requires.width.most
    shown.right shown.narrow shown.absolutes
