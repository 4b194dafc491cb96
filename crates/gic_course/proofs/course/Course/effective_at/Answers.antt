use Rattle.std.proofs.Common.{sym, subst}
use Rattle.gic_stand.specs.Standing.{IsSolvable}
use Rattle.gic_course.proofs.StepsStand.{solvable_at}
use Rattle.gic_course.proofs.KeptReady.{still_ready}
use Rattle.gic_course.proofs.course.Course.effective_at.Goals as goal

pub effective_of_step-requires-clause-solvable : goal.effective_of_step-requires-clause-solvable
effective_of_step-requires-clause-solvable c =
    subst IsSolvable (sym c.be_ready_for-way.ensures.ready.stands) (solvable_at c.args.inputs.now c.args.number c.requires.shows.solvable c.requires.step)

pub returns-clause-shows : goal.returns-clause-shows
returns-clause-shows c =
    let was = c.be_ready_for-way.ensures.shows in
    let now = c.be_ready_for-way.new.self in
    let stays = c.effective_of_step.ensures.stays in
    record {
      own = record {
        storm = was.own.storm;
        epochs = was.own.epochs;
        switched = was.own.switched;
        space = stays.space;
        ready = still_ready c.args.inputs.now now.ready now.switched.net now.workspace c.effective_of_step.new.workspace c.args.number c.be_ready_for-way.result c.be_ready_for-way.ensures.way stays was.own.ready;
      };
      solvable = was.solvable;
    }
