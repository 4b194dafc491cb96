use Rattle.std.proofs.Common.{sym, subst, List}
use Rattle.std.specs.Prelude.{Any}
use Rattle.gic_switch.specs.declared.epoch.Epoch.{Epoch}
use Rattle.gic_stand.specs.Standing.{IsSolvable}
use Rattle.gic_course.specs.Epochs.{HasStep}
use Rattle.gic_course.proofs.Walked.{has_epoch, listed_epoch}
use Rattle.gic_course.proofs.StepsStand.{solvable_at, step_in, first_step}
use Rattle.gic_course.proofs.KeptReady.{ready_for}
use Rattle.gic_course.proofs.course.Course.be_ready_for.Goals as goal

pub returns-in-Some-clause-ready : goal.returns-in-Some-clause-ready
returns-in-Some-clause-ready c =
    let own = c.requires.shows.own in
    ready_for c.args.inputs.now c.args.self.now.ready c.args.self.now.switched.net c.args.self.now.workspace c.args.number c.in-Some.way own.storm own.switched.network own.space own.ready
    c.in-Some.ensures.ready

pub epoch_with-epoch-requires : goal.epoch_with-epoch-requires
epoch_with-epoch-requires c =
    subst (λ (es : List Epoch). Any (HasStep c.args.number) es) (sym c.as_slice.ensures.value)
    (has_epoch 1 _ c.args.number c.args.self.now.epochs.items c.requires.shows.own.epochs.cover c.requires.step.least c.requires.step.most)

pub put_in_force-changed-requires-clause-epoch : goal.put_in_force-changed-requires-clause-epoch
put_in_force-changed-requires-clause-epoch c =
    listed_epoch c.args.inputs.now c.args.self.now.epochs.items _ c.epoch_with-epoch.result c.as_slice.ensures.value c.requires.shows.own.epochs c.epoch_with-epoch.ensures.listed

pub prepare_epoch-way-requires-clause-epoch : goal.prepare_epoch-way-requires-clause-epoch
prepare_epoch-way-requires-clause-epoch c =
    listed_epoch c.args.inputs.now c.args.self.now.epochs.items _ c.epoch_with-epoch.result c.as_slice.ensures.value c.requires.shows.own.epochs c.epoch_with-epoch.ensures.listed

pub prepare_epoch-way-requires-clause-solvable : goal.prepare_epoch-way-requires-clause-solvable
prepare_epoch-way-requires-clause-solvable c =
    let inputs = c.args.inputs.now in
    let e = c.epoch_with-epoch.result in
    let own = listed_epoch inputs c.args.self.now.epochs.items _ e c.as_slice.ensures.value c.requires.shows.own.epochs c.epoch_with-epoch.ensures.listed in
    let first = first_step inputs e own in
    subst IsSolvable (sym (c.put_in_force-changed.ensures.stands e.first first)) (solvable_at inputs e.first c.requires.shows.solvable (step_in inputs e e.first own first))

pub returns-clause-ready : goal.returns-clause-ready
returns-clause-ready c = record {
  storm = c.requires.shows.own.storm;
  step = c.requires.step;
  network = c.put_in_force-changed.ensures.switched.network;
  stands = c.put_in_force-changed.ensures.stands c.args.number c.epoch_with-epoch.ensures.step;
  space = c.prepare_epoch-way.ensures.workspace;
  settled = c.prepare_epoch-way.ensures.settled;
}

pub returns-clause-shows : goal.returns-clause-shows
returns-clause-shows c =
    let inputs = c.args.inputs.now in
    let e = c.epoch_with-epoch.result in
    let epoch = listed_epoch inputs c.args.self.now.epochs.items _ e c.as_slice.ensures.value c.requires.shows.own.epochs c.epoch_with-epoch.ensures.listed in
    record {
      own = record {
        storm = c.requires.shows.own.storm;
        epochs = c.requires.shows.own.epochs;
        switched = c.put_in_force-changed.ensures.switched;
        space = c.prepare_epoch-way.ensures.workspace;
        ready = record {
          steps = λ number has. (step_in inputs e number epoch has, c.put_in_force-changed.ensures.stands number has);
          settled = c.prepare_epoch-way.ensures.settled;
        };
      };
      solvable = c.requires.shows.solvable;
    }
