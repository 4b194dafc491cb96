use Rattle.gic_study_mode.proofs.SeenSteps.{none_seen, next_seen}
use Rattle.gic_study_mode.proofs.steps.see_steps.Goals as goal

pub loop-place-init : goal.loop-place-init
loop-place-init g c = record {
  shows = c.requires.shows;
  seen = none_seen c.args.inputs.now c.args.asked _ c.args.views.now c.requires.of_none c.requires.space;
}

pub loop-place-preserved : goal.loop-place-preserved
loop-place-preserved g c = record {
  shows = c.see_next.ensures.shows;
  seen = next_seen c.args.inputs.now c.args.asked c.loop-place.place _ _ _ c.loop-place.views c.see_next.new.views c.loop-place.invariant.seen c.see_next.ensures.shown;
}
