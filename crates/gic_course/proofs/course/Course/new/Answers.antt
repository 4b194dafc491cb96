use Rattle.std.proofs.Common.{◌∙◌}
use Rattle.gic_inputs.specs.Inputs.{rows_in}
use Rattle.gic_course.proofs.course.Course.new.Goals as goal

pub returns : goal.returns
returns c = record {
  storm = c.requires;
  epochs = c.in_ok-epochs.ensures;
  switched = record {
    network = c.in_ok-switched.ensures.network ∙ c.in_ok-elements.ensures;
    stands = c.in_ok-switched.ensures.stands (rows_in c.args.inputs.now.switchings);
  };
  space = c.in_ok-workspace.ensures;
  ready = tt;
}
