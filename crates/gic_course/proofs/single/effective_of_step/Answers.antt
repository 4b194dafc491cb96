use Rattle.std.proofs.Common.{length, ap, ◌∙◌}
use Rattle.gic_fixed.specs.Ends.{ends_of}
use Rattle.gic_net.specs.Net.{standing}
use Rattle.gic_course.proofs.Told.{fields-count}
use Rattle.gic_course.proofs.KeptReady.{settled_with_fields}
use Rattle.gic_course.proofs.SuperposedSteps.{right_with}
use Rattle.gic_course.proofs.single.effective_of_step.Goals as goal

pub effective_in_fields-requires-clause-can : goal.effective_in_fields-requires-clause-can
effective_in_fields-requires-clause-can c =
    let ready = c.requires.ready in
    record {
      network = ready.network;
      solvable = c.requires.solvable;
      space = record {
        nodes = ready.space.nodes;
        volts = ready.space.volts;
        zones = ap length c.fill_fields.ensures ∙ fields-count _ _ ∙ ready.storm;
        superposes = ready.space.superposes;
        base_workspace = ready.space.base_workspace;
      };
      settled = settled_with_fields c.args.way c.args.inputs.now.case c.args.net.now c.args.workspace.now _ ready.settled;
    }

pub returns-clause-shown : goal.returns-clause-shown
returns-clause-shown c =
    right_with c.args.inputs.now.case (standing c.args.net.now) _ _ _ c.args.transformer c.args.width (ends_of c.effective_in_fields.result) c.requires.ready.stands c.fill_fields.ensures
    c.effective_in_fields.ensures.shown

pub returns-clause-stays : goal.returns-clause-stays
returns-clause-stays c = record {
  storm = c.requires.ready.storm;
  step = c.requires.ready.step;
  network = c.requires.ready.network;
  stands = c.requires.ready.stands;
  space = c.effective_in_fields.ensures.can.space;
  settled = c.effective_in_fields.ensures.can.settled;
}
