use Rattle.std.proofs.Common.{length, ap, ◌∙◌}
use Rattle.gic_stand.proofs.Repeated.{repeated_length}
use Rattle.gic_robust.proofs.workspace.make_workspace.Goals as goal

pub returns : goal.returns
returns c = record {
  space = c.in_ok-varied.ensures.space;
  nets = c.in_ok-varied.ensures.nets;
  volts = c.in_ok-volts.ensures;
  row_count = repeated_length _ _ _ c.in_ok-rows.ensures ∙ ap length c.transformers.ensures.value;
}
