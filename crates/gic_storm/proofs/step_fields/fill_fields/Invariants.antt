use Rattle.std.proofs.Common.{◌≡◌, ◌<◌, ℕ, length, get_or}
use Rattle.gic_induce.specs.Fields.{no_field}
use Rattle.gic_storm.specs.StepFields.{field_at_step}
use Rattle.gic_storm.proofs.step_fields.fill_fields.Given as goal

-- the zones so far have their fields
abbrev pub invariant-loop-zone : goal.invariant-loop-zone
invariant-loop-zone l = record {
  count : length l.out ≡ l.storm.zones;
  filled : (k : ℕ) → k < l.zone → get_or l.out k no_field ≡ field_at_step l.rows k;
}
