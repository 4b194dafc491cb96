use Rattle.std.proofs.Common.{◌≡◌, ◌+◌, ◌++◌, length, drop}
use Rattle.gic_model.specs.Standing.{rows_in_force}
use Rattle.gic_storm.specs.Steps.{time_of_step}
use Rattle.gic_switch.proofs.Runs.{runs_after, all_runs, counts_of}
use Rattle.gic_switch.proofs.epoch.epochs.Given as goal

-- the epochs so far and the runs of the counts that are left are all of them
abbrev pub invariant-loop-number : goal.invariant-loop-number
invariant-loop-number l = record {
  last : l.epoch.last + 1 ≡ l.number;
  count : l.epoch.through ≡ length (rows_in_force (time_of_step l.storm.rows l.epoch.last) l.switchings);
  rest : l.epochs.items ++ runs_after l.epoch.first l.epoch.last l.epoch.through (drop l.epoch.last (counts_of l.storm.rows l.switchings)) ≡ all_runs (counts_of l.storm.rows l.switchings);
}
