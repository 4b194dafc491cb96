use Rattle.std.proofs.Common.{◌≡◌, ◌≤◌, ◌+◌, drop}
use Rattle.csv.specs.declared.parser.State.TheVariants.{StartRecord}
use Rattle.gic_records.specs.Prefix.{state_of, prefix_len}
use Rattle.gic_records.specs.declared.prefix.TheConstants.{MOST_COLUMNS}
use Rattle.gic_records.proofs.prefix.prefix_len.Given as goal

-- the bytes so far and the prefix of those that are left are the prefix of all
abbrev pub invariant-loop-i : goal.invariant-loop-i
invariant-loop-i l = record {
  ended : l.ended ≤ MOST_COLUMNS;
  prefix : prefix_len (state_of l.place) l.ended (drop l.i l.text) + l.i ≡ prefix_len StartRecord 0 l.text;
}
