use Rattle.std.proofs.Common.{◌≡◌, ◌++◌, ◌≤◌, drop, length}
use Rattle.gic_study_mode.specs.Seats.{seats_from}
use Rattle.gic_study_mode.proofs.roster.seats_of.Given as goal

-- the seats so far, and those of the substations that are left, are all
abbrev pub invariant-loop-substation : goal.invariant-loop-substation
invariant-loop-substation l = record {
  seats : l.seats.items ++ seats_from (length l.seats.items) (drop l.substation-index l.case.substations) ≡ seats_from 0 l.case.substations;
  count : length l.seats.items ≤ l.substation-index;
}
