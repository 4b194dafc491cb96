use Rattle.std.proofs.Common.{◌≡◌, ◌≤◌, ◌+◌, ◌*◌, take, unsigned_abs}
use Rattle.gic_fixed.specs.Sums.{sum_of}
use Rattle.gic_case.specs.Courses.{north_way, east_way}
use Rattle.gic_induce.specs.LineVolts.{part_volts}
use Rattle.gic_induce.proofs.voltage.line_volts.Given as goal

-- the voltage of the parts so far, and how great it is for the way that they lead
abbrev pub invariant-loop-part : goal.invariant-loop-part
invariant-loop-part l = record {
  sum : l.nanovolts ≡ sum_of (part_volts l.zones l.fields) (take l.part-index l.part-items);
  small : unsigned_abs l.nanovolts ≤ 30000000 * (north_way (take l.part-index l.part-items) + east_way (take l.part-index l.part-items));
}
