use Rattle.std.proofs.Common.{◌≡◌, ◌++◌}
use Rattle.gic_winding.specs.ElementList.{resistors_of}
use Rattle.gic_winding.proofs.Pushed.{parts_from}
use Rattle.gic_winding.proofs.Parts.{resistor_part}
use Rattle.gic_winding.proofs.list.push_all_resistors.Given as goal

abbrev pub invariant-loop-place : goal.invariant-loop-place
invariant-loop-place l = l.list.items ++ parts_from (resistor_part l.case) l.neutrals l.place ≡ l.fn.list.items ++ resistors_of l.case
