use Rattle.std.proofs.Common.{◌≡◌, ◌++◌}
use Rattle.gic_winding.specs.ElementList.{earthings_of}
use Rattle.gic_winding.proofs.Pushed.{parts_from}
use Rattle.gic_winding.proofs.Parts.{earthing_part}
use Rattle.gic_winding.proofs.list.push_all_earthings.Given as goal

abbrev pub invariant-loop-place : goal.invariant-loop-place
invariant-loop-place l = l.list.items ++ parts_from (earthing_part) l.case.substations l.place ≡ l.fn.list.items ++ earthings_of l.case
