use Rattle.std.proofs.Common.{◌≡◌, ◌++◌}
use Rattle.gic_winding.specs.ElementList.{all_windings_of}
use Rattle.gic_winding.proofs.Pushed.{parts_from}
use Rattle.gic_winding.proofs.Parts.{winding_part}
use Rattle.gic_winding.proofs.list.push_all_windings.Given as goal

abbrev pub invariant-loop-place : goal.invariant-loop-place
invariant-loop-place l = l.list.items ++ parts_from (winding_part l.case) l.neutrals l.place ≡ l.fn.list.items ++ all_windings_of l.case
