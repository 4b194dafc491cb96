use Rattle.std.proofs.Common.{◌≡◌, ◌++◌, drop, length}
use Rattle.gic_winding.specs.ElementList.{winding_elements}
use Rattle.gic_winding.proofs.push.push_elements.Given as goal

-- the elements so far and those of the windings that are left are all
abbrev pub invariant-loop-winding : goal.invariant-loop-winding
invariant-loop-winding l =
    l.list.items ++ winding_elements (length l.case.substations) l.place l.neutral.0 (drop l.winding-index l.windings)
    ≡ l.fn.list.items ++ winding_elements (length l.case.substations) l.place l.neutral.0 l.windings
