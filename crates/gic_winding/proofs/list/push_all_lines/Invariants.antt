use Rattle.std.proofs.Common.{◌≡◌, ◌++◌}
use Rattle.gic_winding.specs.ElementList.{lines_of}
use Rattle.gic_winding.proofs.Pushed.{parts_from}
use Rattle.gic_winding.proofs.Parts.{line_part}
use Rattle.gic_winding.proofs.list.push_all_lines.Given as goal

abbrev pub invariant-loop-place : goal.invariant-loop-place
invariant-loop-place l = l.list.items ++ parts_from (line_part l.case) l.case.lines l.place ≡ l.fn.list.items ++ lines_of l.case
