use Rattle.std.proofs.Common.{◌≡◌, ◌++◌, map, take}
use Rattle.gic_case_reader.proofs.list.push_names.Given as goal

abbrev pub invariant-loop-row : goal.invariant-loop-row
invariant-loop-row g l = l.names.items ≡ l.fn.names.items ++ map g.R.Row.named (take l.row-index l.rows)
