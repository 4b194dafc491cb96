use Rattle.std.proofs.Common.{◌≡◌, ◌+◌, drop, vec_len}
use Rattle.std.specs.HashMap.{get}
use Rattle.gic_case.specs.Names.{same}
use Rattle.gic_case_reader.specs.Pass.{each, line_in}
use Rattle.gic_case_reader.proofs.Rows.{with_prefix}
use Rattle.gic_case_reader.proofs.reference.lines_in.Given as goal

-- the lines so far and those that are left are all of them
abbrev pub invariant-loop-i : goal.invariant-loop-i
invariant-loop-i l = record {
  many : vec_len l.lines ≡ l.i;
  rest : with_prefix l.lines.items (each (line_in (get same l.buses) (get same l.zones)) (l.i + 1) (drop l.i l.rows)) ≡ each (line_in (get same l.buses) (get same l.zones)) 1 l.rows;
}
