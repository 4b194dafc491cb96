use Rattle.std.proofs.Common.{◌≡◌, ◌+◌, drop, vec_len}
use Rattle.toml.specs.View.{items_view}
use Rattle.gic_case_reader.specs.Pass.{rows_from}
use Rattle.gic_case_reader.proofs.Rows.{with_prefix}
use Rattle.gic_case_reader.proofs.list.rows_from.Given as goal

-- the rows so far and those that are left are all of them
abbrev pub invariant-loop-i : goal.invariant-loop-i
invariant-loop-i g l = record {
  many : vec_len l.rows ≡ l.i;
  rest : with_prefix l.rows.items (rows_from (g.R.Row.reads l.format) (l.i + 1) (items_view (drop l.i l.values))) ≡ rows_from (g.R.Row.reads l.format) 1 (items_view l.values);
}
