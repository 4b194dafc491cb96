use Rattle.std.proofs.Common.{◌≡◌, ◌≤◌, ◌<◌, vec_len, ◌+◌, ◌-◌, None, unwrap_or, length, get_or, All}
use Rattle.std.specs.List.Sorted.{IsNonDecreasingBy}
use Rattle.gic_records.specs.RowPass.{rows_in}
use Rattle.gic_records.proofs.ReadRows.{with_prefix}
use Rattle.gic_records.proofs.rows.read_rows.Given as goal

-- the rows so far and those of the records that are left are all of them, and no time so far is above the last
abbrev pub invariant-loop-row : goal.invariant-loop-row
invariant-loop-row g l = record {
  many : vec_len l.rows + 1 ≡ l.row;
  rest : with_prefix l.rows.items (rows_in (g.R.RowReader.reads l.reader) g.R.RowReader.time_of l.most g.R.RowReader.late l.row l.before l.records) ≡ rows_in (g.R.RowReader.reads l.fn.reader) g.R.RowReader.time_of l.fn.most g.R.RowReader.late 1 None l.fn.records;
  ordered : IsNonDecreasingBy g.R.RowReader.time_of l.rows.items;
  last : (d : _) → 0 < length l.rows.items → g.R.RowReader.time_of (get_or l.rows.items (length l.rows.items - 1) d) ≤ unwrap_or l.before 0;
  each : All (g.R.RowReader.keeps l.reader) l.rows.items;
}
