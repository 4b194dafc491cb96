use Rattle.std.proofs.Common.{◌≡◌, ℕ, ◌<◌, length}
use Rattle.gic_view.specs.View.{effective_at}
use Rattle.gic_worst.specs.Rows.{screen_row_at, IsRowOf}
use Rattle.gic_worst.proofs.rows.fill_rows.Given as goal

-- the rows so far are those of the two views
abbrev pub invariant-loop-transformer : goal.invariant-loop-transformer
invariant-loop-transformer l = record {
  filled : (t : ℕ) → t < l.transformer → IsRowOf (effective_at l.north t) (effective_at l.east t) (screen_row_at l.rows t);
  count : length l.rows ≡ length l.fn.rows;
}
