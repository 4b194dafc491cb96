use Rattle.std.proofs.Common.{◌≡◌, ℕ, ◌<◌, length}
use Rattle.gic_view.specs.Bounds.{FitsView}
use Rattle.gic_view.specs.View.{effective_at}
use Rattle.gic_superpose.specs.Rows.{row_at}
use Rattle.gic_superpose.specs.Superposed.{superposed}
use Rattle.gic_base_views.proofs.showing.fill_effective.Given as goal

abbrev pub invariant-loop-transformer : goal.invariant-loop-transformer
invariant-loop-transformer l = record {
  shown : (t : ℕ) → t < l.transformer → effective_at l.out t ≡ superposed l.fields (row_at l.rows t);
  small : (t : ℕ) → t < l.transformer → FitsView (effective_at l.out t);
  rest : l.out ≡ record l.fn.out { effective = l.out.effective };
  count : length l.out.effective ≡ length l.fn.out.effective;
}
