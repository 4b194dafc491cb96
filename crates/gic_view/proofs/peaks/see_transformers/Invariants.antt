use Rattle.std.proofs.Common.{◌≡◌, ℕ, ◌<◌, ◌≤ℤ◌, length}
use Rattle.gic_fixed.specs.Ends.{zero_ends}
use Rattle.gic_view.specs.View.{effective_at}
use Rattle.gic_view.specs.Peaks.{greater_ends}
use Rattle.gic_view.specs.Absolute.{absolute_ends}
use Rattle.gic_view.proofs.Written.{IsWritten}
use Rattle.gic_view.proofs.peaks.see_transformers.Given as goal

abbrev pub invariant-loop-transformer : goal.invariant-loop-transformer
invariant-loop-transformer l = record {
  written : IsWritten (λ t. greater_ends (effective_at l.fn.peaks t) (absolute_ends (effective_at l.view t))) l.fn.peaks.effective l.peaks.effective zero_ends l.transformer;
  ordered : (t : ℕ) → t < l.transformer → (effective_at l.view t).low ≤ℤ (effective_at l.view t).high;
  rest : l.peaks ≡ record l.fn.peaks { effective = l.peaks.effective };
  count : length l.peaks.effective ≡ length l.fn.peaks.effective;
}
