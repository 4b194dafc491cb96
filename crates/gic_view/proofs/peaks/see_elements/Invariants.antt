use Rattle.std.proofs.Common.{◌≡◌, None, length, option_map}
use Rattle.gic_view.specs.View.{element_at}
use Rattle.gic_view.specs.Peaks.{greater}
use Rattle.gic_view.specs.Absolute.{absolute_ends}
use Rattle.gic_view.proofs.Written.{IsWritten}
use Rattle.gic_view.proofs.peaks.see_elements.Given as goal

abbrev pub invariant-loop-place : goal.invariant-loop-place
invariant-loop-place l = record {
  written : IsWritten (λ k. greater (element_at l.fn.peaks k) (option_map absolute_ends (element_at l.view k))) l.fn.peaks.elements l.peaks.elements None l.place;
  rest : l.peaks ≡ record l.fn.peaks { elements = l.peaks.elements };
  count : length l.peaks.elements ≡ length l.fn.peaks.elements;
}
