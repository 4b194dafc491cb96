use Rattle.std.proofs.Common.{◌≡◌, ℕ, ◌<◌, length}
use Rattle.gic_model.specs.Voltages.{number_at}
use Rattle.gic_net.specs.Net.{standing}
use Rattle.gic_view.specs.View.{element_at}
use Rattle.gic_effective.specs.Shown.{IsShownElement}
use Rattle.gic_effective.proofs.view.fill_elements.Given as goal

abbrev pub invariant-loop-place : goal.invariant-loop-place
invariant-loop-place l = record {
  shown : (p : ℕ) → p < l.place → IsShownElement (standing l.net) (number_at l.volts) l.potentials p (element_at l.out p);
  rest : l.out ≡ record l.fn.out { elements = l.out.elements };
  count : length l.out.elements ≡ length l.fn.out.elements;
}
