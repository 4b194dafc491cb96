use Rattle.std.proofs.Common.{◌≡◌, ℕ, ◌<◌, length}
use Rattle.gic_model.specs.Voltages.{number_at}
use Rattle.gic_net.specs.Net.{standing}
use Rattle.gic_view.specs.View.{effective_at}
use Rattle.gic_effective.specs.Shown.{IsShownEffective}
use Rattle.gic_effective.proofs.view.fill_effective.Given as goal

abbrev pub invariant-loop-transformer : goal.invariant-loop-transformer
invariant-loop-transformer l = record {
  shown : (t : ℕ) → t < l.transformer → IsShownEffective l.case (standing l.net) (number_at l.volts) l.potentials t (effective_at l.out t);
  rest : l.out ≡ record l.fn.out { effective = l.out.effective };
  count : length l.out.effective ≡ length l.fn.out.effective;
}
