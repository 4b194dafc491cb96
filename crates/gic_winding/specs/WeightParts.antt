-- The weights of the windings that a transformer may have.
use Rattle.std.specs.Prelude.{ℕ, slice_get}
use Rattle.gic_case.specs.Lists.{Lists}
use Rattle.gic_winding.specs.declared.weights.Weights.{Weights}
use Rattle.gic_winding.specs.Weights.{transformer_at, weighted_windings}

-- the first, the second and the third of them, and the voltage of the high side
abbrev pub weights_of : Lists → ℕ → Weights
weights_of c transformer = record {
  first = slice_get (weighted_windings c transformer) 0;
  second = slice_get (weighted_windings c transformer) 1;
  third = slice_get (weighted_windings c transformer) 2;
  high_volts = (transformer_at c transformer).high_volts;
}
