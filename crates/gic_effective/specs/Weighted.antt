-- The weighted currents of a transformer's windings.
use Rattle.std.specs.Prelude.{ℕ, ◌*◌, ℤ, pos, ◌*ℤ◌}
use Rattle.gic_case.specs.Lists.{Lists}
use Rattle.gic_model.specs.Solution.{Solution}
use Rattle.gic_model.specs.Sums.{sum_of}
use Rattle.gic_winding.specs.Weights.{transformer_at, weighted_windings}

-- the numerator of a transformer's signed effective current in a solution: the sum of its windings' currents, each times its weight
abbrev pub effective_numerator : Lists → Solution → ℕ → ℤ
effective_numerator c s transformer = sum_of (λ w. pos w.1 *ℤ s.current w.0.0) (weighted_windings c transformer)

-- what `effective_numerator` is to be divided by: 3000000 times the voltage of the transformer's high side and the solution's denominator give mA per phase
abbrev pub effective_denominator : Lists → (t : ℕ) → Solution → ℕ
effective_denominator case t s = 3000000 * (transformer_at case t).high_volts * s.denominator
