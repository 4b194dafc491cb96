-- How weights and stray powers are scaled, for a transformer of this high voltage and potentials in units of so many nanovolts.
use Rattle.std.specs.Prelude.{ℕ, ◌*◌, ◌/◌, ◌==◌, List, ◌++◌, ℤ, pos, if◌then◌else◌}
use Rattle.std.specs.Option.{option_to_list}
use Rattle.gic_base.specs.declared.id.ElementId.{ElementId}
use Rattle.gic_grounds.specs.declared.unit.TheConstants.{ADJOINT_UNIT}
use Rattle.gic_model.specs.Sums.{sum_of}
use Rattle.gic_varied.specs.Certified.{Units}
use Rattle.gic_winding.specs.declared.weights.Weights.{Weights}

-- the greatest voltage of a weight in nanovolts: a third of the greatest for which a network is solved, since a transformer has at most three windings
abbrev pub most_weight_volts : ℕ
most_weight_volts = 96000000000000000

-- the greatest multiple for which no weight's voltage is beyond it
abbrev pub multiple : (high_volts unit : ℕ) → ℕ
multiple high_volts unit = most_weight_volts / (high_volts * (ADJOINT_UNIT * unit))

-- a volt of a weight is this many nanovolts in the adjoint solution: a whole multiple of both units
abbrev pub weight_times : (high_volts unit : ℕ) → ℕ
weight_times high_volts unit = multiple high_volts unit * (ADJOINT_UNIT * unit)

-- so many products of both units make a nanoampere per phase of the weighted current
abbrev pub stray_unit : (high_volts unit : ℕ) → ℕ
stray_unit high_volts unit = 3 * high_volts * multiple high_volts unit

-- the units of a transformer
abbrev pub units_of : (high_volts unit : ℕ) → Units
units_of high_volts unit = record { potential = unit; adjoint = ADJOINT_UNIT; stray = stray_unit high_volts unit }

-- the windings that these weights name, each with its own
abbrev pub windings_in : Weights → List (ElementId × ℕ)
windings_in weights = option_to_list weights.first ++ (option_to_list weights.second ++ option_to_list weights.third)

-- the weight of what is listed at a place, 0 where nothing is
abbrev pub weight_at : List (ElementId × ℕ) → (place : ℕ) → ℤ
weight_at windings place = sum_of (λ w. if w.0.0 == place then pos w.1 else pos 0) windings
