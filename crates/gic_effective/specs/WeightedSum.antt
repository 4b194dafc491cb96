-- The weighted currents of the three windings that a transformer may have.
use Rattle.std.specs.Prelude.{ℕ, ◌+◌, Option, None, Some, ℤ, pos, ◌+ℤ◌, ◌*ℤ◌}
use Rattle.gic_base.specs.declared.id.ElementId.{ElementId}
use Rattle.gic_winding.specs.declared.weights.Weights.{Weights}

-- a winding's current with its weight; 0 where there is no winding
abbrev pub weighted : Option (ElementId × ℕ) → ℤ → ℤ
weighted None current = pos 0
weighted (Some winding) current = pos winding.1 *ℤ current

-- those of three windings, with their signs, added up
abbrev pub weighted_sum : Weights → ℤ → ℤ → ℤ → ℤ
weighted_sum weights first second third = (weighted weights.first first +ℤ weighted weights.second second) +ℤ weighted weights.third third

-- the weight of a winding; 0 where there is none
abbrev pub weight_in : Option (ElementId × ℕ) → ℕ
weight_in None = 0
weight_in (Some winding) = winding.1

-- the weights of three windings, added up
abbrev pub total_weight : Weights → ℕ
total_weight weights = weight_in weights.first + weight_in weights.second + weight_in weights.third
