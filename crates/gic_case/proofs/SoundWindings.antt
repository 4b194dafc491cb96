-- The windings of transformers: how many there are, and what the first of them tells.
use Rattle.std.proofs.Common.{◌≡◌, ℕ, ◌≤◌, not, List, [], ◌∷◌, length, slice_get, is_some, Some, None, refl, arith}
use Rattle.std.proofs.lemmas.Bool.Decides.{nat_tests}
use Rattle.std.specs.Prelude.{◌==◌}
use Rattle.gic_case.specs.declared.kind.Kind.{Kind}
use Rattle.gic_case.specs.declared.kind.Kind.TheVariants as kinds
use Rattle.gic_case.specs.Windings.{windings_by}

-- a list that isn't empty has a first item
pub some_first : {X : Type 0} (xs : List X) → not (length xs == 0) ≡ is_some (slice_get xs 0)
some_first [] = refl
some_first (x ∷ xs) = grind (arith, nat_tests)

-- at most three windings
pub few_windings : (high_volts : ℕ) (kind : Kind ℕ) → length (windings_by high_volts kind) ≤ 3
few_windings high_volts (kinds.DeltaWye high high_resistance) = omega arith
few_windings high_volts (kinds.WyeWye high low low_volts high_resistance low_resistance None) = omega arith
few_windings high_volts (kinds.WyeWye high low low_volts high_resistance low_resistance (Some t)) = omega arith
few_windings high_volts (kinds.Auto high low low_volts series_resistance common_resistance None) = omega arith
few_windings high_volts (kinds.Auto high low low_volts series_resistance common_resistance (Some t)) = omega arith
few_windings high_volts (kinds.Reactor high high_resistance) = omega arith
few_windings high_volts kinds.DeltaDelta = omega arith
