use Rattle.std.proofs.Common.{◌≡◌, ℤ, pos, ◌-ℤ◌, ◌≤ℤ◌, to_z, of_z, arith, rules, sym, subst₂}
use Rattle.std.specs.Int.{w64, w128}
use Rattle.std.proofs.lemmas.Int.{ints}
use Rattle.gic_fixed.specs.Rounding.{floor_div, ceil_div}
use Rattle.gic_fixed.proofs.Divisions.{floor_le_ceil}
use Rattle.gic_superpose.specs.Superposed.{sums_in_milli}
use Rattle.gic_superpose.proofs.compact.milli.Goals as goal

pub invariant_of-result : goal.invariant_of-result
invariant_of-result c =
    let low : to_z w128 (of_z w128 (to_z w64 (of_z w64 c.floor_milli-low.result))) ≡ floor_div c.args.sums.low (pos sums_in_milli) = search rules in
    let high : to_z w128 (of_z w128 (pos 0 -ℤ to_z w128 (of_z w128 (to_z w64 (of_z w64 c.floor_milli-turned.result))))) ≡ ceil_div c.args.sums.high (pos sums_in_milli) = search rules in
    record { ordered = subst₂ (λ (a b : ℤ). a ≤ℤ b) (sym low) (sym high) (floor_le_ceil c.args.sums.low c.args.sums.high (pos sums_in_milli) (omega (arith, ints)) c.requires.ordered) }
