-- The effective intervals of a solved view are small.
use Rattle.std.proofs.Common.{ℕ, ◌*◌, ◌<◌, ◌≤◌, ◌^◌, Bool, length, ℤ, pos, neg_ℤ, ◌-ℤ◌, ◌*ℤ◌, ◌≤ℤ◌, unsigned_abs, arith}
use lib.IntN.{*ℤ_comm}
use Rattle.std.proofs.lemmas.Int.{ints}
use Rattle.std.proofs.lemmas.List.Elements.{All-get_or}
use Rattle.gic_case.specs.Lists.{Lists}
use Rattle.gic_case.specs.Sound.{IsSound, IsSoundTransformer}
use Rattle.gic_exists.specs.Exists.{EarthedNetworksAreSolved}
use Rattle.gic_fixed.specs.Encloses.{Encloses, IsWithin}
use Rattle.gic_fixed.proofs.Enclosures.{Encloses-in_order}
use Rattle.gic_fixed.proofs.Integers.{≤ℤ-from_*ℤ, *ℤ-neg_ℤ}
use Rattle.gic_model.specs.declared.parts.Item.{Item}
use Rattle.gic_model.specs.Limits.{IsWithinLimits, AreVolts}
use Rattle.gic_model.specs.Network.{Network}
use Rattle.gic_model.specs.SolutionLaws.{PotentialsAreBounded}
use Rattle.gic_model.specs.Standing.{standing_elements}
use Rattle.gic_model.proofs.Ends.{standing_within}
use Rattle.gic_stand.specs.Standing.{IsSolvable}
use Rattle.gic_view.specs.View.{View, effective_at}
use Rattle.gic_winding.specs.Weights.{transformer_at, no_transformer}
use Rattle.gic_effective.specs.Narrow.{IsNarrowView}
use Rattle.gic_effective.specs.RightView.{IsRightView}
use Rattle.gic_effective.specs.Weighted.{effective_numerator, effective_denominator}
use Rattle.gic_effective.proofs.Weighings.{weights_at_most}
use Rattle.gic_uniform.proofs.Denominators.{some_denominator}
use Rattle.gic_uniform.proofs.FewCurrents.{current_few, most_element_current, numerator_few}

-- over plain numbers: an end below a fraction that is within m, and one above it
low_end : (lo q : ℤ) (d m : ℕ) → 0 < d → (lo *ℤ pos d) ≤ℤ q → unsigned_abs q ≤ d * m → lo ≤ℤ pos m
low_end lo q d m some above few =
    let turned = *ℤ_comm lo (pos d) in
    let most : (pos d *ℤ lo) ≤ℤ (pos d *ℤ pos m) = omega (arith, ints, turned, above, few) in
    ≤ℤ-from_*ℤ d lo (pos m) some most

high_end : (hi q : ℤ) (d m : ℕ) → 0 < d → q ≤ℤ (hi *ℤ pos d) → unsigned_abs q ≤ d * m → neg_ℤ (pos m) ≤ℤ hi
high_end hi q d m some below few =
    let turned = *ℤ_comm hi (pos d) in
    let least = *ℤ-neg_ℤ (pos d) (pos m) in
    let most : (pos d *ℤ neg_ℤ (pos m)) ≤ℤ (pos d *ℤ hi) = omega (arith, ints, turned, below, few, least) in
    ≤ℤ-from_*ℤ d (neg_ℤ (pos m)) hi some most

both_small : (lo hi : ℤ) (width : ℕ) → lo ≤ℤ pos (2 ^ 51) → neg_ℤ (pos (2 ^ 51)) ≤ℤ hi → (hi -ℤ lo) ≤ℤ pos width → lo ≤ℤ hi → width ≤ 10000 → IsWithin (2 ^ 52) lo hi
both_small lo hi width low high narrow order least = record {
  low = omega (arith, ints, low, high, narrow, order);
  high = omega (arith, ints, low, high, narrow, order);
}

pub ends_small : (lo hi q : ℤ) (d width : ℕ) → 0 < d → Encloses lo hi q d → unsigned_abs q ≤ d * 2 ^ 51 → (hi -ℤ lo) ≤ℤ pos width → width ≤ 10000 → IsWithin (2 ^ 52) lo hi
ends_small lo hi q d width some holds few narrow least =
    both_small lo hi width (low_end lo q d (2 ^ 51) some holds.above_lo few) (high_end hi q d (2 ^ 51) some holds.below_hi few) narrow (Encloses-in_order lo hi q d some holds) least

-- in a view of a network that can be solved
pub view_small : EarthedNetworksAreSolved → PotentialsAreBounded → (case : Lists) (network : Network) (stands : Item → Bool) (volts : ℕ → ℤ) (width : ℕ) (view : View)
    → IsSound case → IsWithinLimits network → IsSolvable (standing_elements network stands) → AreVolts volts → width ≤ 10000
    → IsRightView case (standing_elements network stands) volts view → IsNarrowView case width view
    → (t : ℕ) → t < length case.transformers → IsWithin (2 ^ 52) (effective_at view t).low (effective_at view t).high
view_small exist bounded case network stands volts width view sound limits solvable driven least right narrow t inside =
    let standing = standing_elements network stands in
    let has = exist network stands volts limits solvable.earthed in
    let s = has.solution in
    let some = has.solves.denominator_above_0 in
    let row = transformer_at case t in
    let rated : IsSoundTransformer case row = All-get_or (IsSoundTransformer case) case.transformers t no_transformer inside sound.transformers_sound in
    let d = effective_denominator case t s in
    let current = current_few network.nodes standing (standing_within network stands limits) volts driven s has.solves
    (λ k live. omega (arith, bounded network stands volts s k limits solvable.within driven has.solves live)) in
    let few = numerator_few case t s (most_element_current * s.denominator) inside (weights_at_most case row rated) current in
    ends_small (effective_at view t).low (effective_at view t).high (effective_numerator case s t) d width
    (some_denominator case t s sound inside some)
    ((right.effective t inside).holds s has.solves) (few_of row.high_volts s.denominator _ few) (narrow.effective t inside) least
  where
    few_of : (v n q : ℕ) → q ≤ 3 * (v * (most_element_current * n)) → q ≤ 3000000 * v * n * 2 ^ 51
    few_of v n q h = omega (arith, h)
