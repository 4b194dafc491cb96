-- Effective currents over one denominator: the product of all high voltages is a multiple of each.
use Rattle.std.proofs.Common.{◌≡◌, ℕ, zero, suc, ◌*◌, ◌<◌, List, [], ◌∷◌, map, length, get_or, ℤ, pos, ◌*ℤ◌, refl, ap, ◌∙◌, arith}
use lib.IntN.{*ℤ_comm}
use Rattle.std.specs.List.{range_with_len}
use Rattle.std.specs.Prelude.{All}
use Rattle.std.proofs.lemmas.List.FromFn.{get_or-map-range_with_len}
use Rattle.std.proofs.lemmas.List.Elements.{All-head, All-tail}
use Rattle.gic_fixed.proofs.Divisions.{positive_product}
use Rattle.gic_fixed.proofs.Integers.{*ℤ_assoc}
use Rattle.gic_case.specs.Lists.{Lists}
use Rattle.gic_case.specs.Sound.{IsSound, IsSoundTransformer}
use Rattle.gic_case.specs.declared.item.Transformer.{Transformer}
use Rattle.gic_model.specs.Solution.{Solution}
use Rattle.gic_winding.specs.Weights.{transformer_at, no_transformer}
use Rattle.gic_effective.specs.Weighted.{effective_numerator}
use Rattle.gic_monitor.specs.LossBounds.{Currents}
use Rattle.gic_laws.specs.Losses.{AreEffectiveCurrents}

-- the product of the high voltages of some transformers, and that of all but the one at a place
abbrev product : List Transformer → ℕ
product [] = 1
product (t ∷ ts) = t.high_volts * product ts

abbrev product_but : List Transformer → ℕ → ℕ
product_but [] place = 1
product_but (t ∷ ts) zero = product ts
product_but (t ∷ ts) (suc place) = t.high_volts * product_but ts place

turned : (a v c p : ℕ) → v * c ≡ p → v * (a * c) ≡ a * p
turned a v c p is =
    let first : v * (a * c) ≡ a * (v * c) = omega arith in
    first ∙ ap (λ x. a * x) is

product_at : (ts : List Transformer) (place : ℕ) → place < length ts → (get_or ts place no_transformer).high_volts * product_but ts place ≡ product ts
product_at [] place within = absurd (omega (arith, within))
product_at (t ∷ ts) zero within = refl
product_at (t ∷ ts) (suc place) within = turned t.high_volts (get_or ts place no_transformer).high_volts (product_but ts place) (product ts) (product_at ts place (omega (arith, within)))

-- it is above 0
product_some : (case : Lists) (ts : List Transformer) → All (IsSoundTransformer case) ts → 0 < product ts
product_some case [] sound = omega arith
product_some case (t ∷ ts) sound =
    let rated : IsSoundTransformer case t = All-head (IsSoundTransformer case) t ts sound in
    positive_product t.high_volts (product ts) (omega (arith, rated.rated.0)) (product_some case ts (All-tail (IsSoundTransformer case) t ts sound))

-- over plain numbers
equal : (n q : ℤ) (v c p d : ℕ) → n ≡ pos c *ℤ q → v * c ≡ p → n *ℤ pos (3000000 * v * d) ≡ q *ℤ pos (3000000 * p * d)
equal n q v c p d is whole =
    let first : c * (3000000 * v * d) ≡ 3000000 * (v * c) * d = omega arith in
    let times : c * (3000000 * v * d) ≡ 3000000 * p * d = first ∙ ap (λ x. 3000000 * x * d) whole in
    ap (λ z. z *ℤ pos (3000000 * v * d)) (is ∙ *ℤ_comm (pos c) q) ∙ *ℤ_assoc q (pos c) (pos (3000000 * v * d)) ∙ ap (λ k. q *ℤ pos k) times

pub common_currents : (case : Lists) (s : Solution) → IsSound case → 0 < s.denominator → (currents : Currents) × AreEffectiveCurrents case s currents
common_currents case s sound some =
    let ts = case.transformers in
    let part : ℕ → ℤ = λ t. pos (product_but ts t) *ℤ effective_numerator case s t in (
      record { numerators = map part (range_with_len 0 (length ts)); denominator = 3000000 * product ts * s.denominator },
      record {
        above_zero = positive_product (3000000 * product ts) s.denominator (positive_product 3000000 (product ts) (omega arith) (product_some case ts sound.transformers_sound)) some;
        equal = λ t within.
            equal (get_or (map part (range_with_len 0 (length ts))) t (pos 0)) (effective_numerator case s t) (transformer_at case t).high_volts (product_but ts t) (product ts) s.denominator
            (get_or-map-range_with_len part 0 (length ts) t t (pos 0) within (omega arith)) (product_at ts t within);
      },
    )
