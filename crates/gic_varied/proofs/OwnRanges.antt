-- Ranges hold what lies within their tolerances, and the resistance itself.
use Rattle.std.proofs.Common.{◌≡◌, ◌⊎◌, ℕ, ◌+◌, ◌-◌, ◌*◌, ◌/◌, ◌≤◌, max, min, Bool, true, arith, ap, ⊎_elim}
use Rattle.std.specs.Int.{div_ceil}
use Rattle.std.proofs.lemmas.Grind.{div_ceil_times}
use Rattle.std.proofs.lemmas.List.Elements.{All-from_recursion}
use Rattle.std.proofs.Math.Nat.{mul-le-mul_left, mul-le-mul_right, mul-div-le}
use Rattle.gic_base.proofs.Each.{weaker}
use Rattle.gic_model.specs.declared.parts.Item.{Item}
use Rattle.gic_model.specs.Limits.{IsWithinLimits, IsElementWithin}
use Rattle.gic_model.specs.Network.{Network}
use Rattle.gic_model.specs.Standing.{standing_elements}
use Rattle.gic_model.proofs.Ends.{standing_within}
use Rattle.gic_varied.specs.Grounds.{is_ground}
use Rattle.gic_varied.specs.Ranges.{ground_range, ranges_of, IsInRange, AreInRanges}
use Rattle.gic_varied.specs.VariedLaws.{HoldsTolerance}

either_max : (m n : ℕ) → (max m n ≡ m) ⊎ (max m n ≡ n)
either_max m n = grind arith

either_min : (m n : ℕ) → (min m n ≡ m) ⊎ (min m n ≡ n)
either_min m n = grind arith

-- the greater and the lesser of two numbers, times a factor
max_times : (m n b a : ℕ) → m * b ≤ a → n * b ≤ a → max m n * b ≤ a
max_times m n b a h k = ⊎_elim (λ is. let same = ap (λ z. z * b) is in omega arith) (λ is. let same = ap (λ z. z * b) is in omega arith) (either_max m n)

min_times : (m n b a : ℕ) → a ≤ m * b → a ≤ n * b → a ≤ min m n * b
min_times m n b a h k = ⊎_elim (λ is. let same = ap (λ z. z * b) is in omega arith) (λ is. let same = ap (λ z. z * b) is in omega arith) (either_min m n)

-- a quotient rounded down, and one rounded up, times a factor
floor_times : (x b a : ℕ) → x * b ≤ 100 * a → x / 100 * b ≤ a
floor_times x b a h =
    let down : 100 * (x / 100) ≤ x = mul-div-le x 100 in
    let times : 100 * (x / 100) * b ≤ x * b = mul-le-mul_right b down in
    omega arith

ceil_times : (x b a : ℕ) → 100 * a ≤ x * b → a ≤ div_ceil x 100 * b
ceil_times x b a h =
    let above : x ≤ div_ceil x 100 * 100 = (div_ceil_times x 100 (omega arith)).0 in
    let times : x * b ≤ div_ceil x 100 * 100 * b = mul-le-mul_right b above in
    omega arith

pub holds_tolerance : (percent ohm a b : ℕ) → ohm * (100 - percent) * b ≤ 100 * a → 100 * a ≤ ohm * (100 + percent) * b → 1000 * b ≤ a → a ≤ 1000000000 * b → HoldsTolerance percent ohm a b
holds_tolerance percent ohm a b low high least most = record {
  at_least = max_times 1000 (ohm * (100 - percent) / 100) b a least (floor_times (ohm * (100 - percent)) b a low);
  at_most = min_times 1000000000 (div_ceil (ohm * (100 + percent)) 100) b a most (ceil_times (ohm * (100 + percent)) b a high);
}

pub own_in_range : (percent ohm : ℕ) → 1000 ≤ ohm → ohm ≤ 1000000000 → IsInRange (ground_range percent ohm) ohm
own_in_range percent ohm least most =
    let less : ohm * (100 - percent) ≤ ohm * 100 = mul-le-mul_left ohm (omega arith) in
    let more : ohm * 100 ≤ ohm * (100 + percent) = mul-le-mul_left ohm (omega arith) in
    let low : ohm * (100 - percent) / 100 * 1 ≤ ohm = floor_times (ohm * (100 - percent)) 1 ohm (omega arith) in
    let high : ohm ≤ div_ceil (ohm * (100 + percent)) 100 * 1 = ceil_times (ohm * (100 + percent)) 1 ohm (omega arith) in
    record {
      above_0 = omega arith;
      at_least = omega arith;
      at_most = omega arith;
    }

pub own_grounds : (network : Network) (stands : Item → Bool) (percent : Item → ℕ) → IsWithinLimits network →
    AreInRanges (ranges_of percent) (λ e. e.micro_ohm) (standing_elements network stands)
own_grounds network stands percent limits =
    All-from_recursion (λ p. is_ground p.1 ≡ true → IsInRange (ranges_of percent p.1) p.1.micro_ohm) (standing_elements network stands)
    (weaker (λ p. IsElementWithin network.nodes p.1) (λ p. is_ground p.1 ≡ true → IsInRange (ranges_of percent p.1) p.1.micro_ohm)
    (λ p h ground. own_in_range (percent p.1.item) p.1.micro_ohm h.least_ohm h.most_ohm) (standing_elements network stands)
    (standing_within network stands limits))
