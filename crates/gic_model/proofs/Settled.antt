-- Conductances in units of 2^-20 siemens against the exact ones.
use Rattle.std.proofs.Common.{◌≡◌, ℕ, suc, ◌*◌, ◌/◌, ◌^◌, ◌<◌, ◌≤◌, List, [], ◌∷◌, ℤ, pos, negsuc, ◌*ℤ◌, ◌≤ℤ◌, unsigned_abs, arith, ap, ◌∙◌}
use Rattle.std.specs.List.{AllByRecursion, sum_by}
use Rattle.std.specs.Int.{div_ceil}
use Rattle.gic_fixed.proofs.Sums.{sum_of-pos}
use Rattle.std.proofs.lemmas.Grind.{div_ceil_times}
use Rattle.std.proofs.Math.Nat.{mul-le-mul_left, mul-le-mul_right, mul-div-le}
use Rattle.gic_model.specs.Limits.{IsElementWithin}
use Rattle.gic_model.specs.Sums.{Placed}
use Rattle.gic_model.specs.Ohms.{product_of_ohms, sum_over_ohms}
use Rattle.gic_fixed.proofs.Integers.{linear}
use Rattle.gic_model.proofs.SumLaws.{sum_over_ohms-≤ℤ, sum_over_ohms-*ℤ, sum_over_ohms-whole}
use Rattle.gic_model.proofs.Ends.{some_times}
use Rattle.gic_model.proofs.Row.{weight}

-- the numerator of a sum of whole fractions
whole : (f : Placed → ℕ) (ps : List Placed) → sum_over_ohms (λ p. pos p.1.micro_ohm *ℤ pos (f p)) ps ≡ pos (product_of_ohms ps * sum_by f ps)
whole f ps = sum_over_ohms-whole (λ p. pos (f p)) ps ∙ ap (λ z. pos (product_of_ohms ps) *ℤ z) (sum_of-pos f ps)

each_down : (ps : List Placed) → AllByRecursion (λ p. (pos p.1.micro_ohm *ℤ pos (p.1.times * 1000000 * 2 ^ 20 / p.1.micro_ohm)) ≤ℤ (pos (2 ^ 20) *ℤ weight p)) ps
each_down [] = tt
each_down (p ∷ ps) =
    let part = mul-div-le (p.1.times * 1000000 * 2 ^ 20) p.1.micro_ohm in
    (omega (arith, linear), each_down ps)

-- parts that are rounded down
pub rounded_down : (ps : List Placed) →
    pos (product_of_ohms ps * sum_by (λ p. p.1.times * 1000000 * 2 ^ 20 / p.1.micro_ohm) ps) ≤ℤ (pos (2 ^ 20) *ℤ sum_over_ohms weight ps)
rounded_down ps =
    let order = sum_over_ohms-≤ℤ (λ p. pos p.1.micro_ohm *ℤ pos (p.1.times * 1000000 * 2 ^ 20 / p.1.micro_ohm)) (λ p. pos (2 ^ 20) *ℤ weight p) ps (each_down ps) in
    let left = whole (λ p. p.1.times * 1000000 * 2 ^ 20 / p.1.micro_ohm) ps in
    let right = sum_over_ohms-*ℤ (pos (2 ^ 20)) weight ps in
    omega (arith, linear)

each_up : (ps : List Placed) → AllByRecursion (λ p. 0 < p.1.micro_ohm) ps →
    AllByRecursion (λ p. (pos (2 ^ 20) *ℤ weight p) ≤ℤ (pos p.1.micro_ohm *ℤ pos (div_ceil (p.1.times * 1000000 * 2 ^ 20) p.1.micro_ohm))) ps
each_up [] h = tt
each_up (p ∷ ps) h =
    let part = (div_ceil_times (p.1.times * 1000000 * 2 ^ 20) p.1.micro_ohm h.0).0 in
    (omega (arith, linear), each_up ps h.1)

-- parts that are rounded up
pub rounded_up : (ps : List Placed) → AllByRecursion (λ p. 0 < p.1.micro_ohm) ps →
    (pos (2 ^ 20) *ℤ sum_over_ohms weight ps) ≤ℤ pos (product_of_ohms ps * sum_by (λ p. div_ceil (p.1.times * 1000000 * 2 ^ 20) p.1.micro_ohm) ps)
rounded_up ps h =
    let order = sum_over_ohms-≤ℤ (λ p. pos (2 ^ 20) *ℤ weight p) (λ p. pos p.1.micro_ohm *ℤ pos (div_ceil (p.1.times * 1000000 * 2 ^ 20) p.1.micro_ohm)) ps (each_up ps h) in
    let right = whole (λ p. div_ceil (p.1.times * 1000000 * 2 ^ 20) p.1.micro_ohm) ps in
    let left = sum_over_ohms-*ℤ (pos (2 ^ 20)) weight ps in
    omega (arith, linear)

-- a resistance is at most an element's conductance in these units
pub record IsSmall (p : Placed) : Type 0 where
  pub above : 0 < p.1.micro_ohm
  pub small : p.1.micro_ohm ≤ p.1.times * 1000000 * 2 ^ 20

pub small-within : (nodes : ℕ) (p : Placed) → IsElementWithin nodes p.1 → IsSmall p
small-within nodes p h =
    let some = some_times nodes p h in
    let least = h.least_ohm in
    let most = h.most_ohm in
    record { above = omega arith; small = omega arith }

each_twice : (ps : List Placed) → AllByRecursion IsSmall ps →
    AllByRecursion (λ p. (pos p.1.micro_ohm *ℤ pos (div_ceil (p.1.times * 1000000 * 2 ^ 20) p.1.micro_ohm)) ≤ℤ (pos (2 * 2 ^ 20) *ℤ weight p)) ps
each_twice [] h = tt
each_twice (p ∷ ps) h =
    let part = (div_ceil_times (p.1.times * 1000000 * 2 ^ 20) p.1.micro_ohm h.0.above).1 in
    let small = h.0.small in
    (omega (arith, linear), each_twice ps h.1)

-- parts that are rounded up are at most twice the exact ones
pub rounded_twice : (ps : List Placed) → AllByRecursion IsSmall ps →
    pos (product_of_ohms ps * sum_by (λ p. div_ceil (p.1.times * 1000000 * 2 ^ 20) p.1.micro_ohm) ps) ≤ℤ (pos (2 * 2 ^ 20) *ℤ sum_over_ohms weight ps)
rounded_twice ps h =
    let order = sum_over_ohms-≤ℤ (λ p. pos p.1.micro_ohm *ℤ pos (div_ceil (p.1.times * 1000000 * 2 ^ 20) p.1.micro_ohm)) (λ p. pos (2 * 2 ^ 20) *ℤ weight p) ps (each_twice ps h) in
    let left = whole (λ p. div_ceil (p.1.times * 1000000 * 2 ^ 20) p.1.micro_ohm) ps in
    let right = sum_over_ohms-*ℤ (pos (2 * 2 ^ 20)) weight ps in
    omega (arith, linear)

-- over plain numbers: m at most what g carries at t
carries : (m h p t c g : ℕ) → 256 * m ≤ h * p → 4096 * h ≤ t * c → p * c ≤ 1048576 * g → m ≤ t * g
carries m h p t c g units small down =
    let first : 4096 * h * p ≤ t * c * p = mul-le-mul_right p small in
    let second : t * (p * c) ≤ t * (1048576 * g) = mul-le-mul_left t down in
    omega arith

-- the same of a whole number between two multiples of p
pub settled_between : (r lo hi : ℤ) (p t c g : ℕ) → (lo *ℤ pos p) ≤ℤ (pos 256 *ℤ r) → (pos 256 *ℤ r) ≤ℤ (hi *ℤ pos p) →
    4096 * unsigned_abs lo ≤ t * c → 4096 * unsigned_abs hi ≤ t * c → p * c ≤ 1048576 * g → unsigned_abs r ≤ t * g
settled_between (pos m) lo hi p t c g below above small_lo small_hi down = carries m (unsigned_abs hi) p t c g (upper hi above) small_hi down
  where
    upper : (z : ℤ) → (pos 256 *ℤ pos m) ≤ℤ (z *ℤ pos p) → 256 * m ≤ unsigned_abs z * p
    upper (pos a) h = omega (arith, linear)
    upper (negsuc a) h = omega (arith, linear)
settled_between (negsuc m) lo hi p t c g below above small_lo small_hi down = carries (suc m) (unsigned_abs lo) p t c g (lower lo below) small_lo down
  where
    lower : (z : ℤ) → (z *ℤ pos p) ≤ℤ (pos 256 *ℤ negsuc m) → 256 * suc m ≤ unsigned_abs z * p
    lower (pos a) h = omega (arith, linear)
    lower (negsuc a) h = omega (arith, linear)
