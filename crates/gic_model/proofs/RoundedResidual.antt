-- A residual between the sums of its parts rounded down and up.
use Rattle.std.proofs.Common.{List, [], ◌∷◌, length, ℤ, pos, ◌-ℤ◌, ◌*ℤ◌, ◌≤ℤ◌, arith}
use lib.IntN.{*ℤ_comm}
use Rattle.std.specs.List.{AllByRecursion}
use Rattle.gic_fixed.specs.Rounding.{floor_div, ceil_div}
use Rattle.gic_model.specs.Sums.{Placed, sum_of}
use Rattle.gic_model.specs.Ohms.{product_of_ohms, sum_over_ohms}
use Rattle.gic_fixed.proofs.Integers.{linear}
use Rattle.gic_fixed.proofs.Divisions.{floor_below, ceil_above, ceil-floor}
use Rattle.gic_model.proofs.SumLaws.{sum_over_ohms-≤ℤ, sum_over_ohms-*ℤ, sum_over_ohms-whole, HasOhms}

-- each part rounded down, and rounded up
each_floor : (f : Placed → ℤ) (ps : List Placed) → AllByRecursion HasOhms ps →
    AllByRecursion (λ p. (pos p.1.micro_ohm *ℤ floor_div (pos 256 *ℤ f p) (pos p.1.micro_ohm)) ≤ℤ (pos 256 *ℤ f p)) ps
each_floor f [] h = tt
each_floor f (p ∷ ps) h = (floor_below (pos 256 *ℤ f p) p.1.micro_ohm h.0, each_floor f ps h.1)

each_ceil : (f : Placed → ℤ) (ps : List Placed) → AllByRecursion HasOhms ps →
    AllByRecursion (λ p. (pos 256 *ℤ f p) ≤ℤ (pos p.1.micro_ohm *ℤ ceil_div (pos 256 *ℤ f p) (pos p.1.micro_ohm))) ps
each_ceil f [] h = tt
each_ceil f (p ∷ ps) h = (ceil_above (pos 256 *ℤ f p) p.1.micro_ohm h.0, each_ceil f ps h.1)

pub floors_hold : (f : Placed → ℤ) (ps : List Placed) → AllByRecursion HasOhms ps →
    (sum_of (λ p. floor_div (pos 256 *ℤ f p) (pos p.1.micro_ohm)) ps *ℤ pos (product_of_ohms ps)) ≤ℤ (pos 256 *ℤ sum_over_ohms f ps)
floors_hold f ps h =
    let order = sum_over_ohms-≤ℤ (λ p. pos p.1.micro_ohm *ℤ floor_div (pos 256 *ℤ f p) (pos p.1.micro_ohm)) (λ p. pos 256 *ℤ f p) ps (each_floor f ps h) in
    let left = sum_over_ohms-whole (λ p. floor_div (pos 256 *ℤ f p) (pos p.1.micro_ohm)) ps in
    let turned = *ℤ_comm (sum_of (λ p. floor_div (pos 256 *ℤ f p) (pos p.1.micro_ohm)) ps) (pos (product_of_ohms ps)) in
    let right = sum_over_ohms-*ℤ (pos 256) f ps in
    omega (arith, linear)

pub ceils_hold : (f : Placed → ℤ) (ps : List Placed) → AllByRecursion HasOhms ps →
    (pos 256 *ℤ sum_over_ohms f ps) ≤ℤ (sum_of (λ p. ceil_div (pos 256 *ℤ f p) (pos p.1.micro_ohm)) ps *ℤ pos (product_of_ohms ps))
ceils_hold f ps h =
    let order = sum_over_ohms-≤ℤ (λ p. pos 256 *ℤ f p) (λ p. pos p.1.micro_ohm *ℤ ceil_div (pos 256 *ℤ f p) (pos p.1.micro_ohm)) ps (each_ceil f ps h) in
    let right = sum_over_ohms-whole (λ p. ceil_div (pos 256 *ℤ f p) (pos p.1.micro_ohm)) ps in
    let turned = *ℤ_comm (sum_of (λ p. ceil_div (pos 256 *ℤ f p) (pos p.1.micro_ohm)) ps) (pos (product_of_ohms ps)) in
    let left = sum_over_ohms-*ℤ (pos 256) f ps in
    omega (arith, linear)

-- so the sums differ by at most the number of the elements
pub ceils-floors : (f : Placed → ℤ) (ps : List Placed) → AllByRecursion HasOhms ps →
    (sum_of (λ p. ceil_div (f p) (pos p.1.micro_ohm)) ps -ℤ sum_of (λ p. floor_div (f p) (pos p.1.micro_ohm)) ps) ≤ℤ pos (length ps)
ceils-floors f [] h = omega (arith, linear)
ceils-floors f (p ∷ ps) h =
    let here = ceil-floor (f p) p.1.micro_ohm h.0 in
    let rest = ceils-floors f ps h.1 in
    omega (arith, linear)
