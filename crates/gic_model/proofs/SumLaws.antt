-- Sums of fractions over a list of elements.
use Rattle.std.proofs.Common.{◌≡◌, ◌<◌, ℤ, pos, ◌+ℤ◌, ◌*ℤ◌, neg_ℤ, ◌≤ℤ◌, List, [], ◌∷◌, arith, refl, ap, sym}
use lib.IntN.{*ℤ_comm, *ℤ-zero}
use Rattle.std.specs.List.{AllByRecursion}
use Rattle.gic_model.specs.Sums.{Placed, sum_of}
use Rattle.gic_model.specs.Ohms.{product_of_ohms, sum_over_ohms}
use Rattle.gic_fixed.proofs.Divisions.{positive_product}
use Rattle.gic_fixed.proofs.Integers.{linear, nothing_from, *ℤ-≤ℤ, *ℤ_assoc, *ℤ-+ℤ, +ℤ-*ℤ, *ℤ_left_comm, *ℤ-neg_ℤ}

-- terms that are equal at each element
pub sum_over_ohms-same : (f g : Placed → ℤ) (ps : List Placed) → AllByRecursion (λ p. f p ≡ g p) ps → sum_over_ohms f ps ≡ sum_over_ohms g ps
sum_over_ohms-same f g [] h = refl
sum_over_ohms-same f g (p ∷ ps) h =
    let here = h.0 in
    let rest = sum_over_ohms-same f g ps h.1 in
    cc

-- terms in order at each element
pub sum_over_ohms-≤ℤ : (f g : Placed → ℤ) (ps : List Placed) → AllByRecursion (λ p. f p ≤ℤ g p) ps → sum_over_ohms f ps ≤ℤ sum_over_ohms g ps
sum_over_ohms-≤ℤ f g [] h = omega (arith, linear)
sum_over_ohms-≤ℤ f g (p ∷ ps) h =
    let here = *ℤ-≤ℤ (product_of_ohms ps) (f p) (g p) h.0 in
    let left = *ℤ_comm (f p) (pos (product_of_ohms ps)) in
    let right = *ℤ_comm (g p) (pos (product_of_ohms ps)) in
    let rest = *ℤ-≤ℤ p.1.micro_ohm (sum_over_ohms f ps) (sum_over_ohms g ps) (sum_over_ohms-≤ℤ f g ps h.1) in
    omega (arith, linear)

-- a factor of each term
pub sum_over_ohms-*ℤ : (c : ℤ) (f : Placed → ℤ) (ps : List Placed) → sum_over_ohms (λ p. c *ℤ f p) ps ≡ c *ℤ sum_over_ohms f ps
sum_over_ohms-*ℤ c f [] = sym (*ℤ-zero c)
sum_over_ohms-*ℤ c f (p ∷ ps) =
    let first = *ℤ_assoc c (f p) (pos (product_of_ohms ps)) in
    let split = *ℤ-+ℤ c (f p *ℤ pos (product_of_ohms ps)) (pos p.1.micro_ohm *ℤ sum_over_ohms f ps) in
    let turned = *ℤ_left_comm c (pos p.1.micro_ohm) (sum_over_ohms f ps) in
    let rest = ap (λ z. pos p.1.micro_ohm *ℤ z) (sum_over_ohms-*ℤ c f ps) in
    omega (arith, linear)

-- a sum of two terms
pub sum_over_ohms-+ℤ : (f g : Placed → ℤ) (ps : List Placed) → sum_over_ohms (λ p. f p +ℤ g p) ps ≡ sum_over_ohms f ps +ℤ sum_over_ohms g ps
sum_over_ohms-+ℤ f g [] = refl
sum_over_ohms-+ℤ f g (p ∷ ps) =
    let first = +ℤ-*ℤ (f p) (g p) (pos (product_of_ohms ps)) in
    let split = *ℤ-+ℤ (pos p.1.micro_ohm) (sum_over_ohms f ps) (sum_over_ohms g ps) in
    let rest = ap (λ z. pos p.1.micro_ohm *ℤ z) (sum_over_ohms-+ℤ f g ps) in
    omega (arith, linear)

-- each term turned below 0
pub sum_over_ohms-neg_ℤ : (f : Placed → ℤ) (ps : List Placed) → sum_over_ohms (λ p. neg_ℤ (f p)) ps ≡ neg_ℤ (sum_over_ohms f ps)
sum_over_ohms-neg_ℤ f [] = refl
sum_over_ohms-neg_ℤ f (p ∷ ps) =
    let turned = *ℤ_comm (neg_ℤ (f p)) (pos (product_of_ohms ps)) in
    let first = *ℤ-neg_ℤ (pos (product_of_ohms ps)) (f p) in
    let back = *ℤ_comm (f p) (pos (product_of_ohms ps)) in
    let last = *ℤ-neg_ℤ (pos p.1.micro_ohm) (sum_over_ohms f ps) in
    let rest = ap (λ z. pos p.1.micro_ohm *ℤ z) (sum_over_ohms-neg_ℤ f ps) in
    omega (arith, linear)

-- fractions that are whole
pub sum_over_ohms-whole : (f : Placed → ℤ) (ps : List Placed) → sum_over_ohms (λ p. pos p.1.micro_ohm *ℤ f p) ps ≡ pos (product_of_ohms ps) *ℤ sum_of f ps
sum_over_ohms-whole f [] = refl
sum_over_ohms-whole f (p ∷ ps) =
    let ohm = pos p.1.micro_ohm in
    let others = pos (product_of_ohms ps) in
    let first = *ℤ_assoc ohm (f p) others in
    let turned = ap (λ z. ohm *ℤ z) (*ℤ_comm (f p) others) in
    let all = *ℤ_assoc ohm others (f p +ℤ sum_of f ps) in
    let within = ap (λ z. ohm *ℤ z) (*ℤ-+ℤ others (f p) (sum_of f ps)) in
    let split = *ℤ-+ℤ ohm (others *ℤ f p) (others *ℤ sum_of f ps) in
    let rest = ap (λ z. ohm *ℤ z) (sum_over_ohms-whole f ps) in
    omega (arith, linear)

-- the resistance is above 0
abbrev pub HasOhms : Placed → Type 0
HasOhms p = 0 < p.1.micro_ohm

pub product_positive : (ps : List Placed) → AllByRecursion HasOhms ps → 0 < product_of_ohms ps
product_positive [] h = omega arith
product_positive (p ∷ ps) h = positive_product p.1.micro_ohm (product_of_ohms ps) h.0 (product_positive ps h.1)

-- a sum is not below 0 where no term is
pub not_below : (f : Placed → ℤ) (ps : List Placed) → AllByRecursion (λ p. pos 0 ≤ℤ f p) ps → pos 0 ≤ℤ sum_over_ohms f ps
not_below f [] h = omega (arith, linear)
not_below f (p ∷ ps) h =
    let none = *ℤ-zero (pos (product_of_ohms ps)) in
    let no_rest = *ℤ-zero (pos p.1.micro_ohm) in
    let turned = *ℤ_comm (f p) (pos (product_of_ohms ps)) in
    let first = *ℤ-≤ℤ (product_of_ohms ps) (pos 0) (f p) h.0 in
    let rest = *ℤ-≤ℤ p.1.micro_ohm (pos 0) (sum_over_ohms f ps) (not_below f ps h.1) in
    omega (arith, linear)

-- a sum that is 0 of terms that are not below 0 has no term above 0
pub each_nothing : (f : Placed → ℤ) (ps : List Placed) → AllByRecursion HasOhms ps → AllByRecursion (λ p. pos 0 ≤ℤ f p) ps → sum_over_ohms f ps ≡ pos 0 →
    AllByRecursion (λ p. f p ≡ pos 0) ps
each_nothing f [] ohms h is = tt
each_nothing f (p ∷ ps) ohms h is =
    let none = *ℤ-zero (pos (product_of_ohms ps)) in
    let no_rest = *ℤ-zero (pos p.1.micro_ohm) in
    let turned = *ℤ_comm (f p) (pos (product_of_ohms ps)) in
    let first = *ℤ-≤ℤ (product_of_ohms ps) (pos 0) (f p) h.0 in
    let rest = *ℤ-≤ℤ p.1.micro_ohm (pos 0) (sum_over_ohms f ps) (not_below f ps h.1) in
    let here : pos (product_of_ohms ps) *ℤ f p ≡ pos 0 = omega (arith, linear) in
    let there : pos p.1.micro_ohm *ℤ sum_over_ohms f ps ≡ pos 0 = omega (arith, linear) in
    (nothing_from (product_of_ohms ps) (f p) (product_positive ps ohms.1) here, each_nothing f ps ohms.1 h.1 (nothing_from p.1.micro_ohm (sum_over_ohms f ps) ohms.0 there))
