-- The row of one node: what the row rule says without its rounding.
use Rattle.std.proofs.Common.{◌≡◌, ℕ, ◌*◌, ◌^◌, List, [], ◌∷◌, ℤ, pos, ◌+ℤ◌, ◌-ℤ◌, ◌*ℤ◌, ◌≤ℤ◌, arith, ap, ◌∙◌}
use lib.IntN.{*ℤ-zero}
use Rattle.std.specs.List.{AllByRecursion}
use Rattle.gic_model.specs.Standing.{other_end, value_at}
use Rattle.gic_model.specs.Sums.{Placed, sum_of}
use Rattle.gic_model.specs.Ohms.{product_of_ohms, sum_over_ohms}
use Rattle.gic_model.specs.Bound.{row_part}
use Rattle.gic_fixed.proofs.Integers.{linear, *ℤ-≤ℤ, ≤ℤ-from_*ℤ, *ℤ_assoc, *ℤ--ℤ}
use Rattle.gic_fixed.proofs.Divisions.{floor_below}
use Rattle.gic_model.proofs.SumLaws.{HasOhms, sum_over_ohms-same, sum_over_ohms-≤ℤ, sum_over_ohms-*ℤ, sum_over_ohms-+ℤ, sum_over_ohms-whole}

-- times 10^6, the numerator of an element's conductance
abbrev pub weight : Placed → ℤ
weight p = pos (p.1.times * 1000000)

-- the difference of e across an element, seen from the node k
abbrev pub fall : (ℕ → ℤ) → ℕ → Placed → ℤ
fall e k p = e k -ℤ value_at e (other_end k p.1)

-- what the falls of e carry away from the node k, as a numerator over the product of the resistances
abbrev pub carried : (ℕ → ℤ) → ℕ → List Placed → ℤ
carried e k ps = sum_over_ohms (λ p. weight p *ℤ fall e k p) ps

-- the entries as whole numbers
abbrev pub signed : (ℕ → ℕ) → ℕ → ℤ
signed v m = pos (v m)

-- the rounded parts are at most the exact ones
floors : (v : ℕ → ℕ) (k : ℕ) (ps : List Placed) → AllByRecursion HasOhms ps →
    AllByRecursion (λ p. (pos p.1.micro_ohm *ℤ row_part v k p) ≤ℤ (pos (2 ^ 20) *ℤ (weight p *ℤ (fall (signed v) k p -ℤ pos 1)))) ps
floors v k [] h = tt
floors v k (p ∷ ps) h =
    let loose = fall (signed v) k p -ℤ pos 1 in
    let scaled = pos (p.1.times * 1000000 * 2 ^ 20) *ℤ loose in
    let rounded : (pos p.1.micro_ohm *ℤ row_part v k p) ≤ℤ scaled = floor_below scaled p.1.micro_ohm h.0 in
    let number : p.1.times * 1000000 * 2 ^ 20 ≡ 2 ^ 20 * (p.1.times * 1000000) = omega arith in
    let out : scaled ≡ pos (2 ^ 20) *ℤ (weight p *ℤ loose) = ap (λ z. pos z *ℤ loose) number ∙ *ℤ_assoc (pos (2 ^ 20)) (weight p) loose in
    (omega (arith, linear), floors v k ps h.1)

-- the row rule without its rounding
slack_positive : (v : ℕ → ℕ) (k : ℕ) (ps : List Placed) → AllByRecursion HasOhms ps → pos 0 ≤ℤ sum_of (row_part v k) ps →
    pos 0 ≤ℤ sum_over_ohms (λ p. weight p *ℤ (fall (signed v) k p -ℤ pos 1)) ps
slack_positive v k ps ohms row =
    let exact = λ (p : Placed). weight p *ℤ (fall (signed v) k p -ℤ pos 1) in
    let rounded = sum_over_ohms-≤ℤ (λ p. pos p.1.micro_ohm *ℤ row_part v k p) (λ p. pos (2 ^ 20) *ℤ exact p) ps (floors v k ps ohms) in
    let whole = sum_over_ohms-whole (row_part v k) ps in
    let scaled = sum_over_ohms-*ℤ (pos (2 ^ 20)) exact ps in
    let row_scaled = *ℤ-≤ℤ (product_of_ohms ps) (pos 0) (sum_of (row_part v k) ps) row in
    let nothing = *ℤ-zero (pos (product_of_ohms ps)) in
    let none = *ℤ-zero (pos (2 ^ 20)) in
    let above : (pos (2 ^ 20) *ℤ pos 0) ≤ℤ (pos (2 ^ 20) *ℤ sum_over_ohms exact ps) = omega (arith, linear) in
    ≤ℤ-from_*ℤ (2 ^ 20) _ _ (omega arith) above

-- each fall is its slack and one
each_split : (v : ℕ → ℕ) (k : ℕ) (ps : List Placed) →
    AllByRecursion (λ p. weight p *ℤ fall (signed v) k p ≡ weight p *ℤ (fall (signed v) k p -ℤ pos 1) +ℤ weight p) ps
each_split v k [] = tt
each_split v k (p ∷ ps) = (let split = *ℤ--ℤ (weight p) (fall (signed v) k p) (pos 1) in omega (arith, linear), each_split v k ps)

-- the falls of a bound vector carry at least the conductance
pub row_carries : (v : ℕ → ℕ) (k : ℕ) (ps : List Placed) → AllByRecursion HasOhms ps → pos 0 ≤ℤ sum_of (row_part v k) ps →
    sum_over_ohms weight ps ≤ℤ carried (signed v) k ps
row_carries v k ps ohms row =
    let exact = slack_positive v k ps ohms row in
    let same = sum_over_ohms-same (λ p. weight p *ℤ fall (signed v) k p) (λ p. weight p *ℤ (fall (signed v) k p -ℤ pos 1) +ℤ weight p) ps (each_split v k ps) in
    let sum = sum_over_ohms-+ℤ (λ p. weight p *ℤ (fall (signed v) k p -ℤ pos 1)) weight ps in
    omega (arith, linear)
