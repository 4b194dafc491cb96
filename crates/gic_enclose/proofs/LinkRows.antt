-- What the limits and the row rule say of one row.
use Rattle.std.proofs.Common.{◌≡◌, ℕ, ◌+◌, ◌*◌, ◌/◌, ◌≤◌, ◌<◌, List, [], ◌∷◌, length, ap, arith, ℤ, pos, ◌-ℤ◌, ◌*ℤ◌, ◌≤ℤ◌, mul-le-mul_left, mul-le-mul_right, mul-pos, All}
use Rattle.std.specs.Int.{div_ceil}
use Rattle.std.proofs.lemmas.Grind.{div_ceil_times}
use Rattle.gic_fixed.specs.Rounding.{floor_div}
use Rattle.std.proofs.lemmas.Int.{ints}
use Rattle.std.proofs.lemmas.List.Elements.{All-head, All-tail}
use Rattle.std.proofs.lemmas.Nat.{le-div}
use borrow.Author.Differences.{up, down, sum_is_lem}
use Rattle.gic_enclose.proofs.Links.{Link, denominator, weighted, conductance, flow, diagonal, row_sum, entry_at, IsLinkWithin}
use Rattle.gic_enclose.proofs.LinkSums.{flow_is, weighted_balance, weighted_const}
use Rattle.gic_fixed.proofs.Signs.{floor_parts_le, times_pos}

pub denominator_pos : (row : List Link) → All IsLinkWithin row → 0 < denominator row
denominator_pos [] h = omega arith
denominator_pos (l ∷ ls) h =
    let f = All-head IsLinkWithin l ls h in
    let r : 0 < l.resistance = omega (arith, f.resistance_least) in
    mul-pos r (denominator_pos ls (All-tail IsLinkWithin l ls h))

pub conductance_le : (row : List Link) → All IsLinkWithin row → conductance row ≤ diagonal row * denominator row
conductance_le [] h = omega arith
conductance_le (l ∷ ls) h =
    let f = All-head IsLinkWithin l ls h in
    let c = (div_ceil_times l.numerator l.resistance (omega (arith, f.resistance_least))).0 in
    omega (arith, mul-le-mul_right (denominator ls) c, mul-le-mul_left l.resistance (conductance_le ls (All-tail IsLinkWithin l ls h)))

pub diagonal_le : (row : List Link) → All IsLinkWithin row → diagonal row * denominator row ≤ 2 * conductance row
diagonal_le [] h = omega arith
diagonal_le (l ∷ ls) h =
    let f = All-head IsLinkWithin l ls h in
    let c = (div_ceil_times l.numerator l.resistance (omega (arith, f.resistance_least))).1 in
    let twice : div_ceil l.numerator l.resistance * l.resistance ≤ 2 * l.numerator = omega (arith, f.resistance_most, f.numerator_least) in
    omega (arith, mul-le-mul_right (denominator ls) twice, mul-le-mul_left l.resistance (diagonal_le ls (All-tail IsLinkWithin l ls h)))

pub diagonal_ge : (row : List Link) → All IsLinkWithin row → 1048 * length row ≤ diagonal row
diagonal_ge [] h = omega arith
diagonal_ge (l ∷ ls) h =
    let f = All-head IsLinkWithin l ls h in
    let many : 1048 ≤ l.numerator / l.resistance = le-div 1048 l.numerator l.resistance (omega (arith, f.resistance_least)) (omega (arith, f.resistance_most, f.numerator_least)) in
    omega (arith, diagonal_ge ls (All-tail IsLinkWithin l ls h))

-- the rounding of one sweep is at most six grains
pub rounding_le : (row : List Link) → All IsLinkWithin row → denominator row * (2 * diagonal row + 4096 * length row) ≤ 6 * (diagonal row * denominator row)
rounding_le row h =
    let e : 2 * diagonal row + 4096 * length row ≤ 6 * diagonal row = omega (arith, diagonal_ge row h) in
    omega (arith, mul-le-mul_left (denominator row) e)

-- the row rule, without its floors
rise : (ℕ → ℕ) → ℕ → Link → ℤ
rise vs k l = pos (vs k) -ℤ pos (entry_at vs l.far) -ℤ pos 1

floors : (row : List Link) (vs : ℕ → ℕ) (k : ℕ) → All IsLinkWithin row → up (row_sum row vs k) * denominator row + down (flow (rise vs k) row) ≤ down (row_sum row vs k) * denominator row + up (flow (rise vs k) row)
unfolding rise
floors [] vs k h = omega arith
floors (l ∷ ls) vs k h =
    let f = All-head IsLinkWithin l ls h in
    let z = pos l.numerator *ℤ rise vs k l in
    let q = floor_div z (pos l.resistance) in
    let upper = times_pos l.numerator (rise vs k l) in
    let floor = floor_parts_le l.resistance z (omega (arith, f.resistance_least)) in
    let first : up q * l.resistance + l.numerator * down (rise vs k l) ≤ down q * l.resistance + l.numerator * up (rise vs k l) = omega (arith, floor, upper) in
    let rest = floors ls vs k (All-tail IsLinkWithin l ls h) in
    let sums = ap (λ n. n * (l.resistance * denominator ls)) (sum_is_lem q (row_sum ls vs k)) in
    let product = times_pos (l.numerator * denominator ls) (rise vs k l) in
    let lower = times_pos l.resistance (flow (rise vs k) ls) in
    let whole = sum_is_lem (pos (l.numerator * denominator ls) *ℤ rise vs k l) (pos l.resistance *ℤ flow (rise vs k) ls) in
    omega (arith, sums, product, lower, whole, mul-le-mul_right (denominator ls) first, mul-le-mul_left l.resistance rest)

pub row_rule : (row : List Link) (vs : ℕ → ℕ) (k : ℕ) → All IsLinkWithin row → pos 0 ≤ℤ row_sum row vs k → weighted (λ l. entry_at vs l.far) row + conductance row ≤ vs k * conductance row
unfolding rise
row_rule row vs k h p =
    let v = vs k in
    let a : Link → ℕ = λ l. entry_at vs l.far in
    let above : Link → ℕ = λ l. up (rise vs k l) in
    let below : Link → ℕ = λ l. down (rise vs k l) in
    let sum : up (row_sum row vs k) * denominator row + down (flow (rise vs k) row) ≤ down (row_sum row vs k) * denominator row + up (flow (rise vs k) row) = floors row vs k h in
    let sign : down (row_sum row vs k) ≤ up (row_sum row vs k) = omega (arith, ints) in
    let shrunk = mul-le-mul_right (denominator row) sign in
    let first : weighted (λ l. up (rise vs k l) + 1) row + weighted a row ≡ weighted (λ l. down (rise vs k l)) row + weighted (λ _. v) row = weighted_balance (λ l. up (rise vs k l) + 1) a below (λ _. v) (λ l. omega (arith, ints)) row in
    let second : weighted (λ l. up (rise vs k l)) row + weighted (λ _. 1) row ≡ weighted (λ l. up (rise vs k l) + 1) row + weighted (λ _. 0) row = weighted_balance above (λ _. 1) (λ l. up (rise vs k l) + 1) (λ _. 0) (λ l. omega arith) row in
    omega (arith, flow_is (rise vs k) row, weighted_const v row, weighted_const 0 row)
