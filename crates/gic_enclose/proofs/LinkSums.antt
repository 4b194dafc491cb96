-- Sums of fractions over a row, as functions of what is summed.
use Rattle.std.proofs.Common.{◌≡◌, ℕ, ◌+◌, ◌*◌, ◌≤◌, List, [], ◌∷◌, ap, refl, arith, ℤ, mul-le-mul_left, All}
use Rattle.std.proofs.lemmas.Int.{ints}
use Rattle.std.proofs.lemmas.List.Elements.{All-head, All-tail}
use borrow.Author.Differences.{up, down}
use Rattle.gic_enclose.proofs.Links.{Link, denominator, weighted, conductance, flow}

pub weighted_const : (c : ℕ) (row : List Link) → weighted (λ _. c) row ≡ c * conductance row
weighted_const c [] = omega arith
weighted_const c (l ∷ ls) = omega (arith, ap (λ n. l.resistance * n) (weighted_const c ls))

pub weighted_balance : (a b c d : Link → ℕ) → ((l : Link) → a l + b l ≡ c l + d l) → (row : List Link) → weighted a row + weighted b row ≡ weighted c row + weighted d row
weighted_balance a b c d h [] = refl
weighted_balance a b c d h (l ∷ ls) =
    let m = l.numerator * denominator ls in
    omega (arith, ap (λ n. m * n) (h l), ap (λ n. l.resistance * n) (weighted_balance a b c d h ls))

pub weighted_close : (c k : ℕ) (p q v : Link → ℕ) → ((l : Link) → c * p l ≤ k * v l + c * q l) → (row : List Link) → c * weighted p row ≤ k * weighted v row + c * weighted q row
weighted_close c k p q v h [] = omega arith
weighted_close c k p q v h (l ∷ ls) =
    let m = l.numerator * denominator ls in
    omega (arith, mul-le-mul_left m (h l), mul-le-mul_left l.resistance (weighted_close c k p q v h ls))

pub flow_is : (f : Link → ℤ) (row : List Link) → up (flow f row) + weighted (λ l. down (f l)) row ≡ down (flow f row) + weighted (λ l. up (f l)) row
flow_is f [] = refl
flow_is f (l ∷ ls) = omega (arith, ints, ap (λ n. l.resistance * n) (flow_is f ls))

pub weighted_balance4 : (a b c d e f g h : Link → ℕ) → ((l : Link) → a l + b l + c l + d l ≡ e l + f l + g l + h l) → (row : List Link) →
    weighted a row + weighted b row + weighted c row + weighted d row ≡ weighted e row + weighted f row + weighted g row + weighted h row
weighted_balance4 a b c d e f g h same [] = refl
weighted_balance4 a b c d e f g h same (l ∷ ls) =
    let m = l.numerator * denominator ls in
    omega (arith, ap (λ n. m * n) (same l), ap (λ n. l.resistance * n) (weighted_balance4 a b c d e f g h same ls))

pub weighted_close_all : (c k : ℕ) (p q v : Link → ℕ) (row : List Link) → All (λ l. c * p l ≤ k * v l + c * q l) row → c * weighted p row ≤ k * weighted v row + c * weighted q row
weighted_close_all c k p q v [] h = omega arith
weighted_close_all c k p q v (l ∷ ls) h =
    let m = l.numerator * denominator ls in
    let first : c * p l ≤ k * v l + c * q l = All-head (λ l. c * p l ≤ k * v l + c * q l) l ls h in
    let rest = weighted_close_all c k p q v ls (All-tail (λ l. c * p l ≤ k * v l + c * q l) l ls h) in
    omega (arith, mul-le-mul_left m first, mul-le-mul_left l.resistance rest)

-- a bound on a sum of two
pub weighted_sum_le : (f g : Link → ℕ) (c m : ℕ) → ((l : Link) → 1 * f l + c * g l ≤ m) → (row : List Link) → weighted f row + c * weighted g row ≤ m * conductance row
weighted_sum_le f g c m h [] = omega arith
weighted_sum_le f g c m h (l ∷ ls) =
    omega (arith, mul-le-mul_left (l.numerator * denominator ls) (h l), mul-le-mul_left l.resistance (weighted_sum_le f g c m h ls))

pub weighted_times : (c : ℕ) (f : Link → ℕ) (row : List Link) → weighted (λ l. c * f l) row ≡ c * weighted f row
weighted_times c f [] = omega arith
weighted_times c f (l ∷ ls) = omega (arith, ap (λ n. l.resistance * n) (weighted_times c f ls))
