use Rattle.std.proofs.Common.{arith, ◌≡◌, ℕ, ◌+◌, ◌*◌, ◌/◌, ◌%◌, ◌^◌, ◌<◌, ◌≤◌, ap, sym, ◌∙◌}
use Rattle.std.proofs.lemmas.Nat.{div-mul-add, mod-mul-add}
use Rattle.std.proofs.Math.Nat.{le-mul_of_pos_right, lt_of_mul-lt-mul_right, mul_assoc}
use Rattle.gic_fixed.proofs.long.divided.Goals as goal

-- two digits make the number
digits : (n d m q r t rest p u : ℕ) → n / 2 ^ 64 ≡ q * d + r → r * 2 ^ 64 + n % 2 ^ 64 ≡ t * (m * d) + rest → rest ≡ p * d + u → n ≡ (q * 2 ^ 64 + (t * m + p)) * d + u
digits n d m q r t rest p u a b e = omega (arith, a, b, e, mul_assoc t m d)

-- the second has 64 bits
small : (n d m r t rest p u : ℕ) → r < d → r * 2 ^ 64 + n % 2 ^ 64 ≡ t * (m * d) + rest → rest ≡ p * d + u → t * m + p < 2 ^ 64
small n d m r t rest p u less b e = lt_of_mul-lt-mul_right d (omega (arith, b, e, less, mul_assoc t m d))

pub overflow_mul-result : goal.overflow_mul-result
overflow_mul-result c = record {
  fits = omega (arith, small c.args.number c.args.by.divisor c.args.by.estimate c.next_digit-high.result.rest c.take_products-taken.result.times c.take_products-taken.result.rest c.last_digit-last.result.quotient c.last_digit-last.result.rest c.next_digit-high.ensures.less c.take_products-taken.ensures c.last_digit-last.ensures.parts);
}

pub overflow_add-result : goal.overflow_add-result
overflow_add-result c = record {
  fits = small c.args.number c.args.by.divisor c.args.by.estimate c.next_digit-high.result.rest c.take_products-taken.result.times c.take_products-taken.result.rest c.last_digit-last.result.quotient c.last_digit-last.result.rest c.next_digit-high.ensures.less c.take_products-taken.ensures c.last_digit-last.ensures.parts;
}

pub returns : goal.returns
returns c =
    let n = c.args.number in
    let d = c.args.by.divisor in
    let m = c.args.by.estimate in
    let q = c.next_digit-high.result.quotient in
    let r = c.next_digit-high.result.rest in
    let t = c.take_products-taken.result.times in
    let p = c.last_digit-last.result.quotient in
    let u = c.last_digit-last.result.rest in
    let all = digits n d m q r t c.take_products-taken.result.rest p u c.next_digit-high.ensures.parts c.take_products-taken.ensures c.last_digit-last.ensures.parts in
    let fits = small n d m r t c.take_products-taken.result.rest p u c.next_digit-high.ensures.less c.take_products-taken.ensures c.last_digit-last.ensures.parts in
    let quotient : n / d ≡ q * 2 ^ 64 + (t * m + p) = ap (λ k. k / d) all ∙ div-mul-add (q * 2 ^ 64 + (t * m + p)) d u c.last_digit-last.ensures.less in
    let one : q ≤ q * d = le-mul_of_pos_right q c.requires.some in
    let rest : n % d ≡ u = ap (λ k. k % d) all ∙ mod-mul-add (q * 2 ^ 64 + (t * m + p)) d u c.last_digit-last.ensures.less in
    record { whole = omega arith; rest = sym rest }
