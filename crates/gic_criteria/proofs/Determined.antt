-- The two signed intervals determine the worst one.
use Rattle.std.proofs.Common.{◌≡◌, ◌∙◌, ℕ, zero, suc, ◌+◌, ◌*◌, ◌<◌, ◌≤◌, ◌⊎◌, inl, inr, ℤ, pos, negsuc, ◌≤ℤ◌, unsigned_abs, ap, arith}
use Rattle.std.proofs.lemmas.Bool.{cases_lt}
use Rattle.std.proofs.lemmas.Int.{ints}
use Rattle.gic_fixed.specs.Ends.{Ends, zero_ends}
use Rattle.gic_fixed.specs.Roots.{IsFloorRoot, IsCeilRoot}
use Rattle.gic_criteria.specs.Worst.{IsWorstOf, WorstIsDetermined, WorstOfZeroIsZero, WorstAboutZero, ends_about_zero, ends_up_to_2}
use Rattle.gic_criteria.proofs.Squares.{square-le}

-- a number has one root rounded down, and one rounded up
no_more : (a r s : ℕ) → r * r ≤ a → a < (s + 1) * (s + 1) → r ≤ s
no_more a r s low next = by (cases_lt s r)
  where
    by : (s < r) ⊎ (r ≤ s) → r ≤ s
    by (inl more) = let squares = square-le (s + 1) r (omega (arith, more)) in absurd (omega (arith, squares, low, next))
    by (inr less) = less

floor_same : (a r s : ℕ) → IsFloorRoot a r → IsFloorRoot a s → r ≡ s
floor_same a r s one other =
    let first = no_more a r s one.square other.next in
    let second = no_more a s r other.square one.next in
    omega (arith, first, second)

ceil_same : (a r s : ℕ) → IsCeilRoot a r → IsCeilRoot a s → r ≡ s
ceil_same a r s one other =
    let first = one.least s other.square in
    let second = other.least r one.square in
    omega (arith, first, second)

-- numbers that aren't below 0 are equal where their absolute values are
same_number : (x y : ℤ) → pos 0 ≤ℤ x → pos 0 ≤ℤ y → unsigned_abs x ≡ unsigned_abs y → x ≡ y
same_number (pos x) (pos y) p q e = ap (λ n. pos n) e
same_number (pos x) (negsuc y) p q e = absurd (omega (arith, ints, q))
same_number (negsuc x) y p q e = absurd (omega (arith, ints, p))

high_sign : (low high : ℤ) → pos 0 ≤ℤ low → low ≤ℤ high → pos 0 ≤ℤ high
high_sign low high p q = omega (arith, ints, p, q)

abbrev from_to : ℤ → ℤ → Ends
from_to low high = record { low = low; high = high }

pub worst_determined : WorstIsDetermined
worst_determined north east worst other one two =
    let low = same_number worst.low other.low one.not_negative two.not_negative (floor_same _ _ _ one.low two.low) in
    let high = same_number worst.high other.high (high_sign worst.low worst.high one.not_negative one.in_order) (high_sign other.low other.high two.not_negative two.in_order) (ceil_same _ _ _ one.high two.high) in
    ap (λ l. from_to l worst.high) low ∙ ap (λ h. from_to other.low h) high

-- of two points 0
zero_is : IsWorstOf zero_ends zero_ends zero_ends
zero_is = record {
  not_negative = omega (arith, ints);
  in_order = omega (arith, ints);
  low = record { square = omega arith; next = omega arith };
  high = record { square = omega arith; least = λ k h. omega arith };
}

pub worst_of_zero : WorstOfZeroIsZero
worst_of_zero worst is = worst_determined zero_ends zero_ends worst zero_ends is zero_is

-- of two intervals about 0
two_at_least : (k : ℕ) → 2 ≤ k * k → 2 ≤ k
two_at_least zero h = absurd (omega (arith, h))
two_at_least (suc zero) h = absurd (omega (arith, h))
two_at_least (suc (suc k)) h = omega arith

about_zero_is : IsWorstOf ends_about_zero ends_about_zero ends_up_to_2
about_zero_is = record {
  not_negative = omega (arith, ints);
  in_order = omega (arith, ints);
  low = record { square = omega arith; next = omega arith };
  high = record { square = omega arith; least = two_at_least };
}

pub worst_about_zero : WorstAboutZero
worst_about_zero worst is = worst_determined ends_about_zero ends_about_zero worst ends_up_to_2 is about_zero_is
