-- Sums over units by their places.
use Rattle.std.proofs.Common.{◌≡◌, ℕ, zero, suc, ◌+◌, ◌<◌, ◌≤◌, List, [], ◌∷◌, length, take, drop, get_or, ℤ, pos, ◌+ℤ◌, ◌*ℤ◌, refl, sym, ap, ◌∙◌, arith, drop-cons, add-one}
use Rattle.std.specs.List.{enumerate_from}
use Rattle.std.proofs.lemmas.List.{get_or_past}
use Rattle.gic_fixed.specs.Ends.{Ends, zero_ends}
use Rattle.gic_fixed.specs.Sums.{sum_of}
use Rattle.gic_fixed.proofs.Integers.{linear}
use Rattle.gic_view.specs.View.{View}
use Rattle.gic_monitor.specs.LossText.{counted_current, unit_loss, least_loss, most_loss}
use lib.IntN.{*ℤ-zero}

-- the sum so far, and what is left of it, when the next unit is put in
pub sum_next : (f : ℕ × ℕ → ℤ) (xs : List ℕ) (i : ℕ) (sum : ℤ) → i < length xs →
    (sum +ℤ f (i, get_or xs i 0)) +ℤ sum_of f (enumerate_from (i + 1) (drop (i + 1) xs)) ≡ sum +ℤ sum_of f (enumerate_from i (drop i xs))
sum_next f xs i sum inside =
    rw (drop-cons xs i 0 inside) (rw (add-one i) (omega (arith, linear)))

-- units that draw nothing from a place on
nothing_from : (f : ℕ × ℕ → ℤ) (n : ℕ) (xs : List ℕ) → ((k x : ℕ) → n ≤ k → f (k, x) ≡ pos 0) → sum_of f (enumerate_from n xs) ≡ pos 0
nothing_from f n [] none = refl
nothing_from f n (x ∷ xs) none =
    let here = none n x (omega arith) in
    let rest = nothing_from f (n + 1) xs (λ k y h. none k y (omega arith)) in
    omega (arith, linear)

-- may be left out
sum_of-prefix : (f : ℕ × ℕ → ℤ) (n m : ℕ) (xs : List ℕ) → ((k x : ℕ) → n + m ≤ k → f (k, x) ≡ pos 0) →
    sum_of f (enumerate_from n (take m xs)) ≡ sum_of f (enumerate_from n xs)
sum_of-prefix f n zero xs none = sym (nothing_from f n xs (λ k x h. none k x (omega arith)))
sum_of-prefix f n (suc m) [] none = refl
sum_of-prefix f n (suc m) (x ∷ xs) none =
    ap (λ z. f (n, x) +ℤ z) (sum_of-prefix f (n + 1) m xs (λ k y h. none k y (omega arith)))

-- a unit that the view doesn't have draws nothing
no_loss : (view : View) (k x : ℕ) → length view.effective ≤ k → unit_loss view (k, x) ≡ zero_ends
no_loss view k x past =
    ap (λ (e : Ends). let loss : Ends = record { low = pos x *ℤ (counted_current e).low; high = pos x *ℤ (counted_current e).high } in loss)
    (get_or_past view.effective k zero_ends past)
    ∙ ap (λ (z : ℤ). let loss : Ends = record { low = z; high = z } in loss) (*ℤ-zero (pos x))

-- so the units that the view has make the whole
pub least_of_view : (factors : List ℕ) (view : View) → least_loss (take (length view.effective) factors) view ≡ least_loss factors view
least_of_view factors view =
    sum_of-prefix (λ unit. (unit_loss view unit).low) 0 (length view.effective) factors
    (λ k x h. ap (λ (e : Ends). e.low) (no_loss view k x (omega arith)))

pub most_of_view : (factors : List ℕ) (view : View) → most_loss (take (length view.effective) factors) view ≡ most_loss factors view
most_of_view factors view =
    sum_of-prefix (λ unit. (unit_loss view unit).high) 0 (length view.effective) factors
    (λ k x h. ap (λ (e : Ends). e.high) (no_loss view k x (omega arith)))
