-- The stray power of a ground lies between the least and the greatest of its range's conductances, less its own, times Y P'.
use Rattle.std.proofs.Common.{◌≡◌, inl, inr, ℕ, suc, ◌-◌, ◌*◌, ◌<◌, ◌≤◌, ℤ, pos, negsuc, ◌-ℤ◌, ◌*ℤ◌, neg_ℤ, ◌≤ℤ◌, arith, ap, sym, ◌∙◌}
use lib.IntN.{*ℤ_comm, *ℤ-zero}
use borrow.Author.Differences.{same_in}
use Rattle.std.specs.Int.{int_min, int_max}
use Rattle.std.proofs.lemmas.Int.{ints, clamps}
use Rattle.gic_fixed.specs.Encloses.{Encloses}
use Rattle.gic_fixed.specs.Ends.{Ends}
use Rattle.gic_fixed.specs.Rounding.{floor_div, ceil_div}
use Rattle.gic_fixed.proofs.Integers.{linear, up-*ℤ, down-*ℤ, *ℤ-≤ℤ, ≤ℤ-from_*ℤ, *ℤ--ℤ, *ℤ-neg_ℤ, *ℤ_assoc, *ℤ_left_comm}
use Rattle.gic_fixed.proofs.Divisions.{floor_below, ceil_above, positive_product}
use Rattle.gic_fixed.proofs.Enclosures.{≤ℤ-times}
use Rattle.gic_varied.specs.Ranges.{Range, IsInRange}
use Rattle.gic_varied.specs.Varied.{IsOhmWithin}
use Rattle.gic_varied.specs.Strays.{IsStrayUp, IsStrayDown, IsStrayWithin}
use Rattle.gic_varied.specs.Enclosure.{stray_ends}
use Rattle.gic_varied.proofs.GroundCurrents.{minus_times}

-- a greater number above a common factor
less_times : (w a b : ℕ) (z : ℤ) → b ≤ a → pos (w * (a - b)) *ℤ z ≡ pos a *ℤ (pos w *ℤ z) -ℤ pos b *ℤ (pos w *ℤ z)
less_times w a b z h =
    let number : w * (a - b) ≡ (a - b) * w = omega arith in
    let first : pos (w * (a - b)) *ℤ z ≡ pos (a - b) *ℤ (pos w *ℤ z) = ap (λ (n : ℕ). pos n *ℤ z) number ∙ *ℤ_assoc (pos (a - b)) (pos w) z in
    let difference : pos (a - b) ≡ pos a -ℤ pos b = omega (arith, ints) in
    first ∙ ap (λ y. y *ℤ (pos w *ℤ z)) difference ∙ minus_times a b (pos w *ℤ z)

-- an order, turned by a factor below 0
turned_factor : (n : ℕ) (a b : ℤ) → a ≤ℤ b → (negsuc n *ℤ b) ≤ℤ (negsuc n *ℤ a)
turned_factor n a b h =
    let times = *ℤ-≤ℤ (suc n) a b h in
    let first : negsuc n *ℤ a ≡ neg_ℤ (pos (suc n) *ℤ a) = *ℤ_comm (negsuc n) a ∙ *ℤ-neg_ℤ a (pos (suc n)) ∙ ap neg_ℤ (*ℤ_comm a (pos (suc n))) in
    let second : negsuc n *ℤ b ≡ neg_ℤ (pos (suc n) *ℤ b) = *ℤ_comm (negsuc n) b ∙ *ℤ-neg_ℤ b (pos (suc n)) ∙ ap neg_ℤ (*ℤ_comm b (pos (suc n))) in
    omega (arith, linear)

module _ (range : Range) (w r : ℕ) (c p y z : ℤ) (some : 0 < w) (inside : IsInRange range r) (adjoint : pos r *ℤ z ≡ pos w *ℤ y) where
  -- what the ground's own resistance doesn't drive, times that resistance
  abbrev rest : ℤ
  rest = pos r *ℤ c -ℤ pos w *ℤ p

  rest_times : pos r *ℤ (y *ℤ c -ℤ z *ℤ p) ≡ y *ℤ rest
  rest_times =
      let left = *ℤ--ℤ (pos r) (y *ℤ c) (z *ℤ p) in
      let first = *ℤ_left_comm (pos r) y c in
      let second : pos r *ℤ (z *ℤ p) ≡ y *ℤ (pos w *ℤ p) = sym (*ℤ_assoc (pos r) z p) ∙ ap (λ a. a *ℤ p) adjoint ∙ *ℤ_assoc (pos w) y p ∙ *ℤ_left_comm (pos w) y p in
      let right = *ℤ--ℤ y (pos r *ℤ c) (pos w *ℤ p) in
      omega (arith, linear)

  -- with a factor in front
  in_front : (k : ℕ) → y *ℤ (pos k *ℤ rest) ≡ pos (k * r) *ℤ (y *ℤ c -ℤ z *ℤ p)
  in_front k = *ℤ_left_comm y (pos k) rest ∙ ap (λ a. pos k *ℤ a) (sym rest_times) ∙ sym (*ℤ_assoc (pos k) (pos r) (y *ℤ c -ℤ z *ℤ p))

  most_least : range.least ≤ range.most
  most_least = let least = inside.at_least in let most = inside.at_most in omega arith

  -- the rest by the greatest and by the least resistance
  by_most : pos range.most *ℤ rest ≡ pos range.most *ℤ (pos r *ℤ c) -ℤ pos range.most *ℤ (pos w *ℤ p)
  by_most = *ℤ--ℤ (pos range.most) (pos r *ℤ c) (pos w *ℤ p)

  by_least : pos range.least *ℤ rest ≡ pos range.least *ℤ (pos r *ℤ c) -ℤ pos range.least *ℤ (pos w *ℤ p)
  by_least = *ℤ--ℤ (pos range.least) (pos r *ℤ c) (pos w *ℤ p)

  positive : (k : ℕ) → pos 0 ≤ℤ c → (pos k *ℤ c) ≤ℤ (pos w *ℤ p) → pos 0 ≤ℤ p
  positive k h low =
      let none = *ℤ-zero (pos k) in
      let nothing = *ℤ-zero (pos w) in
      let times = *ℤ-≤ℤ k (pos 0) c h in
      ≤ℤ-from_*ℤ w (pos 0) p some (omega (arith, linear))

  negative : (k : ℕ) → c ≤ℤ pos 0 → (pos w *ℤ p) ≤ℤ (pos k *ℤ c) → p ≤ℤ pos 0
  negative k h high =
      let none = *ℤ-zero (pos k) in
      let nothing = *ℤ-zero (pos w) in
      let times = *ℤ-≤ℤ k c (pos 0) h in
      ≤ℤ-from_*ℤ w p (pos 0) some (omega (arith, linear))

  -- k c on one side of w p, brought to the rest
  above_most : (pos w *ℤ p) ≤ℤ (pos range.most *ℤ c) → neg_ℤ (pos (w * (range.most - r)) *ℤ p) ≤ℤ (pos range.most *ℤ rest)
  above_most h =
      let times = *ℤ-≤ℤ r (pos w *ℤ p) (pos range.most *ℤ c) h in
      let turned = *ℤ_left_comm (pos r) (pos range.most) c in
      let less = less_times w range.most r p inside.at_most in
      let split = by_most in
      omega (arith, linear)

  below_most : (pos range.most *ℤ c) ≤ℤ (pos w *ℤ p) → (pos range.most *ℤ rest) ≤ℤ neg_ℤ (pos (w * (range.most - r)) *ℤ p)
  below_most h =
      let times = *ℤ-≤ℤ r (pos range.most *ℤ c) (pos w *ℤ p) h in
      let turned = *ℤ_left_comm (pos r) (pos range.most) c in
      let less = less_times w range.most r p inside.at_most in
      let split = by_most in
      omega (arith, linear)

  below_least : (pos range.least *ℤ c) ≤ℤ (pos w *ℤ p) → (pos range.least *ℤ rest) ≤ℤ (pos (w * (r - range.least)) *ℤ p)
  below_least h =
      let times = *ℤ-≤ℤ r (pos range.least *ℤ c) (pos w *ℤ p) h in
      let turned = *ℤ_left_comm (pos r) (pos range.least) c in
      let less = less_times w r range.least p inside.at_least in
      let split = by_least in
      omega (arith, linear)

  above_least : (pos w *ℤ p) ≤ℤ (pos range.least *ℤ c) → (pos (w * (r - range.least)) *ℤ p) ≤ℤ (pos range.least *ℤ rest)
  above_least h =
      let times = *ℤ-≤ℤ r (pos w *ℤ p) (pos range.least *ℤ c) h in
      let turned = *ℤ_left_comm (pos r) (pos range.least) c in
      let less = less_times w r range.least p inside.at_least in
      let split = by_least in
      omega (arith, linear)

  -- the two ways in which t is bounded
  forward : pos 0 ≤ℤ (y *ℤ p) → (y *ℤ neg_ℤ (pos (w * (range.most - r)) *ℤ p)) ≤ℤ (y *ℤ (pos range.most *ℤ rest)) →
      (y *ℤ (pos range.least *ℤ rest)) ≤ℤ (y *ℤ (pos (w * (r - range.least)) *ℤ p)) →
      IsStrayUp range w r (y *ℤ p) (y *ℤ c -ℤ z *ℤ p)
  forward sign low high =
      let minus = *ℤ-neg_ℤ y (pos (w * (range.most - r)) *ℤ p) in
      let first = *ℤ_left_comm y (pos (w * (range.most - r))) p in
      let second = *ℤ_left_comm y (pos (w * (r - range.least))) p in
      let most = in_front range.most in
      let least = in_front range.least in
      record { sign = sign; low = omega (arith, linear); high = omega (arith, linear) }

  backward : (y *ℤ p) ≤ℤ pos 0 → (y *ℤ (pos range.most *ℤ rest)) ≤ℤ (y *ℤ neg_ℤ (pos (w * (range.most - r)) *ℤ p)) →
      (y *ℤ (pos (w * (r - range.least)) *ℤ p)) ≤ℤ (y *ℤ (pos range.least *ℤ rest)) →
      IsStrayDown range w r (y *ℤ p) (y *ℤ c -ℤ z *ℤ p)
  backward sign high low =
      let minus = *ℤ-neg_ℤ y (pos (w * (range.most - r)) *ℤ p) in
      let first = *ℤ_left_comm y (pos (w * (range.most - r))) p in
      let second = *ℤ_left_comm y (pos (w * (r - range.least))) p in
      let most = in_front range.most in
      let least = in_front range.least in
      record { sign = sign; high = omega (arith, linear); low = omega (arith, linear) }

-- either way, by the signs of the current and of Y
pub stray_between : (range : Range) (w r : ℕ) (c p y z : ℤ) → 0 < w → IsInRange range r → pos r *ℤ z ≡ pos w *ℤ y → IsOhmWithin range (pos w *ℤ p) c → IsStrayWithin range w r (y *ℤ p) (y *ℤ c -ℤ z *ℤ p)
stray_between range w r c p (pos n) z some inside adjoint (inl h) =
    let none = *ℤ-zero (pos n) in
    let sign = *ℤ-≤ℤ n (pos 0) p (positive range w r c p (pos n) z some inside adjoint range.least h.0 h.1) in
    inl (forward range w r c p (pos n) z some inside adjoint (omega (arith, linear))
    (*ℤ-≤ℤ n _ _ (above_most range w r c p (pos n) z some inside adjoint h.2)) (*ℤ-≤ℤ n _ _ (below_least range w r c p (pos n) z some inside adjoint h.1)))
stray_between range w r c p (pos n) z some inside adjoint (inr h) =
    let none = *ℤ-zero (pos n) in
    let sign = *ℤ-≤ℤ n p (pos 0) (negative range w r c p (pos n) z some inside adjoint range.least h.0 h.2) in
    inr (backward range w r c p (pos n) z some inside adjoint (omega (arith, linear))
    (*ℤ-≤ℤ n _ _ (below_most range w r c p (pos n) z some inside adjoint h.1)) (*ℤ-≤ℤ n _ _ (above_least range w r c p (pos n) z some inside adjoint h.2)))
stray_between range w r c p (negsuc n) z some inside adjoint (inl h) =
    let none = *ℤ-zero (negsuc n) in
    let sign = turned_factor n (pos 0) p (positive range w r c p (negsuc n) z some inside adjoint range.least h.0 h.1) in
    inr (backward range w r c p (negsuc n) z some inside adjoint (omega (arith, linear))
    (turned_factor n _ _ (above_most range w r c p (negsuc n) z some inside adjoint h.2)) (turned_factor n _ _ (below_least range w r c p (negsuc n) z some inside adjoint h.1)))
stray_between range w r c p (negsuc n) z some inside adjoint (inr h) =
    let none = *ℤ-zero (negsuc n) in
    let sign = turned_factor n p (pos 0) (negative range w r c p (negsuc n) z some inside adjoint range.least h.0 h.2) in
    inl (forward range w r c p (negsuc n) z some inside adjoint (omega (arith, linear))
    (turned_factor n _ _ (below_most range w r c p (negsuc n) z some inside adjoint h.1)) (turned_factor n _ _ (above_least range w r c p (negsuc n) z some inside adjoint h.2)))

-- products in another order
quotient_out : (q unit e : ℕ) (f : ℤ) → (pos (q * unit) *ℤ f) *ℤ pos e ≡ pos q *ℤ (f *ℤ pos (unit * e))
quotient_out q unit e f = same_in _ _ (simp (up-*ℤ, down-*ℤ) (omega arith))

-- over plain numbers: an end rounded outward
floor_part : (q unit e : ℕ) (x n : ℤ) → 0 < q → 0 < unit → (x *ℤ pos e) ≤ℤ (pos q *ℤ n) → (floor_div x (pos (q * unit)) *ℤ pos (unit * e)) ≤ℤ n
floor_part q unit e x n some some_unit h =
    let f = floor_div x (pos (q * unit)) in
    let times = ≤ℤ-times (pos (q * unit) *ℤ f) x e (floor_below x (q * unit) (positive_product q unit some some_unit)) in
    let out = quotient_out q unit e f in
    ≤ℤ-from_*ℤ q (f *ℤ pos (unit * e)) n some (omega (arith, linear))

ceil_part : (q unit e : ℕ) (x n : ℤ) → 0 < q → 0 < unit → (pos q *ℤ n) ≤ℤ (x *ℤ pos e) → n ≤ℤ (ceil_div x (pos (q * unit)) *ℤ pos (unit * e))
ceil_part q unit e x n some some_unit h =
    let f = ceil_div x (pos (q * unit)) in
    let times = ≤ℤ-times x (pos (q * unit) *ℤ f) e (ceil_above x (q * unit) (positive_product q unit some some_unit)) in
    let out = quotient_out q unit e f in
    ≤ℤ-from_*ℤ q n (f *ℤ pos (unit * e)) some (omega (arith, linear))

-- a bound of a by x / e, carried over to t: upward and downward, with a factor not below 0 and with one not above it
factored : (k : ℕ) (x : ℤ) (e : ℕ) → (pos k *ℤ x) *ℤ pos e ≡ pos k *ℤ (x *ℤ pos e)
factored k x e = *ℤ_assoc (pos k) x (pos e)

minus_factored : (k : ℕ) (x : ℤ) (e : ℕ) → neg_ℤ (pos k *ℤ x) *ℤ pos e ≡ neg_ℤ (pos k *ℤ (x *ℤ pos e))
minus_factored k x e =
    *ℤ_comm (neg_ℤ (pos k *ℤ x)) (pos e) ∙ *ℤ-neg_ℤ (pos e) (pos k *ℤ x) ∙ ap neg_ℤ (*ℤ_comm (pos e) (pos k *ℤ x) ∙ *ℤ_assoc (pos k) x (pos e))

low_minus : (k q e : ℕ) (a t x : ℤ) → neg_ℤ (pos k *ℤ a) ≤ℤ (pos q *ℤ t) → a ≤ℤ (x *ℤ pos e) → (neg_ℤ (pos k *ℤ x) *ℤ pos e) ≤ℤ (pos q *ℤ t)
low_minus k q e a t x h bound =
    let out = minus_factored k x e in
    let times = *ℤ-≤ℤ k a (x *ℤ pos e) bound in
    omega (arith, linear)

low_plus : (k q e : ℕ) (a t x : ℤ) → (pos k *ℤ a) ≤ℤ (pos q *ℤ t) → (x *ℤ pos e) ≤ℤ a → ((pos k *ℤ x) *ℤ pos e) ≤ℤ (pos q *ℤ t)
low_plus k q e a t x h bound =
    let out = factored k x e in
    let times = *ℤ-≤ℤ k (x *ℤ pos e) a bound in
    omega (arith, linear)

high_minus : (k q e : ℕ) (a t x : ℤ) → (pos q *ℤ t) ≤ℤ neg_ℤ (pos k *ℤ a) → (x *ℤ pos e) ≤ℤ a → (pos q *ℤ t) ≤ℤ (neg_ℤ (pos k *ℤ x) *ℤ pos e)
high_minus k q e a t x h bound =
    let out = minus_factored k x e in
    let times = *ℤ-≤ℤ k (x *ℤ pos e) a bound in
    omega (arith, linear)

high_plus : (k q e : ℕ) (a t x : ℤ) → (pos q *ℤ t) ≤ℤ (pos k *ℤ a) → a ≤ℤ (x *ℤ pos e) → (pos q *ℤ t) ≤ℤ ((pos k *ℤ x) *ℤ pos e)
high_plus k q e a t x h bound =
    let out = factored k x e in
    let times = *ℤ-≤ℤ k a (x *ℤ pos e) bound in
    omega (arith, linear)

-- the lesser and the greater of two ends
lesser_left : (x y n : ℤ) (d : ℕ) → (x *ℤ pos d) ≤ℤ n → (int_min x y *ℤ pos d) ≤ℤ n
lesser_left x y n d h = let order = ≤ℤ-times (int_min x y) x d (omega (arith, linear, clamps)) in omega (arith, linear)

lesser_right : (x y n : ℤ) (d : ℕ) → (y *ℤ pos d) ≤ℤ n → (int_min x y *ℤ pos d) ≤ℤ n
lesser_right x y n d h = let order = ≤ℤ-times (int_min x y) y d (omega (arith, linear, clamps)) in omega (arith, linear)

greater_left : (x y n : ℤ) (d : ℕ) → n ≤ℤ (x *ℤ pos d) → n ≤ℤ (int_max x y *ℤ pos d)
greater_left x y n d h = let order = ≤ℤ-times x (int_max x y) d (omega (arith, linear, clamps)) in omega (arith, linear)

greater_right : (x y n : ℤ) (d : ℕ) → n ≤ℤ (y *ℤ pos d) → n ≤ℤ (int_max x y *ℤ pos d)
greater_right x y n d h = let order = ≤ℤ-times y (int_max x y) d (omega (arith, linear, clamps)) in omega (arith, linear)

-- the interval of one ground's stray power
pub stray_holds : (range : Range) (paths r unit e : ℕ) (c p y z : ℤ) (product : Ends) → 0 < paths → 0 < unit → IsInRange range r →
    pos r *ℤ z ≡ pos (paths * 1000000) *ℤ y → IsOhmWithin range (pos (paths * 1000000) *ℤ p) c →
    Encloses product.low product.high (y *ℤ p) e →
    Encloses (stray_ends range paths r unit product).low (stray_ends range paths r unit product).high (y *ℤ c -ℤ z *ℤ p) (unit * e)
stray_holds range paths r unit e c p y z product some some_unit inside adjoint varies holds =
    by (stray_between range (paths * 1000000) r c p y z (omega arith) inside adjoint varies)
  where
    some_ohm : 0 < r
    some_ohm = let above = inside.above_0 in let least = inside.at_least in omega arith

    some_most : 0 < range.most * r
    some_most = positive_product range.most r (let above = some_ohm in let most = inside.at_most in omega arith) some_ohm

    some_least : 0 < range.least * r
    some_least = positive_product range.least r inside.above_0 some_ohm

    by : IsStrayWithin range (paths * 1000000) r (y *ℤ p) (y *ℤ c -ℤ z *ℤ p) →
        Encloses (stray_ends range paths r unit product).low (stray_ends range paths r unit product).high (y *ℤ c -ℤ z *ℤ p) (unit * e)
    by (inl h) = record {
      above_lo = lesser_left _ _ _ (unit * e) (floor_part (range.most * r) unit e _ _ some_most some_unit
          (low_minus (paths * 1000000 * (range.most - r)) (range.most * r) e (y *ℤ p) (y *ℤ c -ℤ z *ℤ p) product.high h.low holds.below_hi));
      below_hi = greater_right _ _ _ (unit * e) (ceil_part (range.least * r) unit e _ _ some_least some_unit
          (high_plus (paths * 1000000 * (r - range.least)) (range.least * r) e (y *ℤ p) (y *ℤ c -ℤ z *ℤ p) product.high h.high holds.below_hi));
    }
    by (inr h) = record {
      above_lo = lesser_right _ _ _ (unit * e) (floor_part (range.least * r) unit e _ _ some_least some_unit
          (low_plus (paths * 1000000 * (r - range.least)) (range.least * r) e (y *ℤ p) (y *ℤ c -ℤ z *ℤ p) product.low h.low holds.above_lo));
      below_hi = greater_left _ _ _ (unit * e) (ceil_part (range.most * r) unit e _ _ some_most some_unit
          (high_minus (paths * 1000000 * (range.most - r)) (range.most * r) e (y *ℤ p) (y *ℤ c -ℤ z *ℤ p) product.low h.high holds.above_lo));
    }
