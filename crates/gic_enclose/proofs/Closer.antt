-- One sweep, at one node.
use Rattle.std.proofs.Common.{◌≡◌, ℕ, ◌+◌, ◌-◌, ◌*◌, ◌≤◌, ◌<◌, List, length, Option, Some, None, ap, sym, refl, arith, ℤ, pos, ◌+ℤ◌, ◌-ℤ◌, ◌*ℤ◌, ◌≤ℤ◌, unsigned_abs, mul-pos, All, ⊎_elim, eq-zero-or-pos, ap₂}
use Rattle.std.proofs.lemmas.Int.{ints}
use borrow.Author.Differences.{up, down, sum_is_lem}
use Rattle.gic_enclose.proofs.Links.{Link, denominator, weighted, conductance, diagonal, residual, guess_at, entry_at, IsLinkWithin, AreRowsBound, row_sum}
use Rattle.gic_enclose.proofs.LinkSweeps.{IsRowTarget, IsRowSweep, AreClose}
use Rattle.gic_model.specs.Guess.{cut}
use Rattle.gic_enclose.proofs.OneSweep.{step, combine}
use Rattle.gic_enclose.proofs.LinkSums.{flow_is, weighted_balance4, weighted_const, weighted_close}
use Rattle.gic_fixed.proofs.Signs.{abs_in, abs_out, times_pos}
use Rattle.gic_enclose.proofs.CutNumbers.{cut_apart}
use Rattle.gic_enclose.proofs.LinkRows.{denominator_pos, conductance_le, diagonal_le, diagonal_ge, rounding_le, row_rule}

-- how far the two guesses at a far end are apart
unfoldable pub gap : (ℕ → ℤ) → (ℕ → ℤ) → Option ℕ → ℤ
gap xs ys f = guess_at ys f -ℤ guess_at xs f

unfoldable pub part : (ℕ → ℤ) → ℕ → Link → ℤ
part xs k l = guess_at xs (Some k) -ℤ guess_at xs l.far +ℤ l.push

-- what a change of the guesses does to the residual
pub residual_step : (row : List Link) (xs ys : ℕ → ℤ) (k : ℕ) →
    up (residual row ys k) + down (residual row xs k) + down (gap xs ys (Some k)) * conductance row + weighted (λ l. up (gap xs ys l.far)) row
    ≡ down (residual row ys k) + up (residual row xs k) + up (gap xs ys (Some k)) * conductance row + weighted (λ l. down (gap xs ys l.far)) row
unfolding gap part
residual_step row xs ys k =
    let sum = weighted_balance4 (λ l. up (part ys k l)) (λ l. down (part xs k l)) (λ _. down (gap xs ys (Some k))) (λ l. up (gap xs ys l.far))
    (λ l. down (part ys k l)) (λ l. up (part xs k l)) (λ _. up (gap xs ys (Some k))) (λ l. down (gap xs ys l.far))
    (λ l. omega (arith, ints)) row in
    omega (arith, sum, flow_is (part ys k) row, flow_is (part xs k) row, weighted_const (down (gap xs ys (Some k))) row, weighted_const (up (gap xs ys (Some k))) row)

pub gap_is : (xs ys : ℕ → ℤ) (f : Option ℕ) → up (gap xs ys f) + down (guess_at ys f) + up (guess_at xs f) ≡ down (gap xs ys f) + up (guess_at ys f) + down (guess_at xs f)
unfolding gap
gap_is xs ys f = omega (arith, ints)

pub close_far : (vs : ℕ → ℕ) (x : ℕ) (xs ys : ℕ → ℤ) → AreClose vs x xs ys → (f : Option ℕ) → 8192 * unsigned_abs (gap xs ys f) ≤ (24 * 8192 + x) * entry_at vs f
unfolding gap
close_far vs x xs ys h None = omega arith
close_far vs x xs ys h (Some i) = h i

-- a target, as two bounds
pub target_out : (d m : ℕ) (t g r : ℤ) → unsigned_abs ((pos d *ℤ (t -ℤ g)) +ℤ r) ≤ m →
    (d * up t + d * down g + up r ≤ m + d * down t + d * up g + down r) × (d * down t + d * up g + down r ≤ m + d * up t + d * down g + up r)
target_out d m t g r h =
    let two = abs_out 1 m ((pos d *ℤ (t -ℤ g)) +ℤ r) (omega arith) in
    let whole = sum_is_lem (pos d *ℤ (t -ℤ g)) r in
    let product = times_pos d (t -ℤ g) in
    let inner : up (t -ℤ g) + down t + up g ≡ down (t -ℤ g) + up t + down g = omega (arith, ints) in
    let times = ap (λ n. d * n) inner in
    (omega (arith, two.0, two.1, whole, product, times), omega (arith, two.0, two.1, whole, product, times))

pub node_step : (row : List Link) (vs : ℕ → ℕ) (xs ys : ℕ → ℤ) (k x y : ℕ) (tx ty : ℤ) →
    All IsLinkWithin row → 0 < length row → pos 0 ≤ℤ row_sum row vs k → vs k ≤ 4096 →
    IsRowTarget row xs k tx → IsRowTarget row ys k ty → 8192 * y ≤ x → AreClose vs x xs ys →
    8192 * unsigned_abs (ty -ℤ tx) ≤ (24 * 8192 + (x - y)) * vs k
node_step row vs xs ys k x y tx ty fit live rule small here next ye close =
    let d = diagonal row * denominator row in
    let w = conductance row in
    let e = d - w in
    let v = vs k in
    let a = weighted (λ l. entry_at vs l.far) row in
    let c = 24 * 8192 + x in
    let r = denominator row * (2 * diagonal row + 4096 * length row) in
    let s = gap xs ys (Some k) in
    let b = weighted (λ l. up (gap xs ys l.far)) row in
    let b' = weighted (λ l. down (gap xs ys l.far)) row in
    let g = guess_at xs (Some k) in
    let h = guess_at ys (Some k) in
    let p = residual row xs k in
    let q = residual row ys k in
    let d_is : d ≡ w + e = omega (arith, conductance_le row fit) in
    let six = rounding_le row fit in
    let d_pos : 0 < d = mul-pos (omega (arith, diagonal_ge row fit)) (denominator_pos row fit) in
    let t_out = target_out d r tx g p here in
    let u_out = target_out d r ty h q next in
    let res = residual_step row xs ys k in
    let sk : up s + down h + up g ≡ down s + up h + down g = gap_is xs ys (Some k) in
    let zt : up (ty -ℤ tx) + down ty + up tx ≡ down (ty -ℤ tx) + up ty + down tx = omega (arith, ints) in
    let far_close = close_far vs x xs ys close in
    let b_up = weighted_close 8192 c (λ l. up (gap xs ys l.far)) (λ l. down (gap xs ys l.far)) (λ l. entry_at vs l.far) (λ l. (abs_out 8192 (c * entry_at vs l.far) (gap xs ys l.far) (far_close l.far)).0) row in
    let b_down = weighted_close 8192 c (λ l. down (gap xs ys l.far)) (λ l. up (gap xs ys l.far)) (λ l. entry_at vs l.far) (λ l. (abs_out 8192 (c * entry_at vs l.far) (gap xs ys l.far) (far_close l.far)).1) row in
    let s_out = abs_out 8192 (c * v) s (far_close (Some k)) in
    let rising = combine d w e v a c r (up tx) (down tx) (up ty) (down ty) (up g) (down g) (up h) (down h) (up p) (down p) (up q) (down q) (up s) (down s) b b' (up (ty -ℤ tx)) (down (ty -ℤ tx)) d_is six u_out.0 t_out.1 res sk zt b_up s_out.0 in
    let falling = combine d w e v a c r (down tx) (up tx) (down ty) (up ty) (down g) (up g) (down h) (up h) (down p) (up p) (down q) (up q) (down s) (up s) b' b (down (ty -ℤ tx)) (up (ty -ℤ tx)) d_is six u_out.1 t_out.0 (sym res) (sym sk) (sym zt) b_down s_out.1 in
    let moved = abs_in (8192 * d) (12 * 8192 * d + c * (e * v + a)) (ty -ℤ tx) rising falling in
    step d w e v a c x y (unsigned_abs (ty -ℤ tx)) 12 d_pos d_is (diagonal_le row fit) (row_rule row vs k fit rule) small (omega (arith, moved)) refl ye

-- one sweep takes y off
pub one_sweep : (rows : ℕ → List Link) (vs : ℕ → ℕ) (xs ys zs : ℕ → ℤ) (x y : ℕ) →
    ((j : ℕ) → All IsLinkWithin (rows j)) → AreRowsBound rows vs → IsRowSweep rows xs ys → IsRowSweep rows ys zs →
    8192 * y ≤ x → AreClose vs x xs ys → AreClose vs (x - y) ys zs
one_sweep rows vs xs ys zs x y fits bound here next ye close k =
    ⊎_elim
    (λ none. let same = next.dead k none in omega (arith, ints, same))
    (λ live.
    let a = here.live k live in
    let b = next.live k live in
    let row = rows k in
    let apart = node_step row vs xs ys k x y a.0 b.0 (fits k) live (bound.row k live) (bound.within k) a.1 b.1 ye close in
    let less = cut_apart a.0 b.0 in
    let same : unsigned_abs (guess_at zs (Some k) -ℤ guess_at ys (Some k)) ≡ unsigned_abs (cut b.0 -ℤ cut a.0) = ap₂ (λ m n. unsigned_abs (m -ℤ n)) b.2 a.2 in
    omega (arith, apart, less, same))
    (eq-zero-or-pos (length (rows k)))
