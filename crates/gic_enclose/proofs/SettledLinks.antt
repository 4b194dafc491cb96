-- From a run of sweeps to settled guesses.
use Rattle.std.proofs.Common.{◌≡◌, ℕ, ◌+◌, ◌-◌, ◌*◌, ◌^◌, ◌≤◌, ◌<◌, List, length, Option, Some, None, ap, sym, subst, refl, arith, ℤ, pos, ◌+ℤ◌, ◌-ℤ◌, ◌*ℤ◌, ◌≤ℤ◌, unsigned_abs, mul-le-mul_left, mul-pos, All, ◌∙◌}
use Rattle.std.proofs.lemmas.Int.{ints}
use Rattle.std.proofs.lemmas.List.Elements.{All-weaker}
use Rattle.std.proofs.Common.{⊎_elim, eq-zero-or-pos}
use borrow.Author.Differences.{up, down}
use Rattle.gic_enclose.proofs.Links.{Link, IsLiveRow, denominator, weighted, conductance, diagonal, residual, guess_at, entry_at, IsLinkWithin, AreRowsBound, row_sum}
use Rattle.gic_enclose.proofs.LinkSweeps.{IsRowSweep, IsRowTarget, AreClose, most_push, IsFarLive, AreRowsWithin, AreRoughRows, AreRowsSettled, AreWithin}
use Rattle.gic_model.specs.Guess.{cut}
use Rattle.gic_sweep.specs.Guesses.{AreCut}
use Rattle.gic_enclose.proofs.OneSweep.{step, reach, left_over}
use Rattle.gic_enclose.proofs.LinkSums.{weighted_close, weighted_close_all}
use Rattle.gic_fixed.proofs.Signs.{abs_in, abs_out, apart_le}
use Rattle.gic_enclose.proofs.CutNumbers.{cut_most, cut_towards, cut_same}
use Rattle.gic_enclose.proofs.LinkRows.{denominator_pos, conductance_le, diagonal_le, diagonal_ge, rounding_le, row_rule}
use Rattle.gic_enclose.proofs.Closer.{gap, gap_is, close_far, target_out, residual_step}

-- how far a guess at a far end is from the rough one
far_within : (rows : ℕ → List Link) (vs : ℕ → ℕ) (ps : ℕ → ℤ) (x : ℕ) (xs : ℕ → ℤ) → AreWithin rows vs ps x xs → (f : Option ℕ) → IsFarLive rows f → 8192 * unsigned_abs (gap ps xs f) ≤ (2 * (most_push + 6) * 8192 + x) * entry_at vs f
unfolding gap
far_within rows vs ps x xs h None live = omega arith
far_within rows vs ps x xs h (Some i) live = h i live

-- a target moves a guess as it moves how far that is from the rough one
moved_alike : (ps xs : ℕ → ℤ) (k : ℕ) (t : ℤ) → t -ℤ guess_at xs (Some k) ≡ (t -ℤ guess_at ps (Some k)) -ℤ gap ps xs (Some k)
unfolding gap
moved_alike ps xs k t = omega (arith, ints)

-- one sweep, on one guess
node_within : (rows : ℕ → List Link) (row : List Link) (vs : ℕ → ℕ) (ps xs : ℕ → ℤ) (k x y : ℕ) (t : ℤ) →
    All IsLinkWithin row → unsigned_abs (residual row ps k) ≤ most_push * conductance row → All (λ l. IsFarLive rows l.far) row → 0 < length row → IsLiveRow rows k → pos 0 ≤ℤ row_sum row vs k → vs k ≤ 4096 →
    IsRowTarget row xs k t → 8192 * y ≤ x → AreWithin rows vs ps x xs →
    8192 * unsigned_abs (t -ℤ guess_at ps (Some k)) ≤ (2 * (most_push + 6) * 8192 + (x - y)) * vs k
node_within rows row vs ps xs k x y t fit rough ends some live rule small here ye within =
    let d = diagonal row * denominator row in
    let w = conductance row in
    let e = d - w in
    let v = vs k in
    let a = weighted (λ l. entry_at vs l.far) row in
    let c = 2 * (most_push + 6) * 8192 + x in
    let r = denominator row * (2 * diagonal row + 4096 * length row) in
    let b = weighted (λ l. up (gap ps xs l.far)) row in
    let b' = weighted (λ l. down (gap ps xs l.far)) row in
    let q = residual row ps k in
    let g = gap ps xs (Some k) in
    let p = residual row xs k in
    let z = t -ℤ guess_at ps (Some k) in
    let d_is : d ≡ w + e = omega (arith, conductance_le row fit) in
    let d_pos : 0 < d = mul-pos (omega (arith, diagonal_ge row fit)) (denominator_pos row fit) in
    let moves : t -ℤ guess_at xs (Some k) ≡ z -ℤ g = moved_alike ps xs k t in
    let out = target_out d r z g p (subst (λ (m : ℤ). unsigned_abs ((pos d *ℤ m) +ℤ p) ≤ r) moves here) in
    let res = residual_step row ps xs k in
    let b_up = weighted_close_all 8192 c (λ l. up (gap ps xs l.far)) (λ l. down (gap ps xs l.far)) (λ l. entry_at vs l.far) row
    (All-weaker (λ l. IsFarLive rows l.far) (λ l. 8192 * up (gap ps xs l.far) ≤ c * entry_at vs l.far + 8192 * down (gap ps xs l.far)) (λ l fl. (abs_out 8192 (c * entry_at vs l.far) (gap ps xs l.far) (far_within rows vs ps x xs within l.far fl)).0) row ends) in
    let b_down = weighted_close_all 8192 c (λ l. down (gap ps xs l.far)) (λ l. up (gap ps xs l.far)) (λ l. entry_at vs l.far) row
    (All-weaker (λ l. IsFarLive rows l.far) (λ l. 8192 * down (gap ps xs l.far) ≤ c * entry_at vs l.far + 8192 * up (gap ps xs l.far)) (λ l fl. (abs_out 8192 (c * entry_at vs l.far) (gap ps xs l.far) (far_within rows vs ps x xs within l.far fl)).1) row ends) in
    let g_out = abs_out 8192 (c * v) g (far_within rows vs ps x xs within (Some k) live) in
    let q_out = abs_out 1 (most_push * w) q (omega (arith, rough)) in
    let rising = reach d w e v a c r most_push (up z) (down z) (up g) (down g) (up p) (down p) b b' (up q) (down q) d_is (rounding_le row fit) out.0 (omega (arith, res)) b_up g_out.0 (omega (arith, q_out.1)) in
    let falling = reach d w e v a c r most_push (down z) (up z) (down g) (up g) (down p) (up p) b' b (down q) (up q) d_is (rounding_le row fit) out.1 (omega (arith, res)) b_down g_out.1 (omega (arith, q_out.0)) in
    let moved = abs_in (8192 * d) ((most_push + 6) * 8192 * d + c * (e * v + a)) z rising falling in
    step d w e v a c x y (unsigned_abs z) (most_push + 6) d_pos d_is (diagonal_le row fit) (row_rule row vs k fit rule) small (omega (arith, moved)) refl ye

node_settled : (row : List Link) (vs : ℕ → ℕ) (xs ys : ℕ → ℤ) (k : ℕ) (t : ℤ) →
    All IsLinkWithin row → 0 < length row → pos 0 ≤ℤ row_sum row vs k → vs k ≤ 4096 →
    IsRowTarget row xs k t → guess_at ys (Some k) ≡ t → AreClose vs 8192 xs ys →
    unsigned_abs (residual row ys k) ≤ 2 ^ 18 * conductance row
node_settled row vs xs ys k t fit some rule small here is close =
    let d = diagonal row * denominator row in
    let w = conductance row in
    let e = d - w in
    let v = vs k in
    let a = weighted (λ l. entry_at vs l.far) row in
    let r = denominator row * (2 * diagonal row + 4096 * length row) in
    let s = gap xs ys (Some k) in
    let b = weighted (λ l. up (gap xs ys l.far)) row in
    let b' = weighted (λ l. down (gap xs ys l.far)) row in
    let g = guess_at xs (Some k) in
    let h = guess_at ys (Some k) in
    let p = residual row xs k in
    let q = residual row ys k in
    let d_is : d ≡ w + e = omega (arith, conductance_le row fit) in
    let target : IsRowTarget row xs k h = subst (IsRowTarget row xs k) (sym is) here in
    let out = target_out d r h g p target in
    let res = residual_step row xs ys k in
    let sk = gap_is xs ys (Some k) in
    let far_close = close_far vs 8192 xs ys close in
    let b_up = weighted_close 8192 204800 (λ l. up (gap xs ys l.far)) (λ l. down (gap xs ys l.far)) (λ l. entry_at vs l.far) (λ l. (abs_out 8192 (204800 * entry_at vs l.far) (gap xs ys l.far) (far_close l.far)).0) row in
    let b_down = weighted_close 8192 204800 (λ l. down (gap xs ys l.far)) (λ l. up (gap xs ys l.far)) (λ l. entry_at vs l.far) (λ l. (abs_out 8192 (204800 * entry_at vs l.far) (gap xs ys l.far) (far_close l.far)).1) row in
    let s_out = abs_out 8192 (204800 * v) s (far_close (Some k)) in
    let half = diagonal_le row fit in
    let rule' = row_rule row vs k fit rule in
    let rising = left_over d w e v a r (up h) (down h) (up g) (down g) (up p) (down p) (up q) (down q) (up s) (down s) b b' d_is (rounding_le row fit) half rule' small out.1 out.0 res sk b_down s_out.1 in
    let falling = left_over d w e v a r (down h) (up h) (down g) (up g) (down p) (up p) (down q) (up q) (down s) (up s) b' b d_is (rounding_le row fit) half rule' small out.0 out.1 (sym res) (sym sk) b_up s_out.0 in
    omega (arith, abs_in 1 (2 ^ 18 * w) q rising falling)

-- over plain numbers
within_sum : (t p : ℤ) → unsigned_abs (t -ℤ p) ≤ 2 ^ 95 → unsigned_abs p ≤ 2 ^ 94 → unsigned_abs t ≤ 2 ^ 96
within_sum t p h g = omega (arith, ints, h, g)

-- the steps by which guesses come within their bound, stay there, and are settled in the end
module _ (rows : ℕ → List Link) (vs : ℕ → ℕ) (ps : ℕ → ℤ) (fits : AreRowsWithin rows) (rough : AreRoughRows rows ps) (bound : AreRowsBound rows vs) (xs ys : ℕ → ℤ) (sweep : IsRowSweep rows xs ys) where
  one_within : (x y : ℕ) → 8192 * y ≤ x → AreWithin rows vs ps x xs → (k : ℕ) → (live : IsLiveRow rows k) → 8192 * unsigned_abs ((sweep.live k live).0 -ℤ guess_at ps (Some k)) ≤ (2 * (most_push + 6) * 8192 + (x - y)) * vs k
  one_within x y h c k live =
      node_within rows (rows k) vs ps xs k x y (sweep.live k live).0
      (fits.links k) (rough.rough k live) (fits.ends k)
      live live (bound.row k live) (bound.within k) (sweep.live k live).1 h c

  pub nearer : (x y : ℕ) → 8192 * y ≤ x → AreWithin rows vs ps x xs → AreWithin rows vs ps (x - y) ys
  nearer x y h c k live =
      let a = sweep.live k live in
      let far = one_within x y h c k live in
      let less = cut_towards a.0 (ps k) (omega (arith, rough.within k live)) in
      let same : unsigned_abs (guess_at ys (Some k) -ℤ ps k) ≡ unsigned_abs (cut a.0 -ℤ ps k) = ap (λ (z : ℤ). unsigned_abs (z -ℤ ps k)) a.2 in
      omega (arith, far, less, same)

  pub last_settles : AreWithin rows vs ps 8192 xs → AreClose vs 8192 xs ys → AreRowsSettled rows ys
  last_settles within close k live =
      let a = sweep.live k live in
      let far = one_within 8192 0 (omega arith) within k live in
      let most : (2 * (most_push + 6) * 8192 + (8192 - 0)) * vs k ≤ (2 * (most_push + 6) * 8192 + (8192 - 0)) * 4096 = mul-le-mul_left _ (bound.within k) in
      let size : unsigned_abs (a.0 -ℤ ps k) ≤ 2 ^ 95 = omega (arith, far, most) in
      let uncut : cut a.0 ≡ a.0 = cut_same a.0 (within_sum a.0 (ps k) size (rough.within k live)) in
      node_settled (rows k) vs xs ys k a.0 (fits.links k) live (bound.row k live) (bound.within k) a.1 (a.2 ∙ uncut) close

  pub first_close : AreCut xs → AreClose vs (8192 * 2 ^ 98) xs ys
  first_close h k =
      let c = 24 * 8192 + 8192 * 2 ^ 98 in
      ⊎_elim
      (λ none. let same = sweep.dead k none in omega (arith, ints, same))
      (λ live.
      let a = sweep.live k live in
      let short : unsigned_abs (guess_at ys (Some k)) ≤ 2 ^ 96 = subst (λ z. unsigned_abs z ≤ 2 ^ 96) (sym a.2) (cut_most a.0) in
      let apart = apart_le (guess_at xs (Some k)) (guess_at ys (Some k)) (2 ^ 96) (2 ^ 96) (h k) short in
      let times : c * 1 ≤ c * vs k = mul-le-mul_left c (bound.positive k live) in
      omega (arith, apart, times))
      (eq-zero-or-pos (length (rows k)))

pub first_within : (rows : ℕ → List Link) (vs : ℕ → ℕ) (ps xs : ℕ → ℤ) → AreRoughRows rows ps → AreRowsBound rows vs → AreCut xs → AreWithin rows vs ps (8192 * 2 ^ 98) xs
first_within rows vs ps xs rough bound h k live =
    let c = 2 * (most_push + 6) * 8192 + 8192 * 2 ^ 98 in
    let apart = apart_le (ps k) (xs k) (2 ^ 94) (2 ^ 96) (rough.within k live) (h k) in
    let times : c * 1 ≤ c * vs k = mul-le-mul_left c (bound.positive k live) in
    omega (arith, apart, times)
