-- What one element adds at a node, by the tests of its two ends.
use Rattle.std.proofs.Common.{arith, ◌≡◌, ℕ, ◌+◌, ◌^◌, ◌≤◌, Bool, true, false, ◌||◌, ◌==◌, cond, refl, ap, sym, ◌∙◌, ℤ, pos, neg_ℤ, ◌+ℤ◌, ◌*ℤ◌, unsigned_abs, eq-eqb}
use Rattle.std.proofs.lemmas.Int.{ints}
use Rattle.std.proofs.lemmas.Bool.Decides.{nat_tests}
use Rattle.gic_fixed.specs.Rounding.{floor_div, ceil_div}
use Rattle.gic_fixed.proofs.Divisions.{neg-neg}
use Rattle.gic_model.specs.declared.parts.Element.{Element}
use Rattle.gic_model.specs.Network.{is_node, ends_at}
use Rattle.gic_model.specs.Guess.{guessed_current, part_times_ohms}
use Rattle.gic_model.specs.Sums.{Placed}
use Rattle.gic_sweep.specs.Passes.{part_down, part_up, share_at}

none_first : (z : ℤ) → pos 0 +ℤ z ≡ z
none_first z = omega (arith, ints)

turned_product : (z : ℤ) → pos 256 *ℤ neg_ℤ z ≡ neg_ℤ (pos 256 *ℤ z)
turned_product z = omega (arith, ints)

floor_turned : (z : ℤ) (d : ℕ) → floor_div (pos 256 *ℤ neg_ℤ z) (pos d) ≡ neg_ℤ (ceil_div (pos 256 *ℤ z) (pos d))
floor_turned z d = ap (λ (w : ℤ). floor_div w (pos d)) (turned_product z) ∙ sym (neg-neg (floor_div (neg_ℤ (pos 256 *ℤ z)) (pos d)))

ceil_turned : (z : ℤ) (d : ℕ) → ceil_div (pos 256 *ℤ neg_ℤ z) (pos d) ≡ neg_ℤ (floor_div (pos 256 *ℤ z) (pos d))
ceil_turned z d = ap (λ (w : ℤ). ceil_div w (pos d)) (turned_product z) ∙ ap (λ (w : ℤ). neg_ℤ (floor_div w (pos d))) (neg-neg (pos 256 *ℤ z))

-- the two ends are not one node
pub ends_apart : (f m k : ℕ) → (m == f) ≡ false → (f == k) ≡ true → (m == k) ≡ true → ⊥
ends_apart f m k a b t = grind (arith, nat_tests)

pub two_ends : (b t : Bool) (out back old : ℤ) → (b ≡ true → t ≡ true → ⊥) → cond t back (pos 0) +ℤ (cond b out (pos 0) +ℤ old) ≡ cond b out (cond t back (pos 0)) +ℤ old
two_ends true true out back old apart = absurd (apart refl refl)
two_ends true false out back old apart = none_first (out +ℤ old)
two_ends false true out back old apart = ap (λ (w : ℤ). back +ℤ w) (none_first old)
two_ends false false out back old apart = none_first (pos 0 +ℤ old)

pub one_more_small : (b : Bool) (part old : ℤ) → unsigned_abs part ≤ 2 ^ 118 → unsigned_abs old ≤ 2 ^ 126 → unsigned_abs (cond b part (pos 0) +ℤ old) ≤ 2 ^ 126 + 2 ^ 118
one_more_small true part old h k = omega (arith, ints)
one_more_small false part old h k = omega (arith, ints)

-- an element's rounded current is its rounded part at each of its ends
module _ (v x : ℕ → ℤ) (p : Placed) (low high : ℤ) (le : low ≡ part_down v x p.1.from.0 p) (he : high ≡ part_up v x p.1.from.0 p) where
  at_from : part_times_ohms v x p.1.from.0 p ≡ pos 256 *ℤ guessed_current v x p
  at_from = ap (λ (b : Bool). pos 256 *ℤ cond b (guessed_current v x p) (neg_ℤ (guessed_current v x p))) (eq-eqb p.1.from.0 p.1.from.0 refl)

  low_is : low ≡ floor_div (pos 256 *ℤ guessed_current v x p) (pos p.1.micro_ohm)
  low_is = le ∙ ap (λ (z : ℤ). floor_div z (pos p.1.micro_ohm)) at_from

  high_is : high ≡ ceil_div (pos 256 *ℤ guessed_current v x p) (pos p.1.micro_ohm)
  high_is = he ∙ ap (λ (z : ℤ). ceil_div z (pos p.1.micro_ohm)) at_from

  by_down : (b t : Bool) → cond b low (cond t (neg_ℤ high) (pos 0)) ≡ cond (b || t) (floor_div (pos 256 *ℤ cond b (guessed_current v x p) (neg_ℤ (guessed_current v x p))) (pos p.1.micro_ohm)) (pos 0)
  by_down true true = low_is
  by_down true false = low_is
  by_down false true = ap neg_ℤ high_is ∙ sym (floor_turned (guessed_current v x p) p.1.micro_ohm)
  by_down false false = refl

  by_up : (b t : Bool) → cond b high (cond t (neg_ℤ low) (pos 0)) ≡ cond (b || t) (ceil_div (pos 256 *ℤ cond b (guessed_current v x p) (neg_ℤ (guessed_current v x p))) (pos p.1.micro_ohm)) (pos 0)
  by_up true true = high_is
  by_up true false = high_is
  by_up false true = ap neg_ℤ low_is ∙ sym (ceil_turned (guessed_current v x p) p.1.micro_ohm)
  by_up false false = refl

  pub down_share : (k : ℕ) → share_at p.1 k low (neg_ℤ high) ≡ cond (ends_at p.1 k) (part_down v x k p) (pos 0)
  down_share k = by_down (p.1.from.0 == k) (is_node p.1.to k)

  pub up_share : (k : ℕ) → share_at p.1 k high (neg_ℤ low) ≡ cond (ends_at p.1 k) (part_up v x k p) (pos 0)
  up_share k = by_up (p.1.from.0 == k) (is_node p.1.to k)

-- a share is as small as its parts, and none where the element does not end
by_small : (b t : Bool) (out back old : ℤ) (n : ℕ) → unsigned_abs out ≤ n → unsigned_abs back ≤ n → unsigned_abs (cond b out (cond t back (pos 0)) +ℤ old) ≤ unsigned_abs old + cond (b || t) n 0
by_small true true out back old n h k = omega (arith, ints)
by_small true false out back old n h k = omega (arith, ints)
by_small false true out back old n h k = omega (arith, ints)
by_small false false out back old n h k = omega (arith, ints)

pub share_small : (e : Element) (k : ℕ) (out back old : ℤ) (n : ℕ) → unsigned_abs out ≤ n → unsigned_abs back ≤ n → unsigned_abs (share_at e k out back +ℤ old) ≤ unsigned_abs old + cond (ends_at e k) n 0
share_small e k out back old n h g = by_small (e.from.0 == k) (is_node e.to k) out back old n h g
