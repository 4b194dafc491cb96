-- The loop worked by hand: the currents of all its varied solutions.
use Rattle.std.proofs.Common.{◌≡◌, ℕ, ◌*◌, ◌<◌, inl, inr, true, false, ℤ, pos, ◌+ℤ◌, ◌-ℤ◌, ◌*ℤ◌, neg_ℤ, ◌≤ℤ◌, arith, refl}
use Rattle.std.proofs.lemmas.Int.{ints}
use Rattle.std.proofs.lemmas.List.Elements.{recursion_from_All}
use Rattle.gic_model.specs.Solution.{Solution, IsOhm}
use Rattle.gic_model.specs.WorkedLoop.{loop_standing}
use Rattle.gic_varied.specs.Grounds.{is_ground}
use Rattle.gic_varied.specs.Ranges.{Range}
use Rattle.gic_varied.specs.Varied.{IsOhmWithin, IsGroundWithin, IsVaried}
use Rattle.gic_varied.specs.WorkedGrounds.{loop_ranges, line_of_800_volts, IsLoopCurrent}

abbrev tenths : Range
tenths = record { least = 800000; most = 1200000 }

-- over plain numbers: the current c round the loop, and the drives a and b at the grounds that it leaves and enters
bounded : (c a b : ℤ) (d : ℕ) → 0 < d → pos 1200000 *ℤ c ≡ a -ℤ b +ℤ pos (800000000000000000 * d) → IsOhmWithin tenths a (neg_ℤ c) → IsOhmWithin tenths b c →
    ((pos 2000000000000 *ℤ pos d) ≤ℤ (pos 9 *ℤ c)) × ((pos 7 *ℤ c) ≤ℤ (pos 2000000000000 *ℤ pos d))
bounded c a b d some loop (inl h) (inl k) = (omega (arith, ints, h.0, h.1, h.2, k.0, k.1, k.2), omega (arith, ints, h.0, h.1, h.2, k.0, k.1, k.2))
bounded c a b d some loop (inl h) (inr k) = (omega (arith, ints, h.0, h.1, h.2, k.0, k.1, k.2), omega (arith, ints, h.0, h.1, h.2, k.0, k.1, k.2))
bounded c a b d some loop (inr h) (inl k) = (omega (arith, ints, h.0, h.1, h.2, k.0, k.1, k.2), omega (arith, ints, h.0, h.1, h.2, k.0, k.1, k.2))
bounded c a b d some loop (inr h) (inr k) = (omega (arith, ints, h.0, h.1, h.2, k.0, k.1, k.2), omega (arith, ints, h.0, h.1, h.2, k.0, k.1, k.2))

-- the currents of the loop are one, and the potentials are gone
round : (c0 c1 c2 c3 c4 p0 p1 p2 p3 : ℤ) (d : ℕ) →
    c0 +ℤ (neg_ℤ c3 +ℤ pos 0) ≡ pos 0 → c1 +ℤ (neg_ℤ c4 +ℤ pos 0) ≡ pos 0 → c2 +ℤ (c3 +ℤ pos 0) ≡ pos 0 → neg_ℤ c2 +ℤ (c4 +ℤ pos 0) ≡ pos 0 →
    pos 3000000 *ℤ c2 ≡ pos 3000000 *ℤ (p2 -ℤ p3 +ℤ pos d *ℤ pos 800000000000) →
    pos 300000 *ℤ c3 ≡ pos 3000000 *ℤ (p2 -ℤ p0 +ℤ pos d *ℤ pos 0) → pos 300000 *ℤ c4 ≡ pos 3000000 *ℤ (p3 -ℤ p1 +ℤ pos d *ℤ pos 0) →
    (c0 ≡ neg_ℤ c2) × (c1 ≡ c2) × (pos 1200000 *ℤ c2 ≡ pos 1000000 *ℤ p0 -ℤ pos 1000000 *ℤ p1 +ℤ pos (800000000000000000 * d))
round c0 c1 c2 c3 c4 p0 p1 p2 p3 d at_0 at_1 at_2 at_3 line first second =
    (omega (arith, ints), omega (arith, ints), omega (arith, ints))

pub loop_bounds : (s : Solution) → IsVaried loop_standing loop_ranges line_of_800_volts s → IsLoopCurrent s
loop_bounds s h =
    let ohm = recursion_from_All (λ p. is_ground p.1 ≡ false → IsOhm line_of_800_volts s p) loop_standing h.ohm in
    let grounds = recursion_from_All (λ p. is_ground p.1 ≡ true → IsGroundWithin loop_ranges s p) loop_standing h.grounds in
    let c = s.current in
    let p = s.potential in
    let one = round (c 0) (c 1) (c 2) (c 3) (c 4) (p 0) (p 1) (p 2) (p 3) s.denominator (h.kirchhoff 0 refl) (h.kirchhoff 1 refl) (h.kirchhoff 2 refl) (h.kirchhoff 3 refl)
    (ohm.1.1.0 refl) (ohm.1.1.1.0 refl) (ohm.1.1.1.1.0 refl) in
    let at_a : IsOhmWithin tenths (pos 1000000 *ℤ p 0) (c 0) = grounds.0 refl in
    let at_b : IsOhmWithin tenths (pos 1000000 *ℤ p 1) (c 1) = grounds.1.0 refl in
    let both = bounded (c 2) (pos 1000000 *ℤ p 0) (pos 1000000 *ℤ p 1) s.denominator h.denominator_above_0 one.2
    (rw one.0 at at_a) (rw one.1 at at_b) in
    record { at_least = both.0; at_most = both.1 }
