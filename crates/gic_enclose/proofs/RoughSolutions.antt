-- The whole nanovolts of a solution's potentials are rough potentials.
use Rattle.std.proofs.Common.{◌≡◌, ℕ, suc, ◌+◌, ◌*◌, ◌^◌, ◌<◌, ◌≤◌, true, List, [], ◌∷◌, ℤ, pos, neg_ℤ, ◌-ℤ◌, ◌+ℤ◌, ◌*ℤ◌, ◌≤ℤ◌, ◌<ℤ◌, negsuc, unsigned_abs, arith, refl, ap, sym, ⊎_elim, mul-le-mul_left}
use Rattle.std.proofs.lemmas.Bool.{cases_lt}
use Rattle.std.proofs.lemmas.Int.{ints, unsigned_abs-mul}
use Rattle.std.proofs.lemmas.List.Elements.{recursion_from_All}
use Rattle.std.proofs.Math.Nat.{le_of_mul-le-mul_left}
use Rattle.std.specs.List.{AllByRecursion}
use Rattle.gic_fixed.specs.Rounding.{floor_div}
use Rattle.gic_fixed.proofs.Divisions.{floor_below, floor_above}
use Rattle.gic_fixed.proofs.Integers.{linear, *ℤ-≤ℤ, *ℤ-+ℤ, *ℤ-neg_ℤ, *ℤ_left_comm}
use Rattle.gic_model.specs.declared.parts.End.{End}
use Rattle.gic_model.specs.declared.parts.End.TheVariants.{Node, Earth}
use Rattle.gic_model.specs.Network.{ends_at}
use Rattle.gic_model.specs.Guess.{residual, conductance}
use Rattle.gic_model.specs.Limits.{most_wide_volts, most_volts}
use Rattle.gic_model.specs.Solution.{Solution, IsSolution, IsOhm}
use Rattle.gic_model.specs.Standing.{is_live, IsLive, elements_at, value_at, other_end, standing_elements}
use Rattle.gic_model.specs.Sums.{Placed}
use Rattle.gic_model.specs.Ohms.{sum_over_ohms}
use Rattle.gic_model.proofs.Ends.{others_live, IsLiveEnd}
use Rattle.gic_model.proofs.Members.{kept}
use Rattle.gic_model.proofs.Pushes.{product_within, carried_within}
use Rattle.gic_model.proofs.Residual.{error, residual-error}
use Rattle.gic_model.proofs.Row.{weight, fall}
use Rattle.gic_enclose.specs.Drive.{in_grains, AreRoughPotentials}
use Rattle.gic_enclose.specs.Laws.{SolvedVoltsDriveWithin}

-- the potentials of a solution in whole nanovolts
abbrev pub whole_volts : Solution → ℕ → ℤ
whole_volts s k = floor_div (s.potential k) (pos s.denominator)

-- over plain numbers: their size
whole_small : (z : ℤ) (d m : ℕ) → 0 < d → unsigned_abs z ≤ m * d → unsigned_abs (floor_div z (pos d)) ≤ m
whole_small z d m some most =
    let low = floor_below z d some in
    let high = floor_above z d some in
    by (floor_div z (pos d)) low high
  where
    above : (n : ℕ) → (pos d *ℤ pos n) ≤ℤ z → n ≤ m
    above n low =
        let times : d * n ≤ d * m = omega (arith, ints, most, low) in
        le_of_mul-le-mul_left times some

    below : (n : ℕ) → z <ℤ ((pos d *ℤ neg_ℤ (pos n)) +ℤ pos d) → n ≤ m
    below n high =
        let turned = *ℤ-neg_ℤ (pos d) (pos n) in
        let less : d * n < d * (m + 1) = under (pos d *ℤ neg_ℤ (pos n)) turned high in
        ⊎_elim (λ few. omega (arith, few)) (λ many. let more : d * (m + 1) ≤ d * n = mul-le-mul_left d many in absurd (omega (arith, less, more))) (cases_lt n (m + 1))
      where
        under : (q : ℤ) → q ≡ neg_ℤ (pos (d * n)) → z <ℤ (q +ℤ pos d) → d * n < d * (m + 1)
        under q is high = omega (arith, ints, is, most, high)

    by : (q : ℤ) → (pos d *ℤ q) ≤ℤ z → z <ℤ ((pos d *ℤ q) +ℤ pos d) → unsigned_abs q ≤ m
    by (pos n) low high = above n low
    by (negsuc n) low high = below (suc n) high

-- and their error, in grains over the denominator
error_small : (s : Solution) (m : ℕ) → 0 < s.denominator →
    (neg_ℤ (pos (2 ^ 36 * s.denominator)) ≤ℤ error s (in_grains (whole_volts s)) m) × (error s (in_grains (whole_volts s)) m ≤ℤ pos 0)
error_small s m some =
    let low = floor_below (s.potential m) s.denominator some in
    let high = floor_above (s.potential m) s.denominator some in
    let turned = *ℤ_left_comm (pos s.denominator) (pos (2 ^ 36)) (whole_volts s m) in
    plain (pos s.denominator *ℤ whole_volts s m) (s.potential m) s.denominator (error s (in_grains (whole_volts s)) m) (omega (arith, linear)) low high
  where
    plain : (n p : ℤ) (d : ℕ) (e : ℤ) → e ≡ pos (2 ^ 36) *ℤ n -ℤ pos (2 ^ 36) *ℤ p → n ≤ℤ p → p <ℤ (n +ℤ pos d) → (neg_ℤ (pos (2 ^ 36 * d)) ≤ℤ e) × (e ≤ℤ pos 0)
    plain n p d e is low high =
        let at_least = *ℤ-≤ℤ (2 ^ 36) n p low in
        let at_most = *ℤ-≤ℤ (2 ^ 36) p (n +ℤ pos d) (omega (arith, linear, high)) in
        let split = *ℤ-+ℤ (pos (2 ^ 36)) n (pos d) in
        (omega (arith, linear), omega (arith, linear))

-- numbers from -b to 0 at all nodes carry at most what the conductance carries at b
carried_small : (standing : List Placed) (e : ℕ → ℤ) (b k : ℕ) → ((m : ℕ) → (neg_ℤ (pos b) ≤ℤ e m) × (e m ≤ℤ pos 0)) →
    unsigned_abs (sum_over_ohms (λ p. weight p *ℤ fall e k p) (elements_at standing k)) ≤ b * unsigned_abs (conductance standing k)
carried_small standing e b k small = carried_within (λ p. weight p *ℤ fall e k p) b (elements_at standing k) (highs (elements_at standing k)) (lows (elements_at standing k))
  where
    there : (t : End) → (neg_ℤ (pos b) ≤ℤ value_at e t) × (value_at e t ≤ℤ pos 0)
    there (Node m) = small m.0
    there Earth = (omega (arith, ints), omega (arith, ints))

    apart : (a c : ℤ) → (neg_ℤ (pos b) ≤ℤ a) × (a ≤ℤ pos 0) → (neg_ℤ (pos b) ≤ℤ c) × (c ≤ℤ pos 0) → unsigned_abs (a -ℤ c) ≤ b
    apart a c h g = omega (arith, ints, h.0, h.1, g.0, g.1)

    both : (p : Placed) → ((weight p *ℤ fall e k p) ≤ℤ (pos b *ℤ weight p)) × (neg_ℤ (weight p *ℤ fall e k p) ≤ℤ (pos b *ℤ weight p))
    both p = product_within (p.1.times * 1000000) b (fall e k p) (apart (e k) (value_at e (other_end k p.1)) (small k) (there (other_end k p.1)))

    highs : (ps : List Placed) → AllByRecursion (λ p. (weight p *ℤ fall e k p) ≤ℤ (pos b *ℤ weight p)) ps
    highs [] = tt
    highs (p ∷ ps) = ((both p).0, highs ps)

    lows : (ps : List Placed) → AllByRecursion (λ p. neg_ℤ (weight p *ℤ fall e k p) ≤ℤ (pos b *ℤ weight p)) ps
    lows [] = tt
    lows (p ∷ ps) = ((both p).1, lows ps)

-- over plain numbers
cancel : (d r c : ℕ) → 0 < d → d * r ≤ 2 ^ 36 * d * c → r ≤ 2 ^ 36 * most_volts * c
cancel d r c some h =
    let times : d * r ≤ d * (2 ^ 36 * c) = omega (arith, h) in
    let one : r ≤ 2 ^ 36 * c = le_of_mul-le-mul_left times some in
    omega (arith, one)

pub solved_volts_drive : SolvedVoltsDriveWithin
solved_volts_drive network stands volts s limits solves within =
    let standing = standing_elements network stands in
    let x = in_grains (whole_volts s) in
    let some = solves.denominator_above_0 in
    record {
      potential = whole_volts s;
      are_rough = record {
        within = λ k live. whole_small (s.potential k) s.denominator most_wide_volts some (within k live);
        rough = λ k live.
            let ohms = kept (λ p. ends_at p.1 k) (IsOhm volts s) (λ p. (ends_at p.1 k ≡ true) × IsOhm volts s p) (λ p is ohm. (is, ohm)) standing (recursion_from_All (IsOhm volts s) standing solves.ohm) in
            let carries = residual-error volts x s k (elements_at standing k) ohms (solves.kirchhoff k live) in
            let most = carried_small standing (error s x) (2 ^ 36 * s.denominator) k (λ m. error_small s m some) in
            let size = unsigned_abs-mul (pos s.denominator) (residual standing volts x k) in
            cancel s.denominator (unsigned_abs (residual standing volts x k)) (unsigned_abs (conductance standing k)) some (omega (arith, ap unsigned_abs carries, size, most));
      };
    }
