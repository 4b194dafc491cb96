-- What rows carry bounds what a bound vector measures: the certificate.
use Rattle.std.proofs.Common.{◌≡◌, ℕ, ◌*◌, ◌^◌, ◌<◌, ◌≤◌, true, List, ℤ, pos, ◌+ℤ◌, ◌-ℤ◌, ◌*ℤ◌, ◌≤ℤ◌, unsigned_abs, arith, ap, sym, ◌∙◌}
use lib.IntN.{*ℤ_comm}
use Rattle.std.specs.List.{AllByRecursion}
use Rattle.std.proofs.lemmas.List.Elements.{recursion_from_All}
use Rattle.std.proofs.lemmas.Int.{unsigned_abs-mul}
use Rattle.std.proofs.Math.Nat.{mul-le-mul_right, mul-le-mul_left, le_of_mul-le-mul_right}
use Rattle.gic_model.specs.Network.{ends_at}
use Rattle.gic_model.specs.Limits.{IsElementWithin}
use Rattle.gic_model.specs.Standing.{IsLive, elements_at}
use Rattle.gic_model.specs.Sums.{Placed}
use Rattle.gic_model.specs.Ohms.{sum_over_ohms}
use Rattle.gic_model.specs.Solution.{Solution, IsOhm, IsSolution}
use Rattle.gic_model.specs.Bound.{IsBoundVector}
use Rattle.gic_model.specs.Guess.{residual, conductance, IsSettledWithin}
use Rattle.gic_fixed.specs.Encloses.{Encloses}
use Rattle.gic_fixed.proofs.Integers.{linear, abs-parts, *ℤ-≤ℤ, *ℤ--ℤ, *ℤ-+ℤ}
use Rattle.gic_model.proofs.SumLaws.{sum_over_ohms-≤ℤ, sum_over_ohms-*ℤ}
use Rattle.gic_model.proofs.Row.{weight, fall, carried, signed, row_carries}
use Rattle.gic_model.proofs.Residual.{error, residual-error}
use Rattle.gic_model.proofs.Members.{kept}
use Rattle.gic_model.proofs.Ends.{ohms_at_node}
use Rattle.gic_model.proofs.Greatest.{IsGreatestAt, HasShares, greatest_live, has_shares}
use Rattle.gic_model.proofs.Conductance.{conductance_positive}

-- the last step, over plain numbers: from the greatest ratio to that of the node i
last_step : (ei ek vi vk q g c : ℕ) → 0 < g → 0 < vk → ek * g ≤ vk * c → c ≤ q * g → ei * vk ≤ ek * vi → ei ≤ vi * q
last_step ei ek vi vk q g c some above row small most =
    let times : vk * c ≤ vk * (q * g) = mul-le-mul_left vk small in
    let at_k : ek * g ≤ (vk * q) * g = omega arith in
    let greatest : ek ≤ vk * q = le_of_mul-le-mul_right at_k some in
    let scaled : ek * vi ≤ (vk * q) * vi = mul-le-mul_right vi greatest in
    let at_i : ei * vk ≤ (vi * q) * vk = omega arith in
    le_of_mul-le-mul_right at_i above

module _ (nodes : ℕ) (standing : List Placed) (within : AllByRecursion (λ p. IsElementWithin nodes p.1) standing) where
  -- where at each live node e carries at most what the conductance carries at q, e is at most q times the bound vector
  module _ (e : ℕ → ℤ) (v : ℕ → ℕ) (bound : IsBoundVector standing v) (q : ℕ)
      (small : (k : ℕ) → IsLive standing k → unsigned_abs (carried e k (elements_at standing k)) ≤ q * unsigned_abs (conductance standing k)) where
    at_greatest : (k g : ℕ) (d : ℕ → ℤ) → IsLive standing k → HasShares e d v k (elements_at standing k) → sum_over_ohms weight (elements_at standing k) ≡ pos g →
        unsigned_abs (e k) * g ≤ v k * unsigned_abs (carried e k (elements_at standing k))
    at_greatest k g d live h total =
        let ps = elements_at standing k in
        let row = row_carries v k ps (ohms_at_node nodes standing k within) (bound.rows k live) in
        let kept_row = *ℤ-≤ℤ (unsigned_abs (e k)) (sum_over_ohms weight ps) (carried (signed v) k ps) row in
        let whole = ap (λ z. pos (unsigned_abs (e k)) *ℤ z) total in
        let order = sum_over_ohms-≤ℤ (λ p. d k *ℤ (weight p *ℤ fall (signed v) k p)) (λ p. pos (v k) *ℤ (weight p *ℤ fall d k p)) ps h.shares in
        let left = sum_over_ohms-*ℤ (d k) (λ p. weight p *ℤ fall (signed v) k p) ps in
        let right = sum_over_ohms-*ℤ (pos (v k)) (λ p. weight p *ℤ fall d k p) ps in
        let top = ap (λ z. z *ℤ carried (signed v) k ps) h.top in
        let most : carried d k ps ≤ℤ pos (unsigned_abs (carried d k ps)) = omega (arith, linear, abs-parts) in
        let scaled = *ℤ-≤ℤ (v k) (carried d k ps) (pos (unsigned_abs (carried d k ps))) most in
        let size = ap (λ z. v k * z) h.size in
        omega (arith, linear)

    pub bounded : (i : ℕ) → IsLive standing i → unsigned_abs (e i) ≤ v i * q
    bounded i live = by (greatest_live nodes standing within e v bound.live_above_0 i live)
      where
        at : (k g : ℕ) (d : ℕ → ℤ) → IsGreatestAt standing e v k → HasShares e d v k (elements_at standing k) → 0 < g → sum_over_ohms weight (elements_at standing k) ≡ pos g →
            unsigned_abs (e i) ≤ v i * q
        at k g d top h some total =
            let size = ap (λ z. q * unsigned_abs z) total in
            let within_q = small k top.live in
            last_step (unsigned_abs (e i)) (unsigned_abs (e k)) (v i) (v k) q g (unsigned_abs (carried e k (elements_at standing k))) some (bound.live_above_0 k top.live)
            (at_greatest k g d top.live h total) (omega arith) (top.greatest i live)

        by : (k : ℕ) × IsGreatestAt standing e v k → unsigned_abs (e i) ≤ v i * q
        by (k, top) =
            let h = has_shares standing e v k top in
            let g = conductance_positive nodes (λ p. ends_at p.1 k) standing within (ohms_at_node nodes standing k within) top.live in
            at k g.0 h.0 top h.1 g.1 g.2

  module _ (volts x : ℕ → ℤ) (s : Solution) (v : ℕ → ℕ) (t : ℕ)
      (solves : IsSolution standing volts s) (bound : IsBoundVector standing v) (settled : IsSettledWithin standing volts x t) where
    ohm_at : (k : ℕ) → AllByRecursion (λ p. (ends_at p.1 k ≡ true) × IsOhm volts s p) (elements_at standing k)
    ohm_at k = kept (λ p. ends_at p.1 k) (IsOhm volts s) (λ p. (ends_at p.1 k ≡ true) × IsOhm volts s p) (λ p is ohm. (is, ohm)) standing (recursion_from_All (IsOhm volts s) standing solves.ohm)

    errors_carry : (k : ℕ) → IsLive standing k → unsigned_abs (carried (error s x) k (elements_at standing k)) ≤ (s.denominator * t) * unsigned_abs (conductance standing k)
    errors_carry k live =
        let carries = ap unsigned_abs (sym (residual-error volts x s k (elements_at standing k) (ohm_at k) (solves.kirchhoff k live))) ∙ unsigned_abs-mul (pos s.denominator) (residual standing volts x k) in
        let scaled : s.denominator * unsigned_abs (residual standing volts x k) ≤ s.denominator * (t * unsigned_abs (conductance standing k)) = mul-le-mul_left s.denominator (settled k live) in
        omega arith

    -- the error at each live node
    pub error_bound : (i : ℕ) → IsLive standing i → unsigned_abs (error s x i) ≤ v i * (s.denominator * t)
    error_bound i live = bounded (error s x) v bound (s.denominator * t) errors_carry i live

    -- the interval round the guess
    pub certificate : (i : ℕ) → IsLive standing i → Encloses (x i -ℤ pos (v i * t)) (x i +ℤ pos (v i * t)) (pos (2 ^ 36) *ℤ s.potential i) s.denominator
    certificate i live =
        let most = error_bound i live in
        let low = *ℤ_comm (x i -ℤ pos (v i * t)) (pos s.denominator) in
        let low_split = *ℤ--ℤ (pos s.denominator) (x i) (pos (v i * t)) in
        let high = *ℤ_comm (x i +ℤ pos (v i * t)) (pos s.denominator) in
        let high_split = *ℤ-+ℤ (pos s.denominator) (x i) (pos (v i * t)) in
        let parts = abs-parts (error s x i) in
        record { above_lo = omega (arith, linear); below_hi = omega (arith, linear) }
