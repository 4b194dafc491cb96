-- The reach is hardly more than the grains within which the guesses are settled.
use Rattle.std.proofs.Common.{◌≡◌, ℕ, ◌+◌, ◌*◌, ◌/◌, ◌%◌, ◌^◌, ◌<◌, ◌≤◌, List, [], ◌∷◌, length, min, ℤ, pos, ◌+ℤ◌, ◌-ℤ◌, ◌*ℤ◌, ◌≤ℤ◌, unsigned_abs, arith, ap, div-add-mod', mod-lt, mul-le-mul_left, mul-le-mul_right, le_of_mul-le-mul_right}
use Rattle.std.specs.List.{sum_by}
use Rattle.std.proofs.lemmas.Int.{ints, unsigned_abs-mul}
use Rattle.std.proofs.lemmas.List.Sums.{sum_by-cons}
use lib.IntN.{*ℤ_comm}
use Rattle.gic_model.specs.Limits.{IsWithinLimits}
use Rattle.gic_model.specs.Sums.{Placed}
use Rattle.gic_model.specs.Guess.{diagonal, least_conductance, residual, conductance, ohms_at, HoldsResidual, IsSettledAt}
use Rattle.gic_model.proofs.Conductance.{natural}
use Rattle.gic_fixed.proofs.Integers.{linear, *ℤ-≤ℤ, *ℤ--ℤ}
use Rattle.gic_net.specs.Net.{NetView, standing, row_at}
use Rattle.gic_sweep.proofs.NodeSums.{diagonal_part}
use Rattle.gic_sweep.specs.Residuals.{most_reach}
use Rattle.gic_sweep.proofs.Conductances.{floor_part, conductance_many, ohms_some}

pub settled_more : (standing : List Placed) (volts x : ℕ → ℤ) (k t u : ℕ) → t ≤ u → IsSettledAt standing volts x t k → IsSettledAt standing volts x u k
settled_more standing volts x k t u h s =
    let more : t * unsigned_abs (conductance standing k) ≤ u * unsigned_abs (conductance standing k) = mul-le-mul_right (unsigned_abs (conductance standing k)) h in
    omega (arith, more, s)

parts_near : (p : Placed) → diagonal_part p ≤ floor_part p + 1
parts_near p =
    let one : min 1 ((p.1.times * 1000000 * 2 ^ 20) % p.1.micro_ohm) ≤ 1 = omega arith in
    omega (arith, one)

sums_near : (ps : List Placed) → sum_by diagonal_part ps ≤ sum_by floor_part ps + length ps
sums_near [] = omega arith
sums_near (p ∷ ps) = omega (arith, sums_near ps, parts_near p, sum_by-cons diagonal_part p ps, sum_by-cons floor_part p ps)

-- the diagonal is at most 1 for each element above the conductance that is rounded down
diagonal_near : (net : NetView) (k : ℕ) → diagonal (standing net) k ≤ least_conductance (standing net) k + length (row_at net k)
diagonal_near net k = sums_near (row_at net k)

pub diagonal_twice : (net : NetView) (k : ℕ) → IsWithinLimits net.network → diagonal (standing net) k ≤ 2 * least_conductance (standing net) k
diagonal_twice net k limits = omega (arith, diagonal_near net k, conductance_many net k limits)

-- over plain numbers: n / p is the conductance, r the residual times p, m a rounded end, h the number of elements
close_plain : (m h g n p r d t : ℕ) → 0 < p → 1048 * h ≤ g → m * p ≤ 256 * r + h * p → r ≤ t * n → 2 ^ 20 * n ≤ p * d → d ≤ g + h → 4096 * m ≤ most_reach t * g
close_plain m h g n p r d t some many end settled least near =
    let first : t * (2 ^ 20 * n) ≤ t * (p * d) = mul-le-mul_left t least in
    let second : t * p * d ≤ t * p * (g + h) = mul-le-mul_left (t * p) near in
    let above : 0 < 1048 = omega arith in
    let quotient : t + 4096 ≤ 1048 * (t / 1048 + 5) = omega (arith, div-add-mod' t 1048, mod-lt t above) in
    let third : (t + 4096) * h ≤ 1048 * (t / 1048 + 5) * h = mul-le-mul_right h quotient in
    let fourth : (t / 1048 + 5) * (1048 * h) ≤ (t / 1048 + 5) * g = mul-le-mul_left (t / 1048 + 5) many in
    let fifth : (t + 4096) * h * p ≤ (t / 1048 + 5) * g * p = mul-le-mul_right p (omega (arith, third, fourth)) in
    let whole : 4096 * m * p ≤ most_reach t * g * p = omega (arith, first, second, fifth, end, settled) in
    le_of_mul-le-mul_right {k = p} whole some

ends_near : (lo hi r : ℤ) (p h : ℕ) → (lo *ℤ pos p) ≤ℤ (pos 256 *ℤ r) → (pos 256 *ℤ r) ≤ℤ (hi *ℤ pos p) → (hi -ℤ lo) ≤ℤ pos h →
    (unsigned_abs lo * p ≤ 256 * unsigned_abs r + h * p) × (unsigned_abs hi * p ≤ 256 * unsigned_abs r + h * p)
ends_near lo hi r p h low high narrow =
    let times : (pos p *ℤ (hi -ℤ lo)) ≤ℤ pos (p * h) = *ℤ-≤ℤ p (hi -ℤ lo) (pos h) narrow in
    let split = *ℤ--ℤ (pos p) hi lo in
    let cl = *ℤ_comm lo (pos p) in
    let ch = *ℤ_comm hi (pos p) in
    let al = unsigned_abs-mul lo (pos p) in
    let ah = unsigned_abs-mul hi (pos p) in
    let ar = unsigned_abs-mul (pos 256) r in
    let gap : (hi *ℤ pos p) ≤ℤ ((lo *ℤ pos p) +ℤ pos (p * h)) = omega (arith, linear) in
    let both = bounds (lo *ℤ pos p) (hi *ℤ pos p) (pos 256 *ℤ r) (p * h) low high gap in
    (omega (arith, both.0, al, ar), omega (arith, both.1, ah, ar))
  where
    bounds : (u v w : ℤ) (q : ℕ) → u ≤ℤ w → w ≤ℤ v → v ≤ℤ (u +ℤ pos q) → (unsigned_abs u ≤ unsigned_abs w + q) × (unsigned_abs v ≤ unsigned_abs w + q)
    bounds u v w q a b c = (omega (arith, ints), omega (arith, ints))

-- both ends of a narrow interval that holds the residual of a settled guess
pub close_at : (net : NetView) (k : ℕ) → IsWithinLimits net.network → (volts x : ℕ → ℤ) (lo hi : ℤ) → HoldsResidual (standing net) volts x k lo hi → (hi -ℤ lo) ≤ℤ pos (length (row_at net k)) →
    (pos (2 ^ 20) *ℤ conductance (standing net) k) ≤ℤ pos (ohms_at (standing net) k * diagonal (standing net) k) → (t : ℕ) → IsSettledAt (standing net) volts x t k →
    (4096 * unsigned_abs lo ≤ most_reach t * least_conductance (standing net) k) × (4096 * unsigned_abs hi ≤ most_reach t * least_conductance (standing net) k)
close_at net k limits volts x lo hi holds narrow least t settled =
    let p = ohms_at (standing net) k in
    let r = residual (standing net) volts x k in
    let h = length (row_at net k) in
    let g = least_conductance (standing net) k in
    let d = diagonal (standing net) k in
    let n = natural (row_at net k) in
    let total : conductance (standing net) k ≡ pos n.0 = n.1 in
    let size = ap (λ z. t * unsigned_abs z) total in
    let calm : unsigned_abs r ≤ t * n.0 = omega (arith, settled, size) in
    let scaled = ap (λ (z : ℤ). pos (2 ^ 20) *ℤ z) total in
    let under : 2 ^ 20 * n.0 ≤ p * d = omega (arith, linear) in
    let ends = ends_near lo hi r p h holds.above_lo holds.below_hi narrow in (
      close_plain (unsigned_abs lo) h g n.0 p (unsigned_abs r) d t (ohms_some net k limits) (conductance_many net k limits) ends.0 calm under (diagonal_near net k),
      close_plain (unsigned_abs hi) h g n.0 p (unsigned_abs r) d t (ohms_some net k limits) (conductance_many net k limits) ends.1 calm under (diagonal_near net k),
    )
