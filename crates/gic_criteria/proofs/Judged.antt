-- What verdicts tell of the ends of an interval, and of the currents in it.
use Rattle.std.proofs.Common.{◌≡◌, ℕ, ◌+◌, ◌*◌, ◌<◌, ◌≤◌, Bool, ℤ, pos, negsuc, ◌*ℤ◌, ◌<ℤ◌, ◌≤ℤ◌, unsigned_abs, arith}
use Rattle.std.proofs.lemmas.Int.{ints}
use Rattle.std.proofs.lemmas.Grind.{common_steps}
use Rattle.std.proofs.Math.Nat.{mul-le-mul_left}
use Rattle.gic_criteria.specs.declared.criterion.Verdict.TheVariants.{Below, Reaches}
use Rattle.gic_criteria.specs.Verdict.{verdict_of}
use Rattle.gic_criteria.specs.VerdictLaws.{threshold_square, worst_square}
use Rattle.gic_criteria.specs.Worst.{EnclosesWorst}
use Rattle.gic_fixed.proofs.Divisions.{positive_product}
use Rattle.gic_criteria.proofs.Squares.{square-le, square-times}

pub below_under : (lo hi : ℤ) (threshold high_volts : ℕ) (has_effect : Bool) → verdict_of lo hi threshold high_volts has_effect ≡ Below → hi <ℤ pos threshold
below_under lo hi threshold high_volts has_effect h = grind (arith, common_steps)

pub reaches_at_least : (lo hi : ℤ) (threshold high_volts : ℕ) (has_effect : Bool) → verdict_of lo hi threshold high_volts has_effect ≡ Reaches → pos threshold ≤ℤ lo
reaches_at_least lo hi threshold high_volts has_effect h = grind (arith, common_steps)

-- what isn't above an end under the threshold is under the threshold
pub under_end : (hi : ℤ) (n d threshold : ℕ) → 0 < d → hi <ℤ pos threshold → pos n ≤ℤ (hi *ℤ pos d) → n < threshold * d
under_end (pos x) n d threshold some less h =
    let times = mul-le-mul_left d (the_next x threshold (omega (arith, ints))) in
    omega (arith, ints)
  where
    the_next : (x t : ℕ) → x < t → x + 1 ≤ t
    the_next x t h = omega arith
under_end (negsuc x) n d threshold some less h = absurd (omega (arith, ints))

-- the same of a square under that of a product with an end
pub square_under : (hi threshold w s : ℕ) → 0 < w → hi < threshold → s ≤ hi * w * (hi * w) → s < threshold * w * (threshold * w)
square_under hi threshold w s some less h =
    let times : w * (hi + 1) ≤ w * threshold = mul-le-mul_left w (omega arith) in
    let squares = square-le (hi * w + 1) (threshold * w) (omega arith) in
    omega arith

pub square_at_least : (lo threshold w s : ℕ) → threshold ≤ lo → lo * w * (lo * w) ≤ s → threshold * w * (threshold * w) ≤ s
square_at_least lo threshold w s least h =
    let times : w * threshold ≤ w * lo = mul-le-mul_left w least in
    let squares = square-le (threshold * w) (lo * w) (omega arith) in
    omega arith

pub worst_under : (lo hi n : ℤ) (d : ℕ) (m : ℤ) (e threshold : ℕ) → 0 < d → 0 < e → lo ≤ℤ hi → hi <ℤ pos threshold → EnclosesWorst lo hi n d m e → worst_square n d m e < threshold_square threshold d e
worst_under lo hi n d m e threshold some_d some_e order less encloses =
    let product = square-times hi (d * e) in
    let less_size : unsigned_abs hi < threshold = omega (arith, ints, encloses.not_negative) in
    square_under (unsigned_abs hi) threshold (d * e) (worst_square n d m e) (positive_product d e some_d some_e) less_size (omega (arith, encloses.below_hi, product))

pub worst_at_least : (lo hi n : ℤ) (d : ℕ) (m : ℤ) (e threshold : ℕ) → pos threshold ≤ℤ lo → EnclosesWorst lo hi n d m e → threshold_square threshold d e ≤ worst_square n d m e
worst_at_least lo hi n d m e threshold least encloses =
    let product = square-times lo (d * e) in
    let least_size : threshold ≤ unsigned_abs lo = omega (arith, ints, encloses.not_negative) in
    square_at_least (unsigned_abs lo) threshold (d * e) (worst_square n d m e) least_size (omega (arith, encloses.above_lo, product))
