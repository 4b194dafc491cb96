-- What verdicts say of the currents that an interval encloses.
use Rattle.std.specs.Prelude.{ℕ, ◌+◌, ◌*◌, ◌<◌, ◌≤◌, ◌≡◌, Bool, ℤ, pos, ◌*ℤ◌, ◌<ℤ◌, ◌≤ℤ◌, unsigned_abs}
use Rattle.gic_criteria.specs.declared.criterion.Verdict.TheVariants.{Below, Reaches, Undecided}
use Rattle.gic_criteria.specs.Verdict.{verdict_of}
use Rattle.gic_criteria.specs.Worst.{square_of, EnclosesWorst}

-- `below`: each absolute current |n|/d that isn't above the high end is under the threshold
abbrev pub BelowIsUnder : Type 0
BelowIsUnder = (lo hi n : ℤ) (d threshold high_volts : ℕ) (has_effect : Bool) → 0 < d →
    verdict_of lo hi threshold high_volts has_effect ≡ Below →
    pos (unsigned_abs n) ≤ℤ (hi *ℤ pos d) → unsigned_abs n < threshold * d

-- `reaches`: each absolute current |n|/d that isn't under the low end is the threshold or more
abbrev pub ReachesIsAtLeast : Type 0
ReachesIsAtLeast = (lo hi n : ℤ) (d threshold high_volts : ℕ) (has_effect : Bool) →
    verdict_of lo hi threshold high_volts has_effect ≡ Reaches →
    (lo *ℤ pos d) ≤ℤ pos (unsigned_abs n) → threshold * d ≤ unsigned_abs n

-- `undecided`: the low end is under the threshold, and the high end isn't
abbrev pub UndecidedIsAcross : Type 0
UndecidedIsAcross = (lo hi : ℤ) (threshold high_volts : ℕ) (has_effect : Bool) →
    verdict_of lo hi threshold high_volts has_effect ≡ Undecided →
    (lo <ℤ pos threshold) × (pos threshold ≤ℤ hi)

-- the square of the threshold and (n/d)² + (m/e)², both times (d·e)²
abbrev pub threshold_square : (threshold d e : ℕ) → ℕ
threshold_square threshold d e = square_of (pos (threshold * (d * e)))

abbrev pub worst_square : (n : ℤ) (d : ℕ) (m : ℤ) (e : ℕ) → ℕ
worst_square n d m e = square_of (n *ℤ pos e) + square_of (m *ℤ pos d)

-- `below` of a worst interval: the worst current of n/d and m/e is under the threshold
abbrev pub WorstBelowIsUnder : Type 0
WorstBelowIsUnder = (lo hi n : ℤ) (d : ℕ) (m : ℤ) (e threshold high_volts : ℕ) (has_effect : Bool) → 0 < d → 0 < e → lo ≤ℤ hi →
    verdict_of lo hi threshold high_volts has_effect ≡ Below →
    EnclosesWorst lo hi n d m e → worst_square n d m e < threshold_square threshold d e

-- `reaches` of a worst interval: the worst current of n/d and m/e is the threshold or more
abbrev pub WorstReachesIsAtLeast : Type 0
WorstReachesIsAtLeast = (lo hi n : ℤ) (d : ℕ) (m : ℤ) (e threshold high_volts : ℕ) (has_effect : Bool) →
    verdict_of lo hi threshold high_volts has_effect ≡ Reaches →
    EnclosesWorst lo hi n d m e → threshold_square threshold d e ≤ worst_square n d m e
