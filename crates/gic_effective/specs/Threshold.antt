-- The absolute effective current of a transformer in a solution, beside a threshold in mA per phase.
use Rattle.std.specs.Prelude.{ℕ, ◌*◌, ◌<◌, ◌≤◌, unsigned_abs}
use Rattle.gic_case.specs.Lists.{Lists}
use Rattle.gic_model.specs.Solution.{Solution}
use Rattle.gic_effective.specs.Weighted.{effective_numerator, effective_denominator}

-- it is under the threshold
abbrev pub IsUnder : Lists → (threshold t : ℕ) → Solution → Type 0
IsUnder case threshold t s = unsigned_abs (effective_numerator case s t) < threshold * effective_denominator case t s

-- it is the threshold or more, as in the criterion of NERC TPL-007
abbrev pub IsAtLeast : Lists → (threshold t : ℕ) → Solution → Type 0
IsAtLeast case threshold t s = threshold * effective_denominator case t s ≤ unsigned_abs (effective_numerator case s t)
