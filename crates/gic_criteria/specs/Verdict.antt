-- What an interval of a transformer's current says against a threshold.
use Rattle.std.specs.Prelude.{ℕ, Bool, ◌&&◌, if◌then◌else◌, nat_lt, int_lt, int_le, ℤ, pos}
use Rattle.gic_criteria.specs.declared.criterion.Verdict.{Verdict}
use Rattle.gic_criteria.specs.declared.criterion.Verdict.TheVariants.{Below, Reaches, Undecided, Outside}

-- a transformer is assessed, as in NERC TPL-007, if its high side has more than 200 kV and its core an effective current, so that the high side is earthed through a winding
abbrev pub is_assessed : (high_volts : ℕ) → (has_effect : Bool) → Bool
is_assessed high_volts has_effect = nat_lt 200000 high_volts && has_effect

-- the verdict of an assessed transformer whose current is from lo to hi
abbrev pub verdict_within : (lo hi : ℤ) → (threshold : ℕ) → Verdict
verdict_within lo hi threshold =
    if int_le (pos threshold) lo then Reaches
    else (if int_lt hi (pos threshold) then Below else Undecided)

-- the verdict of a transformer whose current is from lo to hi
abbrev pub verdict_of : (lo hi : ℤ) → (threshold high_volts : ℕ) → (has_effect : Bool) → Verdict
verdict_of lo hi threshold high_volts has_effect =
    if is_assessed high_volts has_effect then verdict_within lo hi threshold else Outside
