-- A time that may follow the one before is no less.
use Rattle.std.proofs.Common.{◌≡◌, ℕ, ◌≤◌, true, Option, Some, None, unwrap_or, arith}
use Rattle.std.proofs.lemmas.Bool.Decides.{nat_tests}
use Rattle.gic_storm.specs.Columns.{follows}
use Rattle.gic_storm.specs.declared.form.StormForm.{StormForm}
use Rattle.gic_storm.specs.declared.form.StormForm.TheVariants.{Uniform, Zoned}

pub follows_after : (form : StormForm) (before : Option ℕ) (time : ℕ) → follows form before time ≡ true → unwrap_or before 0 ≤ time
unfolding follows
follows_after form None time h = omega arith
follows_after Uniform (Some before) time h = grind (arith, nat_tests, h)
follows_after Zoned (Some before) time h = grind (arith, nat_tests, h)
