-- What tells the verdict of an interval, and what the verdict tells.
use Rattle.std.proofs.Common.{◌≡◌, ℕ, ◌+◌, ◌*◌, ◌<◌, ◌≤◌, ◌⊎◌, inl, inr, Bool, true, not, ℤ, pos, negsuc, ◌*ℤ◌, ◌<ℤ◌, ◌≤ℤ◌, arith}
use Rattle.std.proofs.lemmas.Bool.{cases_lt}
use Rattle.std.proofs.lemmas.Int.{ints}
use Rattle.std.proofs.lemmas.Grind.{common_steps}
use Rattle.std.proofs.Math.Nat.{mul-le-mul_left}
use Rattle.gic_criteria.specs.declared.criterion.Verdict.TheVariants.{Below, Reaches, Undecided, Outside}
use Rattle.gic_report.proofs.CountedVerdicts.{is_outside}
use Rattle.gic_criteria.specs.Verdict.{is_assessed, verdict_of}

-- a low end that isn't above a fraction under a number, and a high end that isn't under a fraction of a number or more
pub low_under : (lo : ℤ) (n d k : ℕ) → (lo *ℤ pos d) ≤ℤ pos n → n < k * d → lo <ℤ pos k
low_under (pos l) n d k above less = by (cases_lt l k)
  where
    by : (l < k) ⊎ (k ≤ l) → pos l <ℤ pos k
    by (inl under) = omega (arith, ints, under)
    by (inr over) = let times = mul-le-mul_left d over in absurd (omega (arith, ints, above, less, times))
low_under (negsuc l) n d k above less = omega (arith, ints)

pub high_over : (hi : ℤ) (n d k : ℕ) → 0 < d → pos n ≤ℤ (hi *ℤ pos d) → k * d ≤ n → pos k ≤ℤ hi
high_over (pos h) n d k some below least = by (cases_lt h k)
  where
    by : (h < k) ⊎ (k ≤ h) → pos k ≤ℤ pos h
    by (inl under) =
        let next : h + 1 ≤ k = omega (arith, under) in
        let times = mul-le-mul_left d next in
        absurd (omega (arith, ints, some, below, least, times))
    by (inr over) = omega (arith, ints, over)
high_over (negsuc h) n d k some below least = absurd (omega (arith, ints, some, below))

module _ (lo hi : ℤ) (threshold high_volts : ℕ) (earthed : Bool) where
  pub says_below : is_assessed high_volts earthed ≡ true → lo <ℤ pos threshold → hi <ℤ pos threshold → verdict_of lo hi threshold high_volts earthed ≡ Below
  says_below judged low high = grind (arith, common_steps, judged, low, high)

  pub says_reaches : is_assessed high_volts earthed ≡ true → pos threshold ≤ℤ lo → verdict_of lo hi threshold high_volts earthed ≡ Reaches
  says_reaches judged low = grind (arith, common_steps, judged, low)

  pub below_judged : verdict_of lo hi threshold high_volts earthed ≡ Below → is_assessed high_volts earthed ≡ true
  below_judged said = grind (arith, common_steps, said)

  pub reaches_judged : verdict_of lo hi threshold high_volts earthed ≡ Reaches → is_assessed high_volts earthed ≡ true
  reaches_judged said = grind (arith, common_steps, said)

  pub undecided_judged : verdict_of lo hi threshold high_volts earthed ≡ Undecided → is_assessed high_volts earthed ≡ true
  undecided_judged said = grind (arith, common_steps, said)

  pub outside_is : is_outside (verdict_of lo hi threshold high_volts earthed) ≡ not (is_assessed high_volts earthed)
  outside_is = grind (arith, common_steps)
