-- Verdicts, counted, and their words.
use Rattle.std.specs.Prelude.{ℕ, ◌+◌, ◌^◌, ◌<◌, Bool, List, [], ◌∷◌, length, count_by, codes, decimal}
use Rattle.std.specs.List.{fold, range_with_len}
use Rattle.gic_case.specs.Lists.{Lists}
use Rattle.gic_criteria.specs.declared.criterion.Verdict.{Verdict}
use Rattle.gic_criteria.specs.declared.criterion.Verdict.TheVariants.{Below, Reaches, Undecided, Outside}
use Rattle.gic_report.specs.declared.counts.Counts.{Counts}
use Rattle.gic_report.specs.SharedLines.{Words}

-- no verdict
abbrev pub no_counts : Counts
no_counts = record { below = 0; reaches = 0; undecided = 0; outside = 0 }

-- one verdict more
abbrev pub counted : Counts → Verdict → Counts
counted counts Below = record counts { below = counts.below + 1 }
counted counts Reaches = record counts { reaches = counts.reaches + 1 }
counted counts Undecided = record counts { undecided = counts.undecided + 1 }
counted counts Outside = record counts { outside = counts.outside + 1 }

-- how many of these verdicts are each
abbrev pub counts_of : List Verdict → Counts
counts_of verdicts = fold counted no_counts verdicts

-- how many have been counted
abbrev pub total_of : Counts → ℕ
total_of counts = counts.below + counts.reaches + counts.undecided + counts.outside

-- how many transformers of a case pass a test of their places
abbrev pub transformers_with : Lists → (test : ℕ → Bool) → ℕ
transformers_with case test = count_by test (range_with_len 0 (length case.transformers))

-- each count is a number of 16 bits
pub record AreCounts (counts : Counts) : Type 0 where
  pub below_fits : counts.below < 2 ^ 16
  pub reaches_fits : counts.reaches < 2 ^ 16
  pub undecided_fits : counts.undecided < 2 ^ 16
  pub outside_fits : counts.outside < 2 ^ 16

-- how many there are of each, in words
unfoldable pub counts_words : Counts → Words
counts_words counts =
    codes "below" ∷ decimal counts.below ∷ codes "reaches" ∷ decimal counts.reaches
    ∷ codes "undecided" ∷ decimal counts.undecided ∷ codes "outside" ∷ decimal counts.outside ∷ []
