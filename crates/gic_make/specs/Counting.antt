-- The verdicts that are counted. For the contracts of this crate.
use Rattle.std.specs.Prelude.{ℕ, List, length, map}
use Rattle.std.specs.List.{range_with_len}
use Rattle.gic_case.specs.Lists.{Lists}
use Rattle.gic_report.specs.VerdictText.{verdict_at}
use Rattle.gic_criteria.specs.declared.criterion.Verdict.{Verdict}
use Rattle.gic_view.specs.View.{View}

-- the verdicts on the first `count` transformers of a case, and on all of them
abbrev pub first_verdicts : Lists → (threshold : ℕ) → View → (count : ℕ) → List Verdict
first_verdicts case threshold view count = map (verdict_at case threshold view) (range_with_len 0 count)

abbrev pub verdicts_of : Lists → (threshold : ℕ) → View → List Verdict
verdicts_of case threshold view = first_verdicts case threshold view (length case.transformers)
