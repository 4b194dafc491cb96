-- What a report of the mode has to say.
use Rattle.std.specs.Prelude.{◌≡◌, ℕ, ◌+◌, ◌-◌, ◌*◌, ◌≤◌, Bool, not, ◌&&◌, nat_lt, nat_le, None, List, length, slice_index, All, Contains, ℤ, pos, unsigned_abs}
use Rattle.gic_case.specs.Lists.{Lists}
use Rattle.gic_model.specs.Bound.{IsLeastCappedVector}
use Rattle.gic_model.specs.Solution.{Solution, IsSolution}
use Rattle.gic_model.specs.Sums.{Placed}
use Rattle.gic_winding.specs.ElementList.{elements_of}
use Rattle.gic_effective.specs.Weighted.{effective_numerator, effective_denominator}
use Rattle.gic_criteria.specs.declared.event.Event.TheVariants.{Benchmark}
use Rattle.gic_criteria.specs.Event.{threshold_of, field_of}
use Rattle.gic_report.specs.VerdictText.{is_judged}
use Rattle.gic_stand.specs.Standing.{standing_of}
use Rattle.gic_uniform.specs.Uniform.{uniform_volts}
use Rattle.gic_make.specs.MadeCase.{made_case}
use Rattle.gic_report.specs.declared.counts.Counts.{Counts}
use Rattle.gic_make.specs.declared.solving.TheConstants.{WIDTH}
use Rattle.gic_make.specs.declared.text.Summary.{Summary}
use Rattle.gic_report.specs.Counts.{total_of, transformers_with}
use Rattle.gic_make.specs.MakeText.{make_text}

-- the threshold of the benchmark event in mA per phase, 75000
abbrev pub benchmark_threshold : ℕ
benchmark_threshold = threshold_of Benchmark

-- one width under it, 74900
abbrev pub surely_below : ℕ
surely_below = benchmark_threshold - WIDTH

-- one width above it, 75100
abbrev pub surely_reached : ℕ
surely_reached = benchmark_threshold + WIDTH

-- the voltages of a case's elements in the field of 8000 mV/km to the north
abbrev pub benchmark_volts : Lists → ℕ → ℤ
benchmark_volts case = uniform_volts case (field_of Benchmark) (pos 0)

-- the greatest entry, over this many nodes, of the least capped vector
pub record IsWalk (standing : List Placed) (nodes walk : ℕ) : Type 0 where
  pub entries : List ℕ
  pub an_entry_each : length entries ≡ nodes
  pub least : IsLeastCappedVector standing (slice_index entries)
  pub none_above : All (λ entry. entry ≤ walk) entries
  pub reached : Contains entries walk

-- it is assessed, and its absolute effective current in a solution is under this many mA per phase
abbrev pub is_judged_under : Lists → Solution → (limit t : ℕ) → Bool
is_judged_under case s limit t = is_judged case t && nat_lt (unsigned_abs (effective_numerator case s t)) (limit * effective_denominator case t s)

-- it is assessed, and that current is this many mA per phase or more
abbrev pub is_judged_at_least : Lists → Solution → (limit t : ℕ) → Bool
is_judged_at_least case s limit t = is_judged case t && nat_le (limit * effective_denominator case t s) (unsigned_abs (effective_numerator case s t))

-- it is assessed, and that current is within one width of the threshold: 74900 mA per phase or more, and under 75100
abbrev pub is_near : Lists → Solution → (t : ℕ) → Bool
is_near case s t = is_judged_at_least case s surely_below t && is_judged_under case s surely_reached t

-- the counts tell of a solution how many transformers are on either side of the threshold, but for those within one width of it
pub record TellOf (case : Lists) (s : Solution) (counts : Counts) : Type 0 where
  pub below_most : counts.below ≤ transformers_with case (is_judged_under case s benchmark_threshold)
  pub below_least : transformers_with case (is_judged_under case s surely_below) ≤ counts.below
  pub reaches_most : counts.reaches ≤ transformers_with case (is_judged_at_least case s benchmark_threshold)
  pub reaches_least : transformers_with case (is_judged_at_least case s surely_reached) ≤ counts.reaches
  pub undecided_most : counts.undecided ≤ transformers_with case (is_near case s)

-- each transformer is counted once, those that aren't assessed as outside, and the others as every solution has them
pub record AreRightCounts (case : Lists) (standing : List Placed) (volts : ℕ → ℤ) (counts : Counts) : Type 0 where
  pub all : total_of counts ≡ length case.transformers
  pub outside : counts.outside ≡ transformers_with case (λ t. not (is_judged case t))
  pub of_solutions : (s : Solution) → IsSolution standing volts s → TellOf case s counts

-- the numbers of nodes and elements are the case's, the walk is the network's, and the counts are right
pub record IsRightSummary (case : Lists) (standing : List Placed) (volts : ℕ → ℤ) (shown : Summary) : Type 0 where
  pub nodes : shown.nodes ≡ (elements_of case).nodes
  pub elements : shown.elements ≡ length (elements_of case).list
  pub walk : IsWalk standing (elements_of case).nodes shown.walk
  pub counts : AreRightCounts case standing volts shown.counts

-- the text is that of a right summary of the made case, all of whose elements stand
pub record IsRightMake (seed size : ℕ) (text : List ℕ) : Type 0 where
  pub shown : Summary
  pub answer : IsRightSummary (made_case seed size) (standing_of (made_case seed size) None) (benchmark_volts (made_case seed size)) shown
  pub text_is : text ≡ make_text seed size shown
