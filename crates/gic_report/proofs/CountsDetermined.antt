-- The words of counts make a line, and determine them.
use Rattle.std.proofs.Common.{◌≡◌, ◌∙◌, ℕ, ◌<◌, ◌^◌, refl, ap, arith}
use Rattle.std.specs.Prelude.{codes, decimal}
use Rattle.std.specs.List.{AllByRecursion}
use Rattle.gic_text.specs.Words.{IsWord, IsLine}
use Rattle.gic_text.proofs.Words.{word_from_test}
use Rattle.gic_report.specs.declared.counts.Counts.{Counts}
use Rattle.gic_report.specs.Counts.{counts_words, AreCounts}
use Rattle.gic_report.proofs.WordsDetermined.{same_small, word_at, word_of_natural}

count_is_word : (n : ℕ) → n < 2 ^ 16 → IsWord (decimal n)
count_is_word n h = word_of_natural n (omega (arith, h))

pub counts_are_words : (counts : Counts) → AreCounts counts → AllByRecursion IsWord (counts_words counts)
unfolding counts_words
counts_are_words counts fit = (
  word_from_test (codes "below") refl,
  (
    count_is_word counts.below fit.below_fits,
    (
      word_from_test (codes "reaches") refl,
      (
        count_is_word counts.reaches fit.reaches_fits,
        (
          word_from_test (codes "undecided") refl,
          (count_is_word counts.undecided fit.undecided_fits, (word_from_test (codes "outside") refl, (count_is_word counts.outside fit.outside_fits, tt))),
        ),
      ),
    ),
  ),
)

pub counts_are_line : (counts : Counts) → AreCounts counts → IsLine (counts_words counts)
unfolding counts_words
counts_are_line counts fit = counts_are_words counts fit

abbrev counts_with : ℕ → ℕ → ℕ → ℕ → Counts
counts_with a b c d = record { below = a; reaches = b; undecided = c; outside = d }

pub same_counts : (counts other : Counts) → AreCounts counts → AreCounts other → counts_words counts ≡ counts_words other → counts ≡ other
unfolding counts_words
same_counts counts other fit fit' e =
    let below = same_small counts.below other.below fit.below_fits fit'.below_fits (ap (λ ws. word_at ws 1) e) in
    let reaches = same_small counts.reaches other.reaches fit.reaches_fits fit'.reaches_fits (ap (λ ws. word_at ws 3) e) in
    let undecided = same_small counts.undecided other.undecided fit.undecided_fits fit'.undecided_fits (ap (λ ws. word_at ws 5) e) in
    let outside = same_small counts.outside other.outside fit.outside_fits fit'.outside_fits (ap (λ ws. word_at ws 7) e) in
    ap (λ a. counts_with a counts.reaches counts.undecided counts.outside) below
    ∙ ap (λ b. counts_with other.below b counts.undecided counts.outside) reaches
    ∙ ap (λ c. counts_with other.below other.reaches c counts.outside) undecided
    ∙ ap (λ d. counts_with other.below other.reaches other.undecided d) outside
