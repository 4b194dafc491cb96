-- That the text of the mode determines what it shows.
use Rattle.std.specs.Prelude.{◌≡◌, ℕ, ◌<◌, ◌^◌}
use Rattle.gic_report.specs.Counts.{AreCounts}
use Rattle.gic_make.specs.declared.text.Summary.{Summary}
use Rattle.gic_make.specs.MakeText.{make_text}

-- each number of a report is one of its type
pub record AreShown (seed size : ℕ) (shown : Summary) : Type 0 where
  pub seed_fits : seed < 2 ^ 32
  pub size_fits : size < 2 ^ 16
  pub nodes_fit : shown.nodes < 2 ^ 16
  pub elements_fit : shown.elements < 2 ^ 16
  pub walk_fits : shown.walk < 2 ^ 16
  pub counts_fit : AreCounts shown.counts

-- all that is printed is equal
pub record ShowsSame (seed size : ℕ) (shown : Summary) (seed' size' : ℕ) (shown' : Summary) : Type 0 where
  pub same_seed : seed ≡ seed'
  pub same_size : size ≡ size'
  pub same_summary : shown ≡ shown'

-- equal texts show the same
abbrev pub TextDeterminesMake : Type 0
TextDeterminesMake = (seed size : ℕ) (shown : Summary) (seed' size' : ℕ) (shown' : Summary) →
    AreShown seed size shown → AreShown seed' size' shown' →
    make_text seed size shown ≡ make_text seed' size' shown' → ShowsSame seed size shown seed' size' shown'
