-- The network of a case with its grounds at the ends of their ranges.
use Rattle.std.specs.Prelude.{ℕ, List}
use Rattle.gic_case.specs.Lists.{Lists}
use Rattle.gic_model.specs.declared.parts.Switching.{Switching}
use Rattle.gic_model.specs.Network.{Network}
use Rattle.gic_model.specs.Standing.{standing_elements, stands_after}
use Rattle.gic_model.specs.Sums.{Placed}
use Rattle.gic_varied.specs.Grounds.{with_grounds}
use Rattle.gic_varied.specs.Lifts.{with_least, with_most}
use Rattle.gic_varied.specs.Ranges.{Range}
use Rattle.gic_winding.specs.ElementList.{elements_of}
use Rattle.gic_grounds.specs.Tolerances.{case_ranges}
use Rattle.gic_grounds.specs.declared.extreme.Extreme.{Extreme}
use Rattle.gic_grounds.specs.declared.extreme.Extreme.TheVariants.{Least, Most}

-- the end of a range
abbrev pub extreme_of : Extreme → Range → ℕ
extreme_of Least range = range.least
extreme_of Most range = range.most

-- the network of a case with each ground at this end of its range
abbrev pub extreme_network : Extreme → Lists → (percent : ℕ) → Network
extreme_network extreme case percent = with_grounds (λ e. extreme_of extreme (case_ranges case percent e)) (elements_of case)

-- with each at its least resistance, and with each at its greatest
abbrev pub least_network : Lists → (percent : ℕ) → Network
least_network case percent = with_least (case_ranges case percent) (elements_of case)

abbrev pub most_network : Lists → (percent : ℕ) → Network
most_network case percent = with_most (case_ranges case percent) (elements_of case)

-- what stands of each with these switchings in force
abbrev pub least_standing : Lists → (percent : ℕ) → List Switching → List Placed
least_standing case percent rows = standing_elements (least_network case percent) (stands_after rows)

abbrev pub most_standing : Lists → (percent : ℕ) → List Switching → List Placed
most_standing case percent rows = standing_elements (most_network case percent) (stands_after rows)
