-- Sizes that sums of voltages give, of which the slack of an enclosure is made.
use Rattle.std.specs.Prelude.{ℕ, ◌*◌, Bool, List, length, ℤ, unsigned_abs}
use Rattle.std.specs.List.{sum_by}
use Rattle.gic_model.specs.declared.parts.Item.{Item}
use Rattle.gic_model.specs.Limits.{IsWithinLimits}
use Rattle.gic_model.specs.Network.{Network}
use Rattle.gic_model.specs.Standing.{standing_elements}
use Rattle.gic_model.specs.Sums.{Placed}
use Rattle.gic_varied.specs.Grounds.{grounds_among}
use Rattle.gic_varied.specs.Lifts.{with_least}
use Rattle.gic_varied.specs.Near.{Sizes, AreSizes}
use Rattle.gic_varied.specs.Ranges.{Ranges}

-- what the voltages of the standing elements add up to, in nanovolts
abbrev pub volt_sum : List Placed → (ℕ → ℤ) → ℕ
volt_sum standing volts = sum_by (λ p. unsigned_abs (volts p.0)) standing

-- no element conducts more than 3000 siemens: three paths of 1000 micro-ohm each
abbrev pub most_siemens : ℕ
most_siemens = 3000

-- sizes by what the voltages of the field and the weights add up to
abbrev pub sizes_of_sums : List Placed → (field weights : ℕ → ℤ) → Sizes
sizes_of_sums standing field weights = record {
  field = most_siemens * volt_sum standing field;
  weights = most_siemens * volt_sum standing weights;
  conductance = most_siemens;
  grounds = length (grounds_among standing);
}

-- they are sizes of each network within the limits whose least grounds are so too
abbrev pub SumsGiveSizes : Type 0
SumsGiveSizes = (network : Network) (stands : Item → Bool) (ranges : Ranges) (field weights : ℕ → ℤ) →
    let standing = standing_elements network stands in
    IsWithinLimits network → IsWithinLimits (with_least ranges network) →
    AreSizes standing ranges field weights (sizes_of_sums standing field weights)
