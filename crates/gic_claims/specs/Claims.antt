-- What holds of the networks of accepted cases, and of any network that has a bound vector.
use Rattle.std.specs.Prelude.{◌≡◌, ℕ, Bool, ℤ, List, Ok}
use Rattle.gic_case.specs.Lists.{Lists}
use Rattle.gic_case_reader.specs.Rules.{case_of}
use Rattle.gic_induce.specs.LineVolts.{volts_of}
use Rattle.gic_model.specs.declared.parts.Item.{Item}
use Rattle.gic_model.specs.declared.parts.Switching.{Switching}
use Rattle.gic_model.specs.Network.{Network}
use Rattle.gic_model.specs.Limits.{IsWithinLimits}
use Rattle.gic_model.specs.Voltages.{number_at}
use Rattle.gic_model.specs.Standing.{standing_elements}
use Rattle.gic_model.specs.Earthing.{AreEarthed}
use Rattle.gic_model.specs.Bound.{IsBoundVector}
use Rattle.gic_exists.specs.Exists.{HasSolution, AnyTwoAgree}
use Rattle.gic_winding.specs.ElementList.{elements_of}
use Rattle.gic_winding.specs.InForce.{standing_in}

-- the voltages of a case's elements in these fields of its zones
abbrev pub volts_in_fields : Lists → List (ℤ × ℤ) → ℕ → ℤ
volts_in_fields case fields = number_at (volts_of case fields (elements_of case).list)

-- every accepted case has a solution in any fields, where the switchings in force leave each live node earthed
abbrev pub AcceptedNetworksAreSolved : Type 0
AcceptedNetworksAreSolved = (bytes : List ℕ) (case : Lists) (rows : List Switching) (fields : List (ℤ × ℤ)) → case_of bytes ≡ Ok case
    → AreEarthed (standing_in case rows) → HasSolution (standing_in case rows) (volts_in_fields case fields)

-- and any two of its solutions agree
abbrev pub AcceptedSolutionsAgree : Type 0
AcceptedSolutionsAgree = (bytes : List ℕ) (case : Lists) (rows : List Switching) (fields : List (ℤ × ℤ)) → case_of bytes ≡ Ok case
    → AreEarthed (standing_in case rows) → AnyTwoAgree (standing_in case rows) (volts_in_fields case fields)

-- where the standing elements have a bound vector, whoever found it, each live node is earthed
abbrev pub BoundNetworksAreEarthed : Type 0
BoundNetworksAreEarthed = (network : Network) (stands : Item → Bool) (v : ℕ → ℕ) →
    let standing = standing_elements network stands in
    IsWithinLimits network → IsBoundVector standing v → AreEarthed standing

-- and so a solution exists for any voltages
abbrev pub BoundNetworksAreSolved : Type 0
BoundNetworksAreSolved = (network : Network) (stands : Item → Bool) (v : ℕ → ℕ) (volts : ℕ → ℤ) →
    let standing = standing_elements network stands in
    IsWithinLimits network → IsBoundVector standing v → HasSolution standing volts
