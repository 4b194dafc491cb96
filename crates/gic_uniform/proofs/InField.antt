-- What holds of the elements that stand and of their voltages, of a case and one field.
use Rattle.std.proofs.Common.{◌≡◌, ℕ, List, Option, ℤ, ap, subst}
use Rattle.gic_case.specs.Lists.{Lists}
use Rattle.gic_induce.specs.LineVolts.{volts_of}
use Rattle.gic_model.specs.declared.parts.Switching.{Switching}
use Rattle.gic_model.specs.Sums.{Placed}
use Rattle.gic_model.specs.Voltages.{number_at}
use Rattle.gic_winding.specs.ElementList.{elements_of}
use Rattle.gic_stand.specs.Standing.{standing_of}
use Rattle.gic_uniform.specs.Uniform.{uniform_field, uniform_volts}

-- it holds of the voltages of that field
pub in_volts : (case : Lists) (north east : ℤ) (volts : List ℤ) (Holds : (ℕ → ℤ) → Type 0)
    → volts ≡ volts_of case (uniform_field case north east) (elements_of case).list → Holds (number_at volts) → Holds (uniform_volts case north east)
in_volts case north east volts Holds is holds = subst Holds (ap number_at is) holds

-- and of the elements with all rows of the switchings in force
pub in_field : (case : Lists) (switchings : Option (List Switching)) (north east : ℤ) (stands : List Placed) (volts : List ℤ) (Holds : List Placed → (ℕ → ℤ) → Type 0)
    → stands ≡ standing_of case switchings → volts ≡ volts_of case (uniform_field case north east) (elements_of case).list
    → Holds stands (number_at volts) → Holds (standing_of case switchings) (uniform_volts case north east)
in_field case switchings north east stands volts Holds same is holds =
    subst (λ (s : List Placed). Holds s (uniform_volts case north east)) same (in_volts case north east volts (Holds stands) is holds)
