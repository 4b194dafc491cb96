-- What stands of a case with all rows of its switchings in force.
use Rattle.std.proofs.Common.{◌≡◌, List, Option, ap, ◌∙◌}
use Rattle.gic_case.specs.Lists.{Lists}
use Rattle.gic_model.specs.declared.parts.Switching.{Switching}
use Rattle.gic_model.specs.Network.{Network}
use Rattle.gic_model.specs.Standing.{standing_elements, stands_after}
use Rattle.gic_model.specs.Sums.{Placed}
use Rattle.gic_winding.specs.ElementList.{elements_of}
use Rattle.gic_inputs.specs.Inputs.{rows_in}
use Rattle.gic_stand.specs.Standing.{standing_of}

-- what stands of the elements of a case stands of the case
pub stands_of_case : (case : Lists) (switchings : Option (List Switching)) (elements : Network) (stands : List Placed)
    → elements ≡ elements_of case → stands ≡ standing_elements elements (stands_after (rows_in switchings)) → stands ≡ standing_of case switchings
stands_of_case case switchings elements stands same is = is ∙ ap (λ (n : Network). standing_elements n (stands_after (rows_in switchings))) same
