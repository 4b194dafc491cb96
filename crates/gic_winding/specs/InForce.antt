-- What stands of a case.
use Rattle.std.specs.Prelude.{List}
use Rattle.gic_case.specs.Lists.{Lists}
use Rattle.gic_model.specs.declared.parts.Switching.{Switching}
use Rattle.gic_model.specs.Standing.{standing_elements, stands_after}
use Rattle.gic_model.specs.Sums.{Placed}
use Rattle.gic_winding.specs.ElementList.{elements_of}

-- the elements of a case that stand with these switchings in force
abbrev pub standing_in : Lists → List Switching → List Placed
standing_in case rows = standing_elements (elements_of case) (stands_after rows)
