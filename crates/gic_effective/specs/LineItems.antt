-- What the theorem says of the lines that elements belong to.
use Rattle.std.specs.Prelude.{All}
use Rattle.gic_case.specs.Lists.{Lists}
use Rattle.gic_induce.specs.LineVolts.{IsLineWithin}
use Rattle.gic_winding.specs.ElementList.{elements_of}

-- a line item among the elements of any lists is a place in their lines
abbrev pub LineItemsAreWithin : Type 0
LineItemsAreWithin = (case : Lists) → All (λ e. IsLineWithin case e.item) (elements_of case).list
