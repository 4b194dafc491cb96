-- Elements with their places in the list of a network, and sums of whole numbers over them.
use Rattle.std.specs.Prelude.{ℕ}
use Rattle.gic_model.specs.declared.parts.Element.{Element}
pub use Rattle.gic_fixed.specs.Sums.{sum_of}

-- a place in the list of elements, and the element there
abbrev pub Placed : Type 0
Placed = ℕ × Element
