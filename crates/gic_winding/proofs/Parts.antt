-- Each item's part of the element list.
use Rattle.std.proofs.Common.{ℕ, List, length}
use Rattle.gic_case.specs.declared.item.Substation.{Substation}
use Rattle.gic_case.specs.declared.item.Line.{Line}
use Rattle.gic_case.specs.declared.item.Transformer.{Transformer}
use Rattle.gic_case.specs.Lists.{Lists, grid_of}
use Rattle.gic_case.specs.Windings.{windings_of}
use Rattle.gic_model.specs.declared.parts.Element.{Element}
use Rattle.gic_winding.specs.ElementList.{earthing_of, line_of, winding_elements, resistor_of}

abbrev pub earthing_part : ℕ × Substation → List Element
earthing_part p = earthing_of p.0 p.1.ground

abbrev pub line_part : Lists → ℕ × Line → List Element
line_part c p = line_of (length c.substations) p.0 p.1

abbrev pub winding_part : Lists → ℕ × (ℕ × Transformer) → List Element
winding_part c p = winding_elements (length c.substations) p.0 p.1.0 (windings_of p.1.1)

abbrev pub resistor_part : Lists → ℕ × (ℕ × Transformer) → List Element
resistor_part c p = resistor_of p.0 p.1.0 (grid_of c.buses p.1.1) p.1.1.neutral
