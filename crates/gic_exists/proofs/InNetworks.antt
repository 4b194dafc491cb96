-- The theorems over a network and a test of its items.
use Rattle.std.proofs.Common.{ℕ, Bool, ℤ}
use Rattle.gic_model.specs.declared.parts.Item.{Item}
use Rattle.gic_model.specs.Network.{Network}
use Rattle.gic_model.specs.Limits.{IsWithinLimits}
use Rattle.gic_model.specs.Standing.{standing_elements}
use Rattle.gic_model.proofs.Ends.{standing_within}
use Rattle.gic_model.specs.Earthing.{AreEarthed}
use Rattle.gic_exists.specs.Exists.{HasSolution, AnyTwoAgree}
use Rattle.gic_exists.proofs.Places.{apart}
use Rattle.gic_exists.proofs.Existence.{solution_found}
use Rattle.gic_exists.proofs.Currents.{agree}

pub exists_in : (network : Network) (stands : Item → Bool) (volts : ℕ → ℤ) → IsWithinLimits network → AreEarthed (standing_elements network stands) → HasSolution (standing_elements network stands) volts
exists_in network stands volts limits earthed =
    solution_found network.nodes (standing_elements network stands) (standing_within network stands limits) (apart (λ p. stands p.1.item) 0 network.list) earthed volts

pub agree_in : (network : Network) (stands : Item → Bool) (volts : ℕ → ℤ) → IsWithinLimits network → AreEarthed (standing_elements network stands) → AnyTwoAgree (standing_elements network stands) volts
agree_in network stands volts limits earthed one other first second =
    agree network.nodes (standing_elements network stands) (standing_within network stands limits) earthed volts one other first second
