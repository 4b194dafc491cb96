-- What the theorems say of the definitions.
use Rattle.std.specs.Prelude.{ℕ, ◌≡◌, List}
use Rattle.gic_case.specs.Lists.{Lists}
use Rattle.gic_case.specs.Sound.{IsSound}
use Rattle.gic_model.specs.Network.{Network}
use Rattle.gic_model.specs.Limits.{IsWithinLimits}
use Rattle.gic_review.specs.declared.findings.finding.Finding.{Finding}
use Rattle.gic_review.specs.Parts.{ArePartSizes}
use Rattle.gic_review.specs.PartSizes.{sizes_of}
use Rattle.gic_review.specs.Findings.{AreFindingsOf}

-- the parts of a network have the sizes that are counted, and no others
pub record PartsAreOne : Type 0 where
  pub counted : (network : Network) → IsWithinLimits network → ArePartSizes network (sizes_of network)
  pub no_others : (network : Network) (sizes : List ℕ) → IsWithinLimits network → ArePartSizes network sizes → sizes ≡ sizes_of network

-- two lists of what is found in a sound case are equal
abbrev pub FindingsAreOne : Type 0
FindingsAreOne = (c : Lists) (findings others : List Finding) → IsSound c → AreFindingsOf c findings → AreFindingsOf c others → findings ≡ others
