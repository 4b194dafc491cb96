-- What the theorem says of made cases.
use Rattle.std.specs.Prelude.{ℕ, ◌≡◌, ◌≤◌, ◌<◌, ◌-◌, ◌*◌, ◌^◌, true, List, length}
use Rattle.gic_case.specs.Lists.{Lists}
use Rattle.gic_case.specs.Sound.{IsSound}
use Rattle.gic_model.specs.Standing.{standing_elements}
use Rattle.gic_model.specs.Sums.{Placed}
use Rattle.gic_model.specs.Earthing.{IsEarthed}
use Rattle.gic_model.specs.Bound.{IsEarthedWithin}
use Rattle.gic_winding.specs.ElementList.{elements_of}
use Rattle.gic_make.specs.declared.making.TheConstants.{LEAST_SIZE, MOST_SIZE}
use Rattle.gic_make.specs.MadeCase.{made_case}

-- what holds of the case of every seed and every number of sites
abbrev pub OfMadeCases : (ℕ → Lists → Type 0) → Type 0
OfMadeCases P = (seed size : ℕ) → seed < 2 ^ 32 → LEAST_SIZE ≤ size → size ≤ MOST_SIZE → P size (made_case seed size)

-- the elements of a case, all standing
abbrev pub all_standing : Lists → List Placed
all_standing case = standing_elements (elements_of case) (λ item. true)

-- every made case keeps the rules of the reader
abbrev pub MadeCasesAreSound : Type 0
MadeCasesAreSound = OfMadeCases (λ size case. IsSound case)

-- it has a substation, a bus and a transformer a site, and a line a site but for the first
pub record HasRows (size : ℕ) (case : Lists) : Type 0 where
  pub substations : length case.substations ≡ size
  pub buses : length case.buses ≡ size
  pub lines : length case.lines ≡ size - 1
  pub transformers : length case.transformers ≡ size

abbrev pub MadeCasesHaveTheirRows : Type 0
MadeCasesHaveTheirRows = OfMadeCases HasRows

-- it has two nodes a site, and three elements a site but for the line of the first
pub record HasSize (size : ℕ) (case : Lists) : Type 0 where
  pub nodes : (elements_of case).nodes ≡ 2 * size
  pub elements : length (elements_of case).list ≡ 3 * size - 1

abbrev pub MadeCasesHaveTheirSize : Type 0
MadeCasesHaveTheirSize = OfMadeCases HasSize

-- each of its nodes is live and earthed
abbrev pub MadeNodesAreEarthed : Type 0
MadeNodesAreEarthed = OfMadeCases (λ size case. (k : ℕ) → k < (elements_of case).nodes → IsEarthed (all_standing case) k)

-- and it is earthed within 448
abbrev pub MadeCasesAreNearEarth : Type 0
MadeCasesAreNearEarth = OfMadeCases (λ size case. IsEarthedWithin (all_standing case) 448)
