-- What a mode needs of the network at each step of a run.
use Rattle.std.specs.Prelude.{◌≡◌, ◌<◌, ℕ, suc, List, [], length, slice_index_or, ⊤}
use Rattle.gic_case.specs.Lists.{Lists}
use Rattle.gic_model.specs.Sums.{Placed}
use Rattle.gic_stand.specs.Standing.{IsSolvable, IsNameOfUnearthed, IsNameOfUnresolved}
use Rattle.gic_model.specs.Earthing.{AreEarthed}
use Rattle.gic_stand.specs.declared.fault.NetworkRefusal.{NetworkRefusal}
use Rattle.gic_stand.specs.declared.fault.NetworkRefusal.TheVariants.{Unearthed, Unresolved}

-- no network, or that each live node is earthed, or that it can be solved as well
pub data Need : Type 0 where
  Nothing : Need
  Earthed : Need
  Solved : Need

-- the elements that stand at the step of this place, from 0; the number by which the step is told is one more
abbrev pub standing_at : List (List Placed) → (place : ℕ) → List Placed
standing_at steps place = slice_index_or steps place []

-- standing elements meet the need
abbrev pub Meets : Need → List Placed → Type 0
Meets Nothing standing = ⊤
Meets Earthed standing = AreEarthed standing
Meets Solved standing = IsSolvable standing

-- the elements that stand at the step of this number don't meet the need, for this reason
abbrev pub Fails : Need → Lists → (number : ℕ) → List Placed → NetworkRefusal → Type 0
Fails Earthed case number standing (Unearthed step node) = (step ≡ number) × IsNameOfUnearthed case standing node
Fails Solved case number standing (Unearthed step node) = (step ≡ number) × IsNameOfUnearthed case standing node
Fails Solved case number standing (Unresolved step node) = (step ≡ number) × IsNameOfUnresolved case standing node
Fails _ _ _ _ _ = ⊥

-- the need is met at each step
abbrev pub IsMet : Need → List (List Placed) → Type 0
IsMet need steps = (place : ℕ) → place < length steps → Meets need (standing_at steps place)

-- the first step at which the need isn't met, and why
pub record IsUnmet (need : Need) (case : Lists) (steps : List (List Placed)) (refusal : NetworkRefusal) : Type 0 where
  pub place : ℕ
  pub within : place < length steps
  pub met_before : (earlier : ℕ) → earlier < place → Meets need (standing_at steps earlier)
  pub fails : Fails need case (suc place) (standing_at steps place) refusal
