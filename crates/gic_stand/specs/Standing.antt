-- The network of a case that stands, and whether it is earthed and can be solved.
use Rattle.std.specs.Prelude.{ℕ, ◌≡◌, ◌≢◌, ◌<◌, List, [], ◌∷◌, slice_index_or, Option}
use Rattle.gic_base.specs.declared.limits.TheConstants.{MOST_WALK, FULL_WALK}
use Rattle.gic_case.specs.Lists.{Lists, node_names}
use Rattle.gic_model.specs.declared.parts.Switching.{Switching}
use Rattle.gic_model.specs.Sums.{Placed}
use Rattle.gic_model.specs.Earthing.{AreEarthed, IsFirstUnearthed}
use Rattle.gic_model.specs.Bound.{IsEarthedWithin, IsLeastCappedVector}
use Rattle.gic_inputs.specs.Inputs.{rows_in}
use Rattle.gic_winding.specs.InForce.{standing_in}
use Rattle.gic_inputs.specs.declared.inputs.Inputs.{Inputs}

-- the elements of a case that stand with all its switchings in force
abbrev pub standing_of : Lists → Option (List Switching) → List Placed
standing_of case switchings = standing_in case (rows_in switchings)

-- the elements that stand at each step of a run, in order: a run without a storm has one step, with all switchings in force
abbrev pub steps_of : {Q : Type 0} → Inputs Q → List (List Placed)
steps_of inputs = standing_of inputs.case inputs.switchings ∷ []

-- a node of the case by its name, which is the first live one that is not earthed
abbrev pub IsNameOfUnearthed : Lists → List Placed → (name : List ℕ) → Type 0
IsNameOfUnearthed case standing name = (k : ℕ) × (IsFirstUnearthed standing k × (name ≡ slice_index_or (node_names case) k []))

-- each live node is earthed, and the network is earthed within 4096, `MOST_WALK`
pub record IsSolvable (standing : List Placed) : Type 0 where
  pub earthed : AreEarthed standing
  pub within : IsEarthedWithin standing MOST_WALK

-- the first node, in node order, whose entry in the least capped vector is full, 4097; so every bound vector is above 4096 there
pub record IsFirstUnresolved (standing : List Placed) (k : ℕ) : Type 0 where
  pub entries : ℕ → ℕ
  pub least : IsLeastCappedVector standing entries
  pub full : entries k ≡ FULL_WALK
  pub first : (j : ℕ) → j < k → entries j ≢ FULL_WALK

-- a node of the case by its name, which is the first such one of a network in which each live node is earthed
pub record IsNameOfUnresolved (case : Lists) (standing : List Placed) (name : List ℕ) : Type 0 where
  pub earthed : AreEarthed standing
  pub node : ℕ
  pub unresolved : IsFirstUnresolved standing node
  pub named : name ≡ slice_index_or (node_names case) node []
