-- Nets in which references and their lifts are solved, and what the solves leave.
use Rattle.std.specs.Prelude.{ℕ, ◌≡◌, ◌<◌, ◌^◌, Bool, List, length, map, slice_index, ℤ}
use Rattle.gic_base.specs.declared.limits.TheConstants.{MOST_WALK}
use Rattle.gic_bound.specs.Entries.{IsBoundWithin}
use Rattle.gic_case.specs.Lists.{Lists}
use Rattle.gic_enclose.specs.Certain.{AreCertain, AreTight}
use Rattle.gic_enclose.specs.Ends.{potential_ends}
use Rattle.gic_fixed.specs.Ends.{Ends}
use Rattle.gic_model.specs.declared.parts.Item.{Item}
use Rattle.gic_model.specs.Earthing.{AreEarthed}
use Rattle.gic_model.specs.Guess.{most_guess}
use Rattle.gic_model.specs.Network.{Network}
use Rattle.gic_model.specs.Standing.{standing_elements}
use Rattle.gic_net.specs.Net.{NetView, standing}
use Rattle.gic_uniform.specs.declared.solve_workspace.SolveWorkspace.{SolveWorkspace}
use Rattle.gic_uniform.specs.Ready.{IsSolveWorkspaceFor}
use Rattle.gic_varied.specs.Certified.{AreLiftVolts, in_units}
use Rattle.gic_varied.specs.Corners.{Corner}
use Rattle.gic_varied.specs.Ranges.{Ranges}
use Rattle.gic_grounds.specs.declared.side.Side.{Side}
use Rattle.gic_grounds.specs.declared.side.Side.TheVariants.{Lowering, Raising}
use Rattle.gic_grounds.specs.declared.nets.GroundNets.{GroundNets}
use Rattle.gic_grounds.specs.declared.reference.Reference.{Reference}
use Rattle.gic_grounds.specs.declared.varied.VariedPotentials.{VariedPotentials}
use Rattle.gic_grounds.specs.Lifting.{height_at}
use Rattle.gic_grounds.specs.Nets.{AreExtremesOf, AreSomeExtremes}
use Rattle.gic_grounds.specs.NodeEnds.{AreAllWithin}
use Rattle.gic_grounds.specs.OwnCurrent.{IsOwnCurrent}
use Rattle.gic_grounds.specs.Varying.{most_adjoint, AreVariedOf, AreVariedWithin}

-- the net has these many nodes and elements and is earthed, there is space to solve it, and the workspace has a bound vector of it
pub record CanSolve (nodes count : ℕ) (net : NetView) (solving : SolveWorkspace) : Type 0 where
  pub node_count : net.network.nodes ≡ nodes
  pub element_count : length net.network.list ≡ count
  pub earthed : AreEarthed (standing net)
  pub has_space : IsSolveWorkspaceFor nodes solving
  pub bound : IsBoundWithin (standing net) MOST_WALK (slice_index solving.vector)

-- so it is of the nets with the least and with the greatest grounds of some network
pub record CanSolveBoth (nodes count : ℕ) (nets : GroundNets) (solving : SolveWorkspace) : Type 0 where
  pub extremes : AreSomeExtremes nets
  pub least : CanSolve nodes count nets.least solving
  pub most : CanSolve nodes count nets.most solving

-- a net that could be solved still can
abbrev pub StillSolves : (nodes count : ℕ) → (before after : SolveWorkspace) → Type 0
StillSolves nodes count before after = (net : NetView) → CanSolve nodes count net before → CanSolve nodes count net after

-- there is space for so many nodes and transformers
pub record HasReferenceSpace (nodes transformers : ℕ) (reference : Reference) : Type 0 where
  pub own_count : length reference.own ≡ transformers
  pub varied_count : AreVariedOf nodes reference.potentials

-- the potentials of a reference that is solved in this net, in grains, are tight and hold those of every solution for these voltages, and so do the transformers' currents
pub record IsSolvedReference (case : Lists) (net : NetView) (volts : ℕ → ℤ) (reference : Reference) : Type 0 where
  pub certain : AreCertain (standing net) volts reference.potentials.reference
  pub tight : AreTight reference.potentials.reference
  pub within : AreAllWithin most_guess reference.potentials.reference
  pub own : (t : ℕ) → t < length reference.own →
      IsOwnCurrent case (standing net) volts reference.potentials.reference t (potential_ends reference.own t)
  pub own_within : AreAllWithin (2 ^ 80) reference.own

-- the intervals are those of a lift over the potentials of a reference at this corner: its voltages are those at the grounds, in the net with the grounds at their greatest
pub record AreLifted (nets : GroundNets) (corner : Corner) (side : Side) (reference lift : List Ends) : Type 0 where
  pub volts : ℕ → ℤ
  pub grains : List Ends
  pub lifts : (network : Network) (stands : Item → Bool) (ranges : Ranges) → AreExtremesOf network stands ranges nets →
      AreLiftVolts (standing_elements network stands) ranges (height_at corner side reference) volts
  pub certain : AreCertain (standing nets.most) volts grains
  pub tight : AreTight grains
  pub rounded : lift ≡ map (in_units 1) grains

-- so are both
pub record AreBothLifted (nets : GroundNets) (corner : Corner) (potentials : VariedPotentials) : Type 0 where
  pub lowered : AreLifted nets corner Lowering potentials.reference potentials.lowering
  pub raised : AreLifted nets corner Raising potentials.reference potentials.raising
  pub within : AreVariedWithin potentials

-- there is space for the voltages and the adjoint potentials of a network of so many nodes and elements
pub record HasAdjointSpace (nodes count : ℕ) (volts : List ℤ) (adjoint : List Ends) : Type 0 where
  pub volt_count : length volts ≡ count
  pub adjoint_count : length adjoint ≡ nodes

-- a unit of potentials is at least a nanovolt, and less than 2^7
pub record IsSmallUnit (unit : ℕ) : Type 0 where
  pub some : 0 < unit
  pub small : unit < 2 ^ 7

-- there is all that the stray powers of the grounds are made of
pub record HasStrayParts (nets : GroundNets) (adjoint : List Ends) (potentials : VariedPotentials) : Type 0 where
  pub same_count : length nets.most.network.list ≡ length nets.least.network.list
  pub adjoint_count : length adjoint ≡ nets.least.network.nodes
  pub adjoint_within : AreAllWithin most_adjoint adjoint
  pub varied_count : AreVariedOf nets.least.network.nodes potentials
  pub varied_within : AreVariedWithin potentials

-- and all that the interval of a transformer is made of
pub record CanEnclose (nets : GroundNets) (adjoint : List Ends) (reference : Reference) (transformer : ℕ) : Type 0 where
  pub strays : HasStrayParts nets adjoint reference.potentials
  pub has_own : transformer < length reference.own
  pub own_within : AreAllWithin (2 ^ 80) reference.own
