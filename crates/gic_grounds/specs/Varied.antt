-- What a study of varied grounds works in, and what it has at each stage.
use Rattle.std.specs.Prelude.{ℕ, ◌≡◌, ◌<◌, ◌^◌, Bool, List, [], length, map, ℤ}
use Rattle.gic_case.specs.Lists.{Lists}
use Rattle.gic_enclose.specs.Certain.{AreCertain, AreTight}
use Rattle.gic_enclose.specs.Ends.{potential_ends}
use Rattle.gic_fixed.specs.Ends.{Ends}
use Rattle.gic_model.specs.declared.parts.Item.{Item}
use Rattle.gic_model.specs.Limits.{AreVolts}
use Rattle.gic_model.specs.Standing.{standing_elements}
use Rattle.gic_net.specs.Net.{NetView, standing}
use Rattle.gic_stand.specs.Standing.{IsSolvable}
use Rattle.gic_uniform.specs.Ready.{IsSolveWorkspaceFor}
use Rattle.gic_varied.specs.Certified.{in_units}
use Rattle.gic_varied.specs.Corners.{Corner, all_least}
use Rattle.gic_varied.specs.Grounds.{HaveNoGroundVolts}
use Rattle.gic_varied.specs.Reciprocal.{weights_from}
use Rattle.gic_winding.specs.ElementList.{elements_of}
use Rattle.gic_winding.specs.Weights.{transformer_at, weighted_windings}
use Rattle.gic_grounds.specs.declared.at_corner.CornerWorkspace.{CornerWorkspace}
use Rattle.gic_grounds.specs.declared.direction.Direction.{Direction}
use Rattle.gic_grounds.specs.declared.direction.Direction.TheVariants.{North, East}
use Rattle.gic_grounds.specs.declared.nets.GroundNets.{GroundNets}
use Rattle.gic_grounds.specs.declared.reference.Reference.{Reference}
use Rattle.gic_grounds.specs.declared.unit.TheConstants.{ADJOINT_UNIT}
use Rattle.gic_grounds.specs.declared.workspace.VariedWorkspace.{VariedWorkspace}
use Rattle.gic_grounds.specs.Corner.{IsCornerNet, IsSomeCornerNet}
use Rattle.gic_grounds.specs.Lifted.{CanSolveBoth, HasReferenceSpace, HasAdjointSpace, IsSmallUnit, AreBothLifted}
use Rattle.gic_grounds.specs.NodeEnds.{AreAllWithin}
use Rattle.gic_grounds.specs.OwnCurrent.{IsOwnCurrent}
use Rattle.gic_grounds.specs.Scale.{weight_times}
use Rattle.gic_grounds.specs.Tolerated.{AreNetsFor}
use Rattle.gic_grounds.specs.Unit.{IsLeastUnit}
use Rattle.gic_grounds.specs.Varying.{most_adjoint, AreVariedWithin}

-- a net at some corner of the ranges, and space for the marks of a corner, for a reference there and for adjoint potentials
pub record HasCornerSpace (nodes transformers : ℕ) (nets : GroundNets) (at_corner : CornerWorkspace) : Type 0 where
  pub some_corner : IsSomeCornerNet nets at_corner.net
  pub mark_count : length at_corner.corner ≡ nodes
  pub reference_space : HasReferenceSpace nodes transformers at_corner.reference
  pub adjoint_count : length at_corner.adjoint ≡ nodes

-- it was made with this net, for so many nodes and transformers
pub record IsNewCornerWorkspace (net : NetView) (nodes transformers : ℕ) (at_corner : CornerWorkspace) : Type 0 where
  pub same_net : at_corner.net ≡ net
  pub mark_count : length at_corner.corner ≡ nodes
  pub reference_space : HasReferenceSpace nodes transformers at_corner.reference
  pub adjoint_count : length at_corner.adjoint ≡ nodes

-- the workspace has the case's elements and nets, and space for its nodes and transformers; its own corner is the one with all grounds at their least
pub record IsVariedWorkspaceFor (case : Lists) (workspace : VariedWorkspace) : Type 0 where
  pub elements : workspace.elements ≡ elements_of case
  pub nets : AreNetsFor case workspace.nets
  pub solving : IsSolveWorkspaceFor (elements_of case).nodes workspace.solving
  pub adjoint_space : HasAdjointSpace (elements_of case).nodes (length (elements_of case).list) workspace.volts workspace.adjoint
  pub north_space : HasReferenceSpace (elements_of case).nodes (length case.transformers) workspace.north
  pub east_space : HasReferenceSpace (elements_of case).nodes (length case.transformers) workspace.east
  pub least_corner : workspace.all_least ≡ []
  pub corner_space : HasCornerSpace (elements_of case).nodes (length case.transformers) workspace.nets workspace.at_corner

-- the network with its grounds at their greatest can be solved, and the workspace has a bound vector of it and of that with the least
pub record IsReadyToVary (case : Lists) (workspace : VariedWorkspace) : Type 0 where
  pub has_space : IsVariedWorkspaceFor case workspace
  pub solvable : IsSolvable (standing workspace.nets.most)
  pub can_solve : CanSolveBoth (elements_of case).nodes (length (elements_of case).list) workspace.nets workspace.solving

-- no ground of the case has a voltage, whatever stands
abbrev pub HasNoGroundVolts : Lists → (ℕ → ℤ) → Type 0
HasNoGroundVolts case volts = (stands : Item → Bool) → HaveNoGroundVolts (standing_elements (elements_of case) stands) volts

-- the reference in units of so many nanovolts, for these voltages, is made of these intervals in grains, which are tight and hold every solution of this net; its lifts are made as for a reference at this corner
pub record IsReferredTo (case : Lists) (nets : GroundNets) (corner : Corner) (net : NetView) (volts : ℕ → ℤ) (unit : ℕ) (grains : List Ends) (reference : Reference) : Type 0 where
  pub limit : AreVolts volts
  pub no_ground : HasNoGroundVolts case volts
  pub certain : AreCertain (standing net) volts grains
  pub tight : AreTight grains
  pub rounded : reference.potentials.reference ≡ map (in_units unit) grains
  pub own : (t : ℕ) → t < length reference.own → IsOwnCurrent case (standing net) volts grains t (potential_ends reference.own t)
  pub lifted : AreBothLifted nets corner reference.potentials

-- so are those in the fields to the north and to the east with all grounds at their least, in the least unit that serves both
pub record AreReferred (case : Lists) (north east : ℕ → ℤ) (workspace : VariedWorkspace) : Type 0 where
  pub north_grains : List Ends
  pub east_grains : List Ends
  pub in_north : IsReferredTo case workspace.nets all_least workspace.nets.least north workspace.unit north_grains workspace.north
  pub in_east : IsReferredTo case workspace.nets all_least workspace.nets.least east workspace.unit east_grains workspace.east
  pub least_unit : IsLeastUnit north_grains east_grains workspace.unit

-- there is a voltage for each element of the case in both fields
pub record AreFieldVolts (case : Lists) (north east : List ℤ) : Type 0 where
  pub north_count : length north ≡ length (elements_of case).list
  pub east_count : length east ≡ length (elements_of case).list

-- the potentials of the reference in the field of this direction
abbrev pub reference_to : Direction → VariedWorkspace → List Ends
reference_to North workspace = workspace.north.potentials.reference
reference_to East workspace = workspace.east.potentials.reference

-- there are as many marks of a corner as nodes in both references and in the adjoint potentials
pub record AreOfOneCount (workspace : VariedWorkspace) : Type 0 where
  pub mark_count : length workspace.at_corner.corner ≡ length workspace.adjoint
  pub north_count : length workspace.north.potentials.reference ≡ length workspace.adjoint
  pub east_count : length workspace.east.potentials.reference ≡ length workspace.adjoint

-- the net is at this corner, and the reference there is made of intervals in grains, in the least unit that serves them
pub record IsReferredAtCorner (case : Lists) (nets : GroundNets) (corner : Corner) (volts : ℕ → ℤ) (unit : ℕ) (at_corner : CornerWorkspace) : Type 0 where
  pub grains : List Ends
  pub net_there : IsCornerNet nets corner at_corner.net
  pub refers : IsReferredTo case nets corner at_corner.net volts unit grains at_corner.reference
  pub least_unit : IsLeastUnit grains grains unit

-- there is a reference at a corner, from which an interval is made
pub record HasReferenceAtCorner (unit : ℕ) (at_corner : CornerWorkspace) : Type 0 where
  pub small_unit : IsSmallUnit unit
  pub varied_within : AreVariedWithin at_corner.reference.potentials
  pub own_within : AreAllWithin (2 ^ 80) at_corner.reference.own

-- there are references from which rows are made
pub record HasReferences (workspace : VariedWorkspace) : Type 0 where
  pub small_unit : IsSmallUnit workspace.unit
  pub north_within : AreVariedWithin workspace.north.potentials
  pub east_within : AreVariedWithin workspace.east.potentials
  pub own_north : AreAllWithin (2 ^ 80) workspace.north.own
  pub own_east : AreAllWithin (2 ^ 80) workspace.east.own

-- the adjoint potentials are those of a transformer for its weights, in this net, where the unit of potentials is so many nanovolts
pub record AreAdjoined (case : Lists) (net : NetView) (transformer unit : ℕ) (adjoint : List Ends) : Type 0 where
  pub weights : ℕ → ℤ
  pub grains : List Ends
  pub by_weights : (place : ℕ) → weights place ≡
      weights_from (weight_times (transformer_at case transformer).high_volts unit) (weighted_windings case transformer) place
  pub no_ground : HasNoGroundVolts case weights
  pub certain : AreCertain (standing net) weights grains
  pub tight : AreTight grains
  pub rounded : adjoint ≡ map (in_units ADJOINT_UNIT) grains
  pub within : AreAllWithin most_adjoint adjoint

-- the workspace is as it was, but for what transformers' currents are worked out in
abbrev pub KeepsReferences : (before now : VariedWorkspace) → Type 0
KeepsReferences before now = now ≡ record before { solving = now.solving; volts = now.volts; adjoint = now.adjoint; at_corner = now.at_corner }
