-- Base fields that are solved.
use Rattle.std.specs.Prelude.{ℕ, ◌≡◌, List, length, slice_index, ℤ}
use Rattle.gic_base.specs.declared.limits.TheConstants.{MOST_WALK}
use Rattle.gic_bound.specs.Entries.{IsBoundWithin}
use Rattle.gic_case.specs.Lists.{Lists}
use Rattle.gic_induce.specs.Fields.{lone_field}
use Rattle.gic_induce.specs.LineVolts.{volts_of}
use Rattle.gic_model.specs.Network.{Network}
use Rattle.gic_model.specs.Sums.{Placed}
use Rattle.gic_model.specs.Voltages.{number_at}
use Rattle.gic_net.specs.Net.{NetView, standing}
use Rattle.gic_winding.specs.ElementList.{elements_of}
use Rattle.gic_effective.specs.Holds.{AreOfNetwork, HoldsSolutions}
use Rattle.gic_base_views.specs.declared.workspace.BaseField.{BaseField}
use Rattle.gic_base_views.specs.declared.workspace.BaseWorkspace.{BaseWorkspace}
use Rattle.gic_base_views.specs.Table.{IsTableOf}
use Rattle.gic_enclose.specs.Certain.{AreTight}

-- base fields can be solved in the net: it is the case's, the entries are a bound vector of it, and fields and guesses are for the case's zones and nodes
pub record CanSolveBases (case : Lists) (net : NetView) (entries : List ℕ) (fields : List (ℤ × ℤ)) (guesses : List ℤ) : Type 0 where
  pub network : net.network ≡ elements_of case
  pub bound : IsBoundWithin (standing net) MOST_WALK (slice_index entries)
  pub entry_count : length entries ≡ (elements_of case).nodes
  pub zone_count : length fields ≡ length case.zones
  pub guess_count : length guesses ≡ (elements_of case).nodes

-- voltages and potentials are of the network; the potentials are tight, and hold every solution for the voltages
pub record IsSolvedIn (network : Network) (standing : List Placed) (base : BaseField) : Type 0 where
  pub together : AreOfNetwork network base.volts base.potentials
  pub holds : HoldsSolutions standing (number_at base.volts) base.potentials
  pub tight : AreTight base.potentials

-- so they do, and the voltages are those of this field in this zone alone
pub record IsSolvedBase (case : Lists) (standing : List Placed) (zone : ℕ) (field : ℤ × ℤ) (base : BaseField) : Type 0 where
  pub induced : base.volts ≡ volts_of case (lone_field (length case.zones) zone field) (elements_of case).list
  pub solved : IsSolvedIn (elements_of case) standing base

-- both base fields have space for the elements and nodes of the case, and the table is one of the case
pub record IsBaseWorkspaceFor (case : Lists) (workspace : BaseWorkspace) : Type 0 where
  pub north : AreOfNetwork (elements_of case) workspace.north.volts workspace.north.potentials
  pub east : AreOfNetwork (elements_of case) workspace.east.volts workspace.east.potentials
  pub table : IsTableOf case workspace.table
