-- What a course writes to, and how it is changed. For the contracts of this crate.
use Rattle.std.specs.Prelude.{ℕ, ◌≡◌, length, is_some, IfSome, IsSomeAnd, slice_index}
use Rattle.gic_base.specs.declared.limits.TheConstants.{MOST_WALK}
use Rattle.gic_bound.specs.Entries.{IsBoundWithin}
use Rattle.gic_case.specs.Lists.{Lists}
use Rattle.gic_model.specs.Voltages.{number_at}
use Rattle.gic_net.specs.Net.{NetView, standing}
use Rattle.gic_induce.specs.LineVolts.{volts_of}
use Rattle.gic_enclose.specs.Solved.{IsSolvedWithin}
use Rattle.gic_winding.specs.ElementList.{elements_of}
use Rattle.gic_base_views.specs.BaseRows.{AreCertifiedRows}
use Rattle.gic_base_views.specs.Table.{base_rows_of}
use Rattle.gic_base_views.specs.BaseFields.{IsBaseWorkspaceFor}
use Rattle.gic_uniform.specs.Ready.{IsWorkspaceForCase}
use Rattle.gic_course.specs.declared.workspace.Workspace.{Workspace}
use Rattle.gic_course.specs.Ways.{can_superpose}

-- there is space for each node, element and zone of the case, and for base fields exactly where they can be certified
pub record IsWorkspaceForCourse (case : Lists) (workspace : Workspace) : Type 0 where
  pub nodes : IsWorkspaceForCase case workspace.solve_workspace
  pub volts : length workspace.volts ≡ length (elements_of case).list
  pub zones : length workspace.fields ≡ length case.zones
  pub superposes : is_some workspace.bases ≡ can_superpose case
  pub base_workspace : IfSome workspace.bases (IsBaseWorkspaceFor case)

-- where there is space for base fields, they are certified for the net; the voltages stay, and so does the workspace but for its guesses
pub record IsPrepared (case : Lists) (net : NetView) (old new : Workspace) : Type 0 where
  pub certified : IfSome new.bases (λ base. AreCertifiedRows case (standing net) (base_rows_of base.table))
  pub workspace : IsWorkspaceForCourse case new
  pub solve_workspace : new.solve_workspace ≡ record old.solve_workspace { solver = new.solve_workspace.solver }
  pub rest : new ≡ record old { solve_workspace = new.solve_workspace; fields = new.fields; bases = new.bases }

-- the potentials are solved for the voltages of the fields; fields, base fields and bound vector stay
pub record IsStepped (case : Lists) (net : NetView) (width : ℕ) (old new : Workspace) : Type 0 where
  pub induced : new.volts ≡ volts_of case old.fields net.network.list
  pub solved : IsSolvedWithin (standing net) (number_at new.volts) width new.solve_workspace.potentials
  pub workspace : IsWorkspaceForCourse case new
  pub solve_workspace : new.solve_workspace ≡ record old.solve_workspace { solver = new.solve_workspace.solver; potentials = new.solve_workspace.potentials }
  pub rest : new ≡ record old { solve_workspace = new.solve_workspace; volts = new.volts }

-- the bound vector is one of the net, and there are base fields that are certified for it
pub record IsCertifiedFor (case : Lists) (net : NetView) (workspace : Workspace) : Type 0 where
  pub bound : IsBoundWithin (standing net) MOST_WALK (slice_index workspace.solve_workspace.vector)
  pub bases : IsSomeAnd workspace.bases (λ base. AreCertifiedRows case (standing net) (base_rows_of base.table))
