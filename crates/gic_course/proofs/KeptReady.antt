-- What is ready, while a course goes on.
use Rattle.std.proofs.Common.{◌≡◌, ℕ, Bool, true, false, is_some, List, ℤ, Option, Some, None, Result, Ok, Err, sym, ap, subst, refl}
use Rattle.std.specs.Prelude.{IfSome, IsSomeAnd, IsErrAnd, IfErr, slice_index}
use Rattle.gic_base.specs.declared.limits.TheConstants.{MOST_WALK}
use Rattle.gic_base_views.specs.BaseRows.{AreCertifiedRows}
use Rattle.gic_base_views.specs.Table.{base_rows_of}
use Rattle.gic_base_views.specs.declared.workspace.BaseWorkspace.{BaseWorkspace}
use Rattle.gic_bound.specs.Entries.{IsBoundWithin}
use Rattle.gic_case.specs.Lists.{Lists}
use Rattle.gic_net.specs.Net.{NetView, standing}
use Rattle.gic_stand.specs.declared.fault.NetworkRefusal.{NetworkRefusal}
use Rattle.gic_switch.specs.declared.epoch.Epoch.{Epoch}
use Rattle.gic_inputs.specs.declared.inputs.StormInputs.{StormInputs}
use Rattle.gic_inputs.specs.Inputs.{IsStormOf}
use Rattle.gic_winding.specs.ElementList.{elements_of}
use Rattle.gic_uniform.specs.declared.solve_workspace.SolveWorkspace.{SolveWorkspace}
use Rattle.gic_course.specs.declared.ready.Ready.{Ready}
use Rattle.gic_course.specs.declared.ready.Way.{Way}
use Rattle.gic_course.specs.declared.ready.Way.TheVariants.{Solve, Superpose}
use Rattle.gic_course.specs.declared.workspace.Workspace.{Workspace}
use Rattle.gic_course.specs.WorkspaceFor.{IsWorkspaceForCourse, IsStepped}
use Rattle.gic_course.specs.Ways.{way_by_count}
use Rattle.gic_course.specs.Ready.{IsSettledBy, IsReadyAt, IsReady, IsShownBy}

-- a workspace with the same bound vector and the same base fields has what a way takes
pub settled_alike : (way : Way) (case : Lists) (net : NetView) (old new : Workspace) → new.solve_workspace.vector ≡ old.solve_workspace.vector → new.bases ≡ old.bases → IsSettledBy way case net old → IsSettledBy way case net new
settled_alike Solve case net old new vector bases settled = subst (λ (v : List ℕ). IsBoundWithin (standing net) MOST_WALK (slice_index v)) (sym vector) settled
settled_alike Superpose case net old new vector bases settled = record {
  bound = subst (λ (v : List ℕ). IsBoundWithin (standing net) MOST_WALK (slice_index v)) (sym vector) settled.bound;
  bases = subst (λ (b : Option BaseWorkspace). IsSomeAnd b (λ base. AreCertifiedRows case (standing net) (base_rows_of base.table))) (sym bases) settled.bases;
}

-- a bound vector is there for both ways
pub settled_bound : (way : Way) (case : Lists) (net : NetView) (workspace : Workspace) → IsSettledBy way case net workspace → IsBoundWithin (standing net) MOST_WALK (slice_index workspace.solve_workspace.vector)
settled_bound Solve case net workspace settled = settled
settled_bound Superpose case net workspace settled = settled.bound

-- so has one with other fields
pub settled_with_fields : (way : Way) (case : Lists) (net : NetView) (workspace : Workspace) (fields : List (ℤ × ℤ)) → IsSettledBy way case net workspace → IsSettledBy way case net (record workspace { fields = fields })
settled_with_fields way case net workspace fields = settled_alike way case net workspace (record workspace { fields = fields }) refl refl

-- so has one after a step
pub settled_after : (way : Way) (case : Lists) (net : NetView) (width : ℕ) (old new : Workspace) → IsStepped case net width old new → IsSettledBy way case net old → IsSettledBy way case net new
settled_after way case net width old new stepped = settled_alike way case net old new (ap (λ (w : SolveWorkspace). w.vector) stepped.solve_workspace) (ap (λ (r : Workspace). r.bases) stepped.rest)

-- steps are superposed only where there is space for base fields
pub superposes_with : (epoch : Epoch) (zones : ℕ) (superposes : Bool) → way_by_count epoch zones superposes ≡ Superpose → superposes ≡ true
superposes_with epoch zones true e = refl
superposes_with epoch zones false e = cc

-- what holds of all that is there holds of what is
pub some_holds : {A : Type 0} (P : A → Type 0) (o : Option A) → is_some o ≡ true → IfSome o P → IsSomeAnd o P
some_holds P None has holds = cc
some_holds P (Some a) has holds = holds

-- what is ready for an epoch is ready for a step of it
pub ready_for : (inputs : StormInputs) (ready : Option Ready) (net : NetView) (workspace : Workspace) (number : ℕ) (way : Way) → IsStormOf inputs → net.network ≡ elements_of inputs.case → IsWorkspaceForCourse inputs.case workspace →
    IsReady inputs ready net workspace → IsSomeAnd ready (IsShownBy number way) → IsReadyAt inputs number way net workspace
ready_for inputs None net workspace number way storm network space all shown = absurd shown
ready_for inputs (Some r) net workspace number way storm network space all shown = record {
  storm = storm;
  step = (all.steps number shown.step).0;
  network = network;
  stands = (all.steps number shown.step).1;
  space = space;
  settled = subst (λ w. IsSettledBy w inputs.case net workspace) shown.way_is all.settled;
}

-- it stays ready for the epoch where it does for a step that is shown
pub still_ready : (inputs : StormInputs) (ready : Option Ready) (net : NetView) (old new : Workspace) (number : ℕ) (way : Way) → IsSomeAnd ready (IsShownBy number way) → IsReadyAt inputs number way net new →
    IsReady inputs ready net old → IsReady inputs ready net new
still_ready inputs None net old new number way shown now all = tt
still_ready inputs (Some r) net old new number way shown now all = record {
  steps = all.steps;
  settled = subst (λ w. IsSettledBy w inputs.case net new) (sym shown.way_is) now.settled;
}

-- the answer is this refusal
pub refused : {A : Type 0} (answer : Result A NetworkRefusal) (refusal : NetworkRefusal) (P : NetworkRefusal → Type 0) → IsErrAnd answer (λ e. e ≡ refusal) → P refusal → IfErr answer P
refused (Ok done) refusal P h p = absurd h
refused (Err e) refusal P h p = subst P (sym h) p
