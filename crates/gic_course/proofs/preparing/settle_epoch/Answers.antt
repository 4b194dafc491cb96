use Rattle.std.proofs.Common.{◌≡◌, ℕ, true, is_some, List, ap, sym, subst, ◌∙◌}
use Rattle.std.specs.Prelude.{slice_index}
use Rattle.gic_base.specs.declared.limits.TheConstants.{MOST_WALK}
use Rattle.gic_net.specs.Net.{standing}
use Rattle.gic_bound.specs.Entries.{IsBoundWithin}
use Rattle.gic_base_views.specs.BaseRows.{AreCertifiedRows}
use Rattle.gic_base_views.specs.Table.{base_rows_of}
use Rattle.gic_base_views.specs.declared.workspace.BaseWorkspace.{BaseWorkspace}
use Rattle.gic_uniform.specs.declared.solve_workspace.SolveWorkspace.{SolveWorkspace}
use Rattle.gic_course.proofs.KeptReady.{superposes_with, some_holds}
use Rattle.gic_course.proofs.preparing.settle_epoch.Goals as goal

pub returns-in-Superpose-clause-settled : goal.returns-in-Superpose-clause-settled
returns-in-Superpose-clause-settled c =
    let case = c.args.inputs.now.case in
    let stand = standing c.args.net.now in
    let done = c.prepare_uncounted.ensures in
    let there : is_some c.args.workspace.now.bases ≡ true = sym c.is_some.ensures ∙ superposes_with c.args.epoch c.zones.result c.is_some.result (sym c.by_count.ensures ∙ c.in-Superpose.is) in
    record {
      bound = subst (λ (v : List ℕ). IsBoundWithin stand MOST_WALK (slice_index v)) (sym (ap (λ (w : SolveWorkspace). w.vector) done.solve_workspace)) c.requires.bound;
      bases = some_holds (λ (base : BaseWorkspace). AreCertifiedRows case stand (base_rows_of base.table)) c.prepare_uncounted.new.workspace.bases
          (done.workspace.superposes ∙ sym c.requires.workspace.superposes ∙ there) done.certified;
    }
