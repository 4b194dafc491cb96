use Rattle.std.proofs.Common.{ℕ, arith, sym, subst, ⊎_elim}
use Rattle.std.proofs.lemmas.Bool.{cases_eq}
use Rattle.gic_net.specs.Net.{standing}
use Rattle.gic_base_views.specs.declared.table.BaseTable.{BaseTable}
use Rattle.gic_base_views.specs.BaseRows.{IsCertifiedIn, AreCertifiedRows}
use Rattle.gic_base_views.specs.Table.{base_rows_of, IsTableOf}
use Rattle.gic_base_views.proofs.Certified.{certified_elsewhere}
use Rattle.gic_base_views.proofs.certifying.prepare_bases.Goals as goal

pub loop-zone-preserved : goal.loop-zone-preserved
loop-zone-preserved g c =
    let s = standing c.args.net.now in
    let case = c.args.case.now in
    let i = c.loop-zone.invariant in
    let zone = c.loop-zone.zone in
    let old = c.loop-zone.workspace.table in
    let new = c.prepare_zone.new.workspace.table in
    record {
      certified = λ z less. ⊎_elim
          (λ e. subst (λ (n : ℕ). IsCertifiedIn case s (base_rows_of new) n) (sym e) c.prepare_zone.ensures.certified)
          (λ d. certified_elsewhere case s zone z old new i.workspace.table (omega (arith, less, c.loop-zone-test.true, c.loop-zone.auto.zone-end, c.zones-zone-end.ensures, c.requires.can.zone_count)) d c.prepare_zone.ensures.others (i.certified z (omega (arith, less, d))))
          (cases_eq z zone);
      can = c.prepare_zone.ensures.can;
      workspace = c.prepare_zone.ensures.workspace;
      ticks = omega (arith, c.prepare_zone.ensures.ticks, i.ticks);
    }

pub returns-clause-certified : goal.returns-clause-certified
returns-clause-certified g c =
    subst (λ (t : BaseTable). AreCertifiedRows c.args.case.now (standing c.args.net.now) (base_rows_of t)) (sym c.choose_numbers.ensures)
    (λ zone less. c.loop-zone.invariant.certified zone (omega (arith, less, c.loop-zone-test.false, c.loop-zone.auto.zone-end, c.zones-zone-end.ensures, c.requires.can.zone_count)))

pub returns-clause-workspace : goal.returns-clause-workspace
returns-clause-workspace g c =
    let workspace = c.loop-zone.invariant.workspace in
    record { north = workspace.north; east = workspace.east; table = subst (IsTableOf c.args.case.now) (sym c.choose_numbers.ensures) workspace.table }
