use Rattle.std.proofs.Common.{sym, subst}
use Rattle.gic_grounds.specs.declared.workspace.VariedWorkspace.{VariedWorkspace}
use Rattle.gic_grounds.specs.Tolerated.{tolerated, AreNetsOf}
use Rattle.gic_model.specs.Voltages.{number_at}
use Rattle.gic_robust.proofs.rows.row_of.Goals as goal

pub returns-in-Undecided-clause-right : goal.returns-in-Undecided-clause-right
returns-in-Undecided-clause-right c switched percent nets referred =
    let v = tolerated c.args.case.now switched percent in
    let north = number_at c.args.volts.now.north in
    let east = number_at c.args.volts.now.east in
    let kept : AreNetsOf v c.row-currents.new.self.nets = subst (λ (w : VariedWorkspace). AreNetsOf v w.nets) (sym c.row-currents.ensures.rest) nets in
    c.robust_row.ensures v north east c.args.transformer
    (c.sharpen.ensures.right switched percent kept referred.in_north.no_ground referred.in_east.no_ground
    (c.row-currents.ensures.right switched percent north east nets referred))
