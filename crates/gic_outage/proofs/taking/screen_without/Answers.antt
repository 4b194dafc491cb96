use Rattle.std.proofs.Common.{◌≡◌, List, map, ap, subst, ◌∙◌}
use Rattle.gic_model.specs.Voltages.{number_at}
use Rattle.gic_net.specs.Net.{standing}
use Rattle.gic_report.specs.Counts.{counts_of}
use Rattle.gic_worst.specs.Rows.{ScreenRowView, screen_row_of}
use Rattle.gic_outage.specs.RightOutage.{northward_volts, eastward_volts, threshold_asked, worst_verdicts}
use Rattle.gic_outage.specs.Taking.{worsts_in, AreRaisedBy}
use Rattle.gic_outage.proofs.Ended.{refused_ended, solved_ended}
use Rattle.gic_outage.proofs.taking.screen_without.Goals as goal

pub returns-in-Err-clause-ended : goal.returns-in-Err-clause-ended
returns-in-Err-clause-ended c = λ item taken_out without.
    refused_ended c.args.inputs.now item (standing c.args.net.now) c.in-Err.refusal c.outcome_of.result c.args.greatest.now c.outcome_of.ensures taken_out without c.in-Err.ensures.err

pub returns-clause-ended : goal.returns-clause-ended
returns-clause-ended c = λ item taken_out without.
    let inputs = c.args.inputs.now in
    let case = inputs.case in
    let rows = c.screen_net.new.workspace.rows in
    let list = c.rows-rows.result.now in
    let north : number_at c.args.volts.now.north ≡ northward_volts inputs = ap number_at c.requires.volts.in_north in
    let east : number_at c.args.volts.now.east ≡ eastward_volts inputs = ap number_at c.requires.volts.in_east in
    let shown : map screen_row_of list ≡ rows = c.rows-rows.ensures in
    let counts : c.count_verdicts.result ≡ counts_of (worst_verdicts case (threshold_asked inputs) (worsts_in rows)) =
    c.count_verdicts.ensures
    ∙ ap (λ threshold. counts_of (worst_verdicts case threshold (worsts_in (map screen_row_of list)))) c.threshold.ensures
    ∙ ap (λ (rows : List ScreenRowView). counts_of (worst_verdicts case (threshold_asked inputs) (worsts_in rows))) shown in
    let raised : AreRaisedBy (worsts_in rows) c.args.greatest.now c.raise_all.new.greatest =
    subst (λ (rows : List ScreenRowView). AreRaisedBy (worsts_in rows) c.args.greatest.now c.raise_all.new.greatest) shown c.raise_all.ensures in
    solved_ended inputs item (standing c.args.net.now) (number_at c.args.volts.now.north) (number_at c.args.volts.now.east) rows c.count_verdicts.result c.args.greatest.now c.raise_all.new.greatest
    taken_out without north east c.in_default.ensures.solvable c.in_default.ensures.right counts raised
