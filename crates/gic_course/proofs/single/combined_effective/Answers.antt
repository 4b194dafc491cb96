use Rattle.std.proofs.Common.{sym, subst}
use Rattle.gic_fixed.specs.Ends.{Ends}
use Rattle.gic_model.specs.Voltages.{number_at}
use Rattle.gic_net.specs.Net.{standing}
use Rattle.gic_induce.specs.LineVolts.{volts_of}
use Rattle.gic_winding.specs.ElementList.{elements_of}
use Rattle.gic_base_views.specs.Table.{base_rows_of}
use Rattle.gic_course.specs.Single.{IsNarrowEffective}
use Rattle.gic_course.proofs.SuperposedSteps.{fields_given, right_single}
use Rattle.gic_course.proofs.single.combined_effective.Goals as goal

pub returns : goal.returns
returns c width least =
    let case = c.args.case.now in
    let fields = c.args.fields.now in
    let given = fields_given case fields c.keeps_rules.ensures c.requires.fields c.within_limit.ensures in
    subst (λ (e : Ends). IsNarrowEffective case (standing c.args.net.now) (number_at (volts_of case fields (elements_of case).list)) c.args.transformer width e)
    (sym c.superposed_effective.ensures)
    (right_single c.superposed_effective_law.ensures case c.args.net.now fields (base_rows_of c.args.bases.now.table) c.args.transformer width c.requires.network c.within_limits.ensures
    c.requires.solvable.earthed given c.requires.certified c.requires.transformer least)
