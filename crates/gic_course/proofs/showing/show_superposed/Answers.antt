use Rattle.gic_winding.specs.ElementList.{elements_of}
use Rattle.gic_base_views.specs.Table.{base_rows_of}
use Rattle.gic_induce.proofs.FieldVolts.{field_volts}
use Rattle.gic_course.proofs.SuperposedSteps.{fields_given, right_and_narrow}
use Rattle.gic_course.proofs.Told.{have_absolutes}
use Rattle.gic_course.proofs.showing.show_superposed.Goals as goal

pub returns-clause-shown : goal.returns-clause-shown
returns-clause-shown c width least =
    let case = c.args.case.now in
    let fields = c.args.fields.now in
    let view = c.fill_superposed.new.out in
    let sound = c.keeps_rules.ensures in
    let within = c.within_limit.ensures in
    let both =
    right_and_narrow c.superposed_views_law.ensures case c.args.net.now fields (base_rows_of c.args.bases.now.table) view width c.requires.network c.within_limits.ensures
    c.requires.solvable.earthed (fields_given case fields sound c.requires.fields within) c.requires.certified c.fill_superposed.ensures.view least in
    record {
      right = both.0;
      narrow = both.1;
      absolutes = have_absolutes view c.fill_superposed.ensures.small;
      driven = field_volts case fields sound c.requires.fields within (elements_of case).list;
    }
