use Rattle.std.proofs.Common.{◌≡◌, ℤ, pos, w32, to_z, of_z, ap, sym, subst, ◌∙◌}
use Rattle.gic_induce.specs.LineVolts.{volts_of}
use Rattle.gic_induce.specs.Voltage.{IsFieldWithin}
use Rattle.gic_criteria.specs.Event.{field_of}
use Rattle.gic_winding.specs.ElementList.{elements_of}
use Rattle.gic_uniform.specs.Uniform.{uniform_field}
use Rattle.gic_uniform.proofs.UniformFields.{same_part}
use Rattle.gic_worst.proofs.RightRows.{field_within}
use Rattle.gic_worst.proofs.fields.field_volts.Goals as goal

pub returns : goal.returns
returns c =
    let case = c.args.case.now in
    let list = (elements_of case).list in
    let field : c.field-field.result ≡ field_of c.args.event = c.field-field.ensures in
    let within : IsFieldWithin c.field-field.result = subst (λ (z : ℤ). IsFieldWithin z) (sym field) (field_within c.args.event) in
    let same : to_z w32 (of_z w32 c.field-field.result) ≡ field_of c.args.event = same_part c.field-field.result within ∙ field in
    record {
      in_north = c.in_ok-north.ensures ∙ ap (λ (z : ℤ). volts_of case (uniform_field case z (pos 0)) list) same;
      in_east = c.in_ok-east.ensures ∙ ap (λ (z : ℤ). volts_of case (uniform_field case (pos 0) z) list) same;
    }
