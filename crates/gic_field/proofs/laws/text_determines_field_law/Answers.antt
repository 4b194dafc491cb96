use Rattle.gic_field.proofs.FieldDetermined.{report_determined}
use Rattle.gic_field.proofs.laws.text_determines_field_law.Goals as goal

pub returns : goal.returns
returns c = report_determined
