-- What the mode prints.
use Rattle.std.specs.Prelude.{◌≡◌, ℕ, ℤ, List}
use Rattle.gic_case.specs.Lists.{Lists}
use Rattle.gic_induce.specs.LineVolts.{all_line_volts, uniform_field}
use Rattle.gic_text.specs.Lines.{lines_text}
use Rattle.gic_volts.specs.VoltsText.{volts_report}
use Rattle.gic_criteria.specs.declared.asked.UniformField.{UniformField}
use Rattle.gic_inputs.specs.declared.inputs.Inputs.{Inputs}

-- the voltage of each line in nanovolts, blocked ones too, in one field for all zones
abbrev pub volts_of_lines : Lists → ℤ → ℤ → List ℤ
volts_of_lines case north east = all_line_volts case (uniform_field case north east)

-- the text of the report
abbrev pub volts_text : Lists → UniformField → List ℕ
volts_text case f = lines_text (volts_report case.lines f.north f.east (volts_of_lines case f.north f.east))

-- the text is that of the case and the field
abbrev pub IsRightVolts : Inputs UniformField → List ℕ → Type 0
IsRightVolts inputs text = text ≡ volts_text inputs.case inputs.question
