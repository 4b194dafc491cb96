-- What the mode prints.
use Rattle.std.specs.Prelude.{◌≡◌, ℕ, List}
use Rattle.gic_case.specs.Lists.{Lists}
use Rattle.gic_text.specs.Lines.{lines_text}
use Rattle.gic_winding.specs.ElementList.{elements_of}
use Rattle.gic_list.specs.ListText.{list_report}
use Rattle.gic_inputs.specs.declared.inputs.Inputs.{Inputs}

-- the text of the report
abbrev pub list_text : Lists → List ℕ
list_text case = lines_text (list_report case (elements_of case).nodes (elements_of case).list)

-- the text is that of the case
abbrev pub IsRightList : Inputs (Unit {0}) → List ℕ → Type 0
IsRightList inputs text = text ≡ list_text inputs.case
