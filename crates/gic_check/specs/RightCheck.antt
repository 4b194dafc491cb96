-- What the mode prints.
use Rattle.std.specs.Prelude.{◌≡◌, ℕ, Bool, List, length, map}
use Rattle.std.specs.List.{range_with_len}
use Rattle.gic_case.specs.Lists.{Lists, node_names}
use Rattle.gic_model.specs.Standing.{is_live}
use Rattle.gic_model.specs.Sums.{Placed}
use Rattle.gic_text.specs.Lines.{lines_text}
use Rattle.gic_check.specs.CheckText.{check_report}
use Rattle.gic_inputs.specs.declared.inputs.Inputs.{Inputs}
use Rattle.gic_stand.specs.Standing.{standing_of}

-- whether each node of the case is live, in node order
abbrev pub live_nodes : Lists → List Placed → List Bool
live_nodes case standing = map (is_live standing) (range_with_len 0 (length (node_names case)))

-- the text that tells it of the elements that stand
abbrev pub check_text : Lists → List Placed → List ℕ
check_text case standing = lines_text (check_report case (live_nodes case standing))

-- with all switchings in force
abbrev pub IsRightCheck : Inputs (Unit {0}) → List ℕ → Type 0
IsRightCheck inputs text = text ≡ check_text inputs.case (standing_of inputs.case inputs.switchings)
