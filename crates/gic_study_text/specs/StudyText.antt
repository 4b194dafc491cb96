-- The report of a study: what is asked, a step in detail if there is one, the peaks over all steps, and the texts of monitors.
use Rattle.std.specs.Prelude.{ℕ, ◌+◌, ℤ, List, [], ◌∷◌, ◌++◌, length, Option, None, Some, codes, decimal}
use Rattle.std.specs.Fmt.{signed_decimal}
use Rattle.gic_case.specs.ZoneView.{ZoneView}
use Rattle.gic_case.specs.Lists.{Lists, node_names}
use Rattle.gic_view.specs.View.{View}
use Rattle.gic_text.specs.Lines.{line_text, lines_text}
use Rattle.gic_report.specs.SharedLines.{Words, word_line}
use Rattle.gic_report.specs.ItemText.{node_lines, row_lines, item_rows_of, signed_lines}
use Rattle.gic_report.specs.VerdictText.{absolute_lines}

-- a step in detail: the field north and east of each zone in mV/km, and the view of the step, with its number and its time
pub record DetailView : Type 0 where
  pub fields : List (ℤ × ℤ)
  pub view : View

-- the line of what is asked: the width in mV and mA, the threshold in mA per phase, and how many steps the storm has
abbrev pub study_setting_line : (width threshold steps : ℕ) → Words
study_setting_line width threshold steps = codes "width" ∷ decimal width ∷ codes "threshold" ∷ decimal threshold ∷ codes "steps" ∷ decimal steps ∷ []

-- the line of a step, with its time in seconds
abbrev pub detail_step_line : (number time : ℕ) → Words
detail_step_line number time = codes "step" ∷ decimal number ∷ codes "time" ∷ decimal time ∷ []

-- the line of a zone, with its field in mV/km
abbrev pub zone_line : List ℕ → ℤ × ℤ → Words
zone_line name field = codes "zone" ∷ name ∷ codes "north" ∷ signed_decimal field.0 ∷ codes "east" ∷ signed_decimal field.1 ∷ []

-- per zone
abbrev pub zone_lines : List ZoneView → List (ℤ × ℤ) → List Words
zone_lines [] fields = []
zone_lines (zone ∷ zones) [] = []
zone_lines (zone ∷ zones) (field ∷ fields) = zone_line zone.name field ∷ zone_lines zones fields

-- the step, the zones and the signed items
abbrev pub detail_lines : Lists → DetailView → List Words
detail_lines case d = detail_step_line d.view.number d.view.time ∷ (zone_lines case.zones d.fields ++ signed_lines case d.view)

-- the block of a step in detail, if there is one
abbrev pub detail_block : Lists → Option DetailView → List Words
detail_block case None = []
detail_block case (Some d) = detail_lines case d

-- the peaks, which are absolute intervals: nodes, rows, and the verdicts on the transformers
abbrev pub peak_lines : Lists → (threshold : ℕ) → (peaks : View) → List Words
peak_lines case threshold peaks = node_lines (node_names case) peaks.nodes ++ (row_lines (item_rows_of case) peaks.elements ++ absolute_lines threshold case.transformers peaks.effective)

-- all lines in front of the monitors
abbrev pub study_lines : Lists → (width threshold steps : ℕ) → Option DetailView → (peaks : View) → List Words
study_lines case width threshold steps detail peaks =
    word_line (codes "study") ∷ study_setting_line width threshold steps ∷ (detail_block case detail ++ word_line (codes "peaks") ∷ peak_lines case threshold peaks)

-- the line in front of a monitor's text: the monitor's number, and how many bytes its text has
abbrev pub monitor_line : (number size : ℕ) → Words
monitor_line number size = codes "monitor" ∷ decimal number ∷ decimal size ∷ []

-- the text of a monitor behind its line
abbrev pub monitor_text : (number : ℕ) → List ℕ → List ℕ
monitor_text number text = line_text (monitor_line number (length text)) ++ text

-- the texts of monitors, numbered from here on
abbrev pub monitor_texts : (number : ℕ) → List (List ℕ) → List ℕ
monitor_texts number [] = []
monitor_texts number (text ∷ texts) = monitor_text number text ++ monitor_texts (number + 1) texts

-- the whole report. The bytes of a monitor's text may be any, so it isn't made of lines
abbrev pub study_text : Lists → (width threshold steps : ℕ) → Option DetailView → (peaks : View) → (texts : List (List ℕ)) → List ℕ
study_text case width threshold steps detail peaks texts =
    lines_text (study_lines case width threshold steps detail peaks) ++ (monitor_texts 1 texts ++ line_text (word_line (codes "end")))
