-- The formats of a case.
use Rattle.std.specs.Prelude.{ℕ, ◌==◌, Bool, true, false, if◌then◌else◌, Option, option_map, unwrap_or}
use Rattle.toml.specs.Data.{Data, Members}
use Rattle.gic_base.specs.declared.limits.TheConstants.{MOST_ZONES, MOST_SUBSTATIONS, MOST_BUSES, MOST_LINES, MOST_TRANSFORMERS, MOST_SUBSTATIONS_BEFORE_FORMAT_3, MOST_BUSES_BEFORE_FORMAT_3, MOST_LINES_BEFORE_FORMAT_3, MOST_TRANSFORMERS_BEFORE_FORMAT_3}
use Rattle.gic_case_reader.specs.Values.{natural_within, field_value}
use Rattle.gic_case_reader.specs.declared.field.Field.TheVariants as fields
use Rattle.gic_case_reader.specs.declared.format.Format.{Format}
use Rattle.gic_case_reader.specs.declared.format.Format.TheVariants as formats
use Rattle.gic_case.specs.declared.case_list.CaseList.{CaseList}
use Rattle.gic_case.specs.declared.case_list.CaseList.TheVariants as lists

-- the format of a number from 1 to 3
abbrev pub format_by : ℕ → Format
format_by n = if n == 1 then formats.One else if n == 2 then formats.Two else formats.Three

-- an integer that is the number of a format
abbrev pub read_format : Data → Option Format
read_format d = option_map format_by (natural_within 1 3 d)

-- the format of a document; one that tells none counts as of the first
abbrev pub format_in : Members → Format
format_in ms = unwrap_or (field_value read_format fields.Format ms) formats.One

-- transformers may have neutral devices: in every format but the first
abbrev pub has_devices : Format → Bool
has_devices formats.One = false
has_devices formats.Two = true
has_devices formats.Three = true

-- it is the third, in which zones may have scales, lines parts, and transformers a third winding, and lists more rows
abbrev pub is_third : Format → Bool
is_third formats.One = false
is_third formats.Two = false
is_third formats.Three = true

-- the most rows of a list
abbrev pub most_rows : Format → CaseList → ℕ
most_rows format lists.Document = 0
most_rows format lists.Zone = MOST_ZONES
most_rows format lists.Substation = if is_third format then MOST_SUBSTATIONS else MOST_SUBSTATIONS_BEFORE_FORMAT_3
most_rows format lists.Bus = if is_third format then MOST_BUSES else MOST_BUSES_BEFORE_FORMAT_3
most_rows format lists.Line = if is_third format then MOST_LINES else MOST_LINES_BEFORE_FORMAT_3
most_rows format lists.Transformer = if is_third format then MOST_TRANSFORMERS else MOST_TRANSFORMERS_BEFORE_FORMAT_3
