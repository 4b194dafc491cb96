-- The rules of a case, each read by itself: the refusals for all places where a document breaks it, in order. A document is accepted where no rule gives one, and the first of all answers otherwise.
use Rattle.std.specs.Prelude.{ℕ, ◌+◌, ◌-◌, ◌==◌, nat_le, nat_lt, List, [], ◌∷◌, ◌++◌, length, map, flat_map, Bool, true, not, if◌then◌else◌, Option, Some, None, option_map, unwrap_or, is_some, Result}
use Rattle.std.specs.List.{enumerate_from, range_with_len, list_all}
use Rattle.std.specs.Str.{is_utf8}
use Rattle.toml.specs.Data.{Data, Items, no_items, item, Members, get_member, as_array}
use Rattle.toml.specs.Parse.{parse_document}
use Rattle.gic_base.specs.Refusals.{unless, settle}
use Rattle.gic_base.specs.declared.limits.TheConstants.{MOST_AT_A_NODE}
use Rattle.gic_case.specs.ZoneView.{ZoneView}
use Rattle.gic_case_reader.specs.Keys.{fits_document}
use Rattle.gic_case.specs.ListWord.{list_word}
use Rattle.gic_case_reader.specs.Formats.{read_format, format_in, most_rows}
use Rattle.gic_case_reader.specs.Rows.{breaks_value, breaks_zone, zone_of, breaks_substation, substation_of, breaks_bus, bus_of}
use Rattle.gic_case_reader.specs.Lines.{breaks_line, line_row_of}
use Rattle.gic_case_reader.specs.Transformers.{breaks_transformer, transformer_of}
use Rattle.gic_case.specs.Names.{is_repeat, place_in}
use Rattle.gic_case.specs.Lists.{Lists, node_names, element_ends, degree_of}
use Rattle.gic_case.specs.Windings.{windings_of}
use Rattle.gic_case_reader.specs.Sides.{sides_differ, are_together, are_ordered}
use Rattle.gic_case_reader.specs.declared.field.Field.{Field}
use Rattle.gic_case_reader.specs.declared.field.Field.TheVariants as fields
use Rattle.gic_case.specs.declared.case_list.CaseList.{CaseList}
use Rattle.gic_case.specs.declared.case_list.CaseList.TheVariants as lists
use Rattle.gic_case_reader.specs.declared.refusal.CaseRefusal.{CaseRefusal}
use Rattle.gic_case_reader.specs.declared.refusal.CaseRefusal.TheVariants as refusals
use Rattle.gic_case.specs.declared.item.Substation.{Substation}
use Rattle.gic_case.specs.declared.item.Bus.{Bus}
use Rattle.gic_case.specs.declared.part.LinePart.{LinePart}
use Rattle.gic_case.specs.declared.course.Course.{Course}
use Rattle.gic_case.specs.declared.course.Course.TheVariants as courses
use Rattle.gic_case.specs.declared.item.Line.{Line}
use Rattle.gic_case.specs.declared.kind.Third.{Third}
use Rattle.gic_case.specs.declared.kind.Kind.{Kind}
use Rattle.gic_case.specs.declared.kind.Kind.TheVariants as kinds
use Rattle.gic_case.specs.declared.item.Transformer.{Transformer}
use Rattle.gic_case_reader.specs.declared.row.BusRow.{BusRow}
use Rattle.gic_case_reader.specs.declared.part_row.PartRow.{PartRow}
use Rattle.gic_case_reader.specs.declared.row.CourseRow.{CourseRow}
use Rattle.gic_case_reader.specs.declared.row.CourseRow.TheVariants as written
use Rattle.gic_case_reader.specs.declared.row.LineRow.{LineRow}
use Rattle.gic_case_reader.specs.declared.row.TransformerRow.{TransformerRow}

-- the entries of an array
abbrev pub list_in : Items → List Data
list_in no_items = []
list_in (item d ds) = d ∷ list_in ds

-- the entries of a list that is there, and none otherwise
abbrev pub array_in : Option Data → List Data
array_in None = []
array_in (Some d) = list_in (unwrap_or (as_array d) no_items)

-- the entries of a list of the document
abbrev pub entries_of : CaseList → Members → List Data
entries_of list ms = array_in (get_member (list_word list) ms)

-- a list is an array where it is there
abbrev pub is_array : Option Data → Bool
is_array None = true
is_array (Some d) = is_some (as_array d)

-- a list is an array of a given number of rows at most, and each row keeps its rules
abbrev pub breaks_list : CaseList → (limit : ℕ) → (ℕ → Data → List CaseRefusal) → Members → List CaseRefusal
breaks_list list limit breaks ms =
    unless (is_array (get_member (list_word list) ms)) (refusals.Key list 0)
    ++ (unless (nat_le (length (entries_of list ms)) limit) (refusals.TooMany list)
    ++ flat_map (λ p. breaks p.0 p.1) (enumerate_from 1 (entries_of list ms)))

-- the document has its keys, a format, and its lists, each with at most as many rows as the format has
unfoldable pub breaks_form : Members → List CaseRefusal
breaks_form ms =
    let format = format_in ms in
    unless (fits_document ms) (refusals.Key lists.Document 0)
    ++ (breaks_value read_format lists.Document 0 fields.Format ms
    ++ (breaks_list lists.Zone (most_rows format lists.Zone) (breaks_zone format) ms
    ++ (breaks_list lists.Substation (most_rows format lists.Substation) (breaks_substation format) ms
    ++ (breaks_list lists.Bus (most_rows format lists.Bus) breaks_bus ms
    ++ (breaks_list lists.Line (most_rows format lists.Line) (breaks_line format) ms
    ++ breaks_list lists.Transformer (most_rows format lists.Transformer) (breaks_transformer format) ms)))))

-- the rows as they are written, with names in place of references
pub record WrittenRows : Type 0 where
  pub zones : List ZoneView
  pub substations : List Substation
  pub buses : List BusRow
  pub lines : List LineRow
  pub transformers : List TransformerRow

-- the rows of a document, each field that breaks its rule taken as zero
unfoldable pub written_in : Members → WrittenRows
written_in ms = record {
  zones = map (zone_of (format_in ms)) (entries_of lists.Zone ms);
  substations = map (substation_of (format_in ms)) (entries_of lists.Substation ms);
  buses = map bus_of (entries_of lists.Bus ms);
  lines = map (line_row_of (format_in ms)) (entries_of lists.Line ms);
  transformers = map (transformer_of (format_in ms)) (entries_of lists.Transformer ms);
}

-- the names of all rows, list after list
abbrev pub written_names : WrittenRows → List (List ℕ)
written_names w = map (λ z. z.name) w.zones ++ (map (λ s. s.name) w.substations ++ (map (λ b. b.name) w.buses ++ (map (λ l. l.name) w.lines ++ map (λ t. t.name) w.transformers)))

-- the refusal for a place in these names
abbrev pub duplicate_at : (zones substations buses lines : ℕ) → ℕ → CaseRefusal
duplicate_at zones substations buses lines i =
    if nat_lt i zones then refusals.Duplicate lists.Zone (i + 1)
    else if nat_lt i (zones + substations) then refusals.Duplicate lists.Substation (i - zones + 1)
    else if nat_lt i (zones + substations + buses) then refusals.Duplicate lists.Bus (i - (zones + substations) + 1)
    else if nat_lt i (zones + substations + buses + lines) then refusals.Duplicate lists.Line (i - (zones + substations + buses) + 1)
    else refusals.Duplicate lists.Transformer (i - (zones + substations + buses + lines) + 1)

-- a row's name is the name of no earlier row
unfoldable pub breaks_once : WrittenRows → List CaseRefusal
breaks_once w =
    let names = written_names w in
    flat_map (λ i. unless (not (is_repeat names i)) (duplicate_at (length w.zones) (length w.substations) (length w.buses) (length w.lines) i)) (range_with_len 0 (length names))

-- where the substation of a name stands in its list, if there is one
abbrev pub substation_place : WrittenRows → List ℕ → Option ℕ
substation_place w = place_in (map (λ s. s.name) w.substations)

-- the same for buses
abbrev pub bus_place : WrittenRows → List ℕ → Option ℕ
bus_place w = place_in (map (λ b. b.name) w.buses)

-- the same for zones
abbrev pub zone_place : WrittenRows → List ℕ → Option ℕ
zone_place w = place_in (map (λ z. z.name) w.zones)

-- a bus is in one of the substations
abbrev pub breaks_bus_reference : WrittenRows → ℕ → BusRow → List CaseRefusal
breaks_bus_reference w row b = unless (is_some (substation_place w b.substation)) (refusals.Unknown lists.Bus row fields.Substation)

-- a part of a line is in one of the zones
abbrev pub is_in_zone : WrittenRows → PartRow → Bool
is_in_zone w part = is_some (zone_place w part.zone)

-- a line leads through one of the zones, or each of its parts does
abbrev pub breaks_course_reference : WrittenRows → ℕ → CourseRow → List CaseRefusal
breaks_course_reference w row (written.One part) = unless (is_in_zone w part) (refusals.Unknown lists.Line row fields.Zone)
breaks_course_reference w row (written.Several ps) = unless (list_all (is_in_zone w) ps) (refusals.Unknown lists.Line row fields.Part)

-- a line runs between two of the buses, and through the zones
abbrev pub breaks_line_references : WrittenRows → ℕ → LineRow → List CaseRefusal
breaks_line_references w row l =
    unless (is_some (bus_place w l.from)) (refusals.Unknown lists.Line row fields.From)
    ++ (unless (is_some (bus_place w l.to)) (refusals.Unknown lists.Line row fields.To)
    ++ breaks_course_reference w row l.course)

-- a side of a transformer is at one of the buses
abbrev pub breaks_side_reference : WrittenRows → ℕ → Field → (bus : List ℕ) → List CaseRefusal
breaks_side_reference w row at bus = unless (is_some (bus_place w bus)) (refusals.Unknown lists.Transformer row at)

-- a third side, where there is one, is at one of the buses
abbrev pub breaks_third_reference : WrittenRows → ℕ → Option (Third (List ℕ)) → List CaseRefusal
breaks_third_reference w row None = []
breaks_third_reference w row (Some t) = breaks_side_reference w row fields.Third t.bus

-- the sides that a kind has are at buses: first the high one, then the low one, then the third
abbrev pub breaks_kind_references : WrittenRows → ℕ → Kind (List ℕ) → List CaseRefusal
breaks_kind_references w row (kinds.DeltaWye high high_resistance) = breaks_side_reference w row fields.High high
breaks_kind_references w row (kinds.WyeWye high low low_volts high_resistance low_resistance third) = breaks_side_reference w row fields.High high ++ (breaks_side_reference w row fields.Low low ++ breaks_third_reference w row third)
breaks_kind_references w row (kinds.Auto high low low_volts series_resistance common_resistance third) = breaks_side_reference w row fields.High high ++ (breaks_side_reference w row fields.Low low ++ breaks_third_reference w row third)
breaks_kind_references w row (kinds.Reactor high high_resistance) = breaks_side_reference w row fields.High high
breaks_kind_references w row kinds.DeltaDelta = []

-- each reference is the name of a row of its list
unfoldable pub breaks_references : WrittenRows → List CaseRefusal
breaks_references w =
    flat_map (λ p. breaks_bus_reference w p.0 p.1) (enumerate_from 1 w.buses)
    ++ (flat_map (λ p. breaks_line_references w p.0 p.1) (enumerate_from 1 w.lines)
    ++ flat_map (λ p. breaks_kind_references w p.0 p.1.kind) (enumerate_from 1 w.transformers))

-- a bus, with the place of its substation
abbrev pub bus_with_place : WrittenRows → BusRow → Bus
bus_with_place w b = record { name = b.name; substation = unwrap_or (substation_place w b.substation) 0 }

-- a part, with the place of its zone
abbrev pub part_with_place : WrittenRows → PartRow → LinePart
part_with_place w part = record { zone = unwrap_or (zone_place w part.zone) 0; north = part.north; east = part.east }

-- where a line leads, with the places of the zones
abbrev pub course_with_places : WrittenRows → CourseRow → Course
course_with_places w (written.One part) = courses.One (part_with_place w part)
course_with_places w (written.Several ps) = courses.Several (map (part_with_place w) ps)

-- a line, with the places of its buses and its zones
abbrev pub line_with_places : WrittenRows → LineRow → Line
line_with_places w l = record {
  name = l.name;
  from = unwrap_or (bus_place w l.from) 0;
  to = unwrap_or (bus_place w l.to) 0;
  course = course_with_places w l.course;
  resistance = l.resistance;
  blocked = l.blocked;
}

-- the place of a bus, and the first place for a name that is nowhere
abbrev pub side_place : WrittenRows → (bus : List ℕ) → ℕ
side_place w bus = unwrap_or (bus_place w bus) 0

-- a third side, with the place of its bus
abbrev pub third_with_place : WrittenRows → Third (List ℕ) → Third ℕ
third_with_place w t = record { bus = side_place w t.bus; volts = t.volts; resistance = t.resistance }

-- a kind, with the places of its buses
abbrev pub kind_with_places : WrittenRows → Kind (List ℕ) → Kind ℕ
kind_with_places w (kinds.DeltaWye high high_resistance) = kinds.DeltaWye (side_place w high) high_resistance
kind_with_places w (kinds.WyeWye high low low_volts high_resistance low_resistance third) = kinds.WyeWye (side_place w high) (side_place w low) low_volts high_resistance low_resistance (option_map (third_with_place w) third)
kind_with_places w (kinds.Auto high low low_volts series_resistance common_resistance third) = kinds.Auto (side_place w high) (side_place w low) low_volts series_resistance common_resistance (option_map (third_with_place w) third)
kind_with_places w (kinds.Reactor high high_resistance) = kinds.Reactor (side_place w high) high_resistance
kind_with_places w kinds.DeltaDelta = kinds.DeltaDelta

-- a transformer, with the places of its buses
abbrev pub transformer_with_places : WrittenRows → TransformerRow → Transformer
transformer_with_places w t = record { name = t.name; high_volts = t.high_volts; kind = kind_with_places w t.kind; neutral = t.neutral }

-- the lists, with places in place of names; a name that is nowhere stands for the first place
unfoldable pub resolved : WrittenRows → Lists
resolved w = record {
  zones = w.zones;
  substations = w.substations;
  buses = map (bus_with_place w) w.buses;
  lines = map (line_with_places w) w.lines;
  transformers = map (transformer_with_places w) w.transformers;
}

-- each of the rows, numbered from 1, passes the test
abbrev pub breaks_rows : {A : Type 0} → (A → Bool) → (ℕ → CaseRefusal) → List A → List CaseRefusal
breaks_rows test refusal rows = flat_map (λ p. unless (test p.1) (refusal p.0)) (enumerate_from 1 rows)

-- no line has one bus for two
abbrev pub breaks_same_ends : Lists → List CaseRefusal
breaks_same_ends c = breaks_rows (λ l. not (l.from == l.to)) (refusals.SameEnds lists.Line) c.lines

-- no transformer has one bus for two of its sides
abbrev pub breaks_same_sides : Lists → List CaseRefusal
breaks_same_sides c = breaks_rows (λ t. sides_differ (windings_of t)) (refusals.SameEnds lists.Transformer) c.transformers

-- no transformer stands in two substations
abbrev pub breaks_apart : Lists → List CaseRefusal
breaks_apart c = breaks_rows (λ t. are_together c.buses (windings_of t)) refusals.Apart c.transformers

-- no transformer has a low or third voltage above its high voltage
abbrev pub breaks_voltage_order : Lists → List CaseRefusal
breaks_voltage_order c = breaks_rows (λ t. are_ordered t.high_volts (windings_of t)) refusals.VoltageOrder c.transformers

-- at most `MOST_AT_A_NODE` elements end at each node, which is refused by its name
abbrev pub breaks_degree : Lists → List CaseRefusal
breaks_degree c = flat_map (λ p. unless (nat_le (degree_of (element_ends c) p.0) MOST_AT_A_NODE) (refusals.Degree p.1)) (enumerate_from 0 (node_names c))

-- all rules on a document, in their order
unfoldable pub broken_in : Members → List CaseRefusal
broken_in ms =
    let w = written_in ms in
    let c = resolved w in
    breaks_form ms
    ++ (breaks_once w
    ++ (breaks_references w
    ++ (breaks_same_ends c
    ++ (breaks_same_sides c
    ++ (breaks_apart c
    ++ (breaks_voltage_order c
    ++ breaks_degree c))))))

-- all rules on bytes, as the document that they are
abbrev pub case_refusals : Option Members → List CaseRefusal
case_refusals None = refusals.NotToml ∷ []
case_refusals (Some ms) = broken_in ms

-- the lists of a document, and none where there is no document
abbrev pub lists_of : Option Members → Lists
lists_of None = record { zones = []; substations = []; buses = []; lines = []; transformers = [] }
lists_of (Some ms) = resolved (written_in ms)

-- the document that the bytes are, if they are UTF-8 and TOML
abbrev pub document_of : List ℕ → Option Members
document_of bytes = if is_utf8 bytes then parse_document bytes else None

-- the case that the bytes are, or the first rule that they break
unfoldable pub case_of : List ℕ → Result Lists CaseRefusal
case_of bytes = settle (case_refusals (document_of bytes)) (lists_of (document_of bytes))
