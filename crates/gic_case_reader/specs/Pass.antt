-- What one pass over the document reads, up to the first refusal. It serves the private functions of the reader alone: its contract speaks of rules.
use Rattle.std.specs.Prelude.{ℕ, ◌+◌, nat_lt, suc, List, [], ◌∷◌, length, Bool, true, false, if◌then◌else◌, Option, Some, None, option_and_then, option_map, unwrap_or, Result, Ok, Err}
use Rattle.toml.specs.Data.{Data, Items, no_items, item, Members, get_member, as_array, as_bool, as_table}
use Rattle.gic_base.specs.Refusals.{settle}
use Rattle.gic_base.specs.Passes.{◌>>=◌, or_refuse, test}
use Rattle.gic_case.specs.ZoneView.{ZoneView}
use Rattle.gic_case.specs.declared.scaling.Scaling.TheVariants as scalings
use Rattle.gic_case_reader.specs.Keys.{key_of, has, fits, fits_document}
use Rattle.gic_case.specs.ListWord.{list_word}
use Rattle.gic_case_reader.specs.Values.{natural_within, read_name, field_value}
use Rattle.gic_case_reader.specs.Formats.{read_format, most_rows}
use Rattle.gic_case_reader.specs.Rows.{ohm_within, volts_within, metres_within, percent_within, read_neutral, is_scaled, earth_zone_fields, scaled_zone_fields, is_ranged, ranged_substation_fields, bus_fields}
use Rattle.gic_case_reader.specs.Lines.{is_parted, plain_line_fields, parted_line_fields, read_parts}
use Rattle.gic_case.specs.Lists.{substation_with, Lists}
use Rattle.gic_case_reader.specs.Transformers.{read_kind, fields_of, others_of}
use Rattle.gic_case_reader.specs.OneByOne.{first_repeat, breaks_same_ends_from, breaks_same_sides_from, breaks_apart_from, breaks_voltage_order_from}
use Rattle.gic_case_reader.specs.Rules.{WrittenRows, written_names, duplicate_at, substation_place, bus_place, zone_place, breaks_degree}
use Rattle.gic_case_reader.specs.declared.field.Field.{Field}
use Rattle.gic_case_reader.specs.declared.field.Field.TheVariants as fields
use Rattle.gic_case_reader.specs.declared.format.Format.{Format}
use Rattle.gic_case.specs.declared.case_list.CaseList.{CaseList}
use Rattle.gic_case.specs.declared.case_list.CaseList.TheVariants as lists
use Rattle.gic_case_reader.specs.declared.refusal.CaseRefusal.{CaseRefusal}
use Rattle.gic_case_reader.specs.declared.refusal.CaseRefusal.TheVariants as refusals
use Rattle.gic_case.specs.declared.item.Substation.{Substation}
use Rattle.gic_case.specs.declared.item.Bus.{Bus}
use Rattle.gic_case.specs.declared.part.LinePart.{LinePart}
use Rattle.gic_case.specs.declared.course.Course.{Course}
use Rattle.gic_case.specs.declared.course.Course.TheVariants as courses
use Rattle.gic_case.specs.declared.item.Line.{Line}
use Rattle.gic_case.specs.declared.kind.Third.{Third}
use Rattle.gic_case.specs.declared.kind.Kind.{Kind}
use Rattle.gic_case.specs.declared.kind.Kind.TheVariants as kinds
use Rattle.gic_case.specs.declared.item.Transformer.{Transformer}
use Rattle.gic_case_reader.specs.declared.row.BusRow.{BusRow}
use Rattle.gic_case_reader.specs.declared.part_row.PartRow.{PartRow}
use Rattle.gic_case_reader.specs.declared.row.CourseRow.{CourseRow}
use Rattle.gic_case_reader.specs.declared.row.CourseRow.TheVariants as written
use Rattle.gic_case_reader.specs.declared.row.LineRow.{LineRow}
use Rattle.gic_case_reader.specs.declared.row.TransformerRow.{TransformerRow}
use Rattle.gic_case_reader.specs.declared.transformer.KindWord.{KindWord}
use Rattle.gic_case_reader.specs.declared.transformer.KindWord.TheVariants as words

-- the value of a field
unfoldable pub required : {A : Type 0} → (Data → Option A) → CaseList → ℕ → Field → Members → Result A CaseRefusal
required read list row at ms = or_refuse (field_value read at ms) (refusals.Value list row at)

-- what is there, as the test reads it
abbrev pub optional_in : {A : Type 0} → (Data → Option A) → CaseRefusal → Option Data → Result (Option A) CaseRefusal
optional_in read e None = Ok None
optional_in read e (Some d) = or_refuse (read d) e >>= (λ x. Ok (Some x))

-- the value of a field that may be absent
unfoldable pub optional : {A : Type 0} → (Data → Option A) → CaseList → ℕ → Field → Members → Result (Option A) CaseRefusal
optional read list row at ms = optional_in read (refusals.Value list row at) (get_member (key_of at) ms)

-- a table with the keys that a row may and must have
unfoldable pub row_table : CaseList → (required others : List Field) → ℕ → Data → Result Members CaseRefusal
row_table list required others row d =
    or_refuse (option_and_then (λ ms. if fits required others ms then Some ms else None) (as_table d)) (refusals.Key list row)

-- a row of the zones by its latitude and its earth
unfoldable pub earth_zone_row : ℕ → Data → Result ZoneView CaseRefusal
earth_zone_row row d = do
  ms ← row_table lists.Zone earth_zone_fields [] row d
  name ← required read_name lists.Zone row fields.Name ms
  latitude ← required (natural_within 0 9000) lists.Zone row fields.Latitude ms
  beta ← required (natural_within 1 150) lists.Zone row fields.Beta ms
  Ok (record { name = name; scaling = scalings.Earth latitude beta })

-- a row of the zones by its scale
unfoldable pub scaled_zone_row : ℕ → Data → Result ZoneView CaseRefusal
scaled_zone_row row d = do
  ms ← row_table lists.Zone scaled_zone_fields [] row d
  name ← required read_name lists.Zone row fields.Name ms
  scale ← required (natural_within 1 1500) lists.Zone row fields.Scale ms
  Ok (record { name = name; scaling = scalings.Factor scale })

-- a row of the zones
unfoldable pub zone_row : Format → ℕ → Data → Result ZoneView CaseRefusal
zone_row format row d = if is_scaled format d then scaled_zone_row row d else earth_zone_row row d

-- a row of the substations without a tolerance
unfoldable pub plain_substation_row : ℕ → Data → Result Substation CaseRefusal
plain_substation_row row d = do
  ms ← row_table lists.Substation (fields.Name ∷ []) (fields.Ground ∷ []) row d
  name ← required read_name lists.Substation row fields.Name ms
  earthing ← optional ohm_within lists.Substation row fields.Ground ms
  Ok (substation_with name earthing None)

-- a row of the substations with a tolerance
unfoldable pub ranged_substation_row : ℕ → Data → Result Substation CaseRefusal
ranged_substation_row row d = do
  ms ← row_table lists.Substation ranged_substation_fields [] row d
  name ← required read_name lists.Substation row fields.Name ms
  earthing ← required ohm_within lists.Substation row fields.Ground ms
  tolerance ← required percent_within lists.Substation row fields.Tolerance ms
  Ok (substation_with name (Some earthing) (Some tolerance))

-- a row of the substations
unfoldable pub substation_row : Format → ℕ → Data → Result Substation CaseRefusal
substation_row format row d = if is_ranged format d then ranged_substation_row row d else plain_substation_row row d

-- a row of the buses
unfoldable pub bus_row : ℕ → Data → Result BusRow CaseRefusal
bus_row row d = do
  ms ← row_table lists.Bus bus_fields [] row d
  name ← required read_name lists.Bus row fields.Name ms
  substation ← required read_name lists.Bus row fields.Substation ms
  Ok (record { name = name; substation = substation })

-- a row of the lines through one zone
unfoldable pub plain_line_row : ℕ → Data → Result LineRow CaseRefusal
plain_line_row row d = do
  ms ← row_table lists.Line plain_line_fields (fields.Blocked ∷ []) row d
  name ← required read_name lists.Line row fields.Name ms
  from ← required read_name lists.Line row fields.From ms
  to ← required read_name lists.Line row fields.To ms
  zone ← required read_name lists.Line row fields.Zone ms
  resistance ← required ohm_within lists.Line row fields.Resistance ms
  north ← required metres_within lists.Line row fields.North ms
  east ← required metres_within lists.Line row fields.East ms
  blocked ← optional as_bool lists.Line row fields.Blocked ms
  Ok (record { name = name; from = from; to = to; course = written.One (record { zone = zone; north = north; east = east }); resistance = resistance; blocked = unwrap_or blocked false })

-- a row of the lines in parts
unfoldable pub parted_line_row : ℕ → Data → Result LineRow CaseRefusal
parted_line_row row d = do
  ms ← row_table lists.Line parted_line_fields (fields.Blocked ∷ []) row d
  name ← required read_name lists.Line row fields.Name ms
  from ← required read_name lists.Line row fields.From ms
  to ← required read_name lists.Line row fields.To ms
  resistance ← required ohm_within lists.Line row fields.Resistance ms
  blocked ← optional as_bool lists.Line row fields.Blocked ms
  several ← required read_parts lists.Line row fields.Part ms
  Ok (record { name = name; from = from; to = to; course = written.Several several; resistance = resistance; blocked = unwrap_or blocked false })

-- a row of the lines
unfoldable pub line_row : Format → ℕ → Data → Result LineRow CaseRefusal
line_row format row d = if is_parted format d then parted_line_row row d else plain_line_row row d

-- a table that has a field
unfoldable pub table_with : CaseList → Field → ℕ → Data → Result Members CaseRefusal
table_with list at row d = or_refuse (option_and_then (λ ms. if has at ms then Some ms else None) (as_table d)) (refusals.Key list row)

-- what a delta-wye unit has of its own
unfoldable pub delta_wye_row : ℕ → Members → Result (Kind (List ℕ)) CaseRefusal
delta_wye_row row ms = do
  high ← required read_name lists.Transformer row fields.High ms
  high_resistance ← required ohm_within lists.Transformer row fields.HighResistance ms
  Ok (kinds.DeltaWye high high_resistance)

-- a third winding
unfoldable pub third_row : ℕ → Members → Result (Third (List ℕ)) CaseRefusal
third_row row ms = do
  bus ← required read_name lists.Transformer row fields.Third ms
  volts ← required volts_within lists.Transformer row fields.ThirdVolts ms
  resistance ← required ohm_within lists.Transformer row fields.ThirdResistance ms
  Ok (record { bus = bus; volts = volts; resistance = resistance })

-- the same of a unit that has one
abbrev pub third_if : (with_third : Bool) → ℕ → Members → Result (Option (Third (List ℕ))) CaseRefusal
third_if with_third row ms = if with_third then third_row row ms >>= (λ t. Ok (Some t)) else Ok None

-- what a wye-wye unit has of its own, with a third winding or without
unfoldable pub wye_wye_row : (with_third : Bool) → ℕ → Members → Result (Kind (List ℕ)) CaseRefusal
wye_wye_row with_third row ms = do
  high ← required read_name lists.Transformer row fields.High ms
  low ← required read_name lists.Transformer row fields.Low ms
  low_volts ← required volts_within lists.Transformer row fields.LowVolts ms
  high_resistance ← required ohm_within lists.Transformer row fields.HighResistance ms
  low_resistance ← required ohm_within lists.Transformer row fields.LowResistance ms
  third ← third_if with_third row ms
  Ok (kinds.WyeWye high low low_volts high_resistance low_resistance third)

-- what an autotransformer has of its own, with a third winding or without
unfoldable pub auto_row : (with_third : Bool) → ℕ → Members → Result (Kind (List ℕ)) CaseRefusal
auto_row with_third row ms = do
  high ← required read_name lists.Transformer row fields.High ms
  low ← required read_name lists.Transformer row fields.Low ms
  low_volts ← required volts_within lists.Transformer row fields.LowVolts ms
  series_resistance ← required ohm_within lists.Transformer row fields.SeriesResistance ms
  common_resistance ← required ohm_within lists.Transformer row fields.CommonResistance ms
  third ← third_if with_third row ms
  Ok (kinds.Auto high low low_volts series_resistance common_resistance third)

-- what a reactor has of its own
unfoldable pub reactor_row : ℕ → Members → Result (Kind (List ℕ)) CaseRefusal
reactor_row row ms = do
  high ← required read_name lists.Transformer row fields.High ms
  high_resistance ← required ohm_within lists.Transformer row fields.HighResistance ms
  Ok (kinds.Reactor high high_resistance)

-- what a transformer of a kind has of its own
unfoldable pub kind_row : KindWord → ℕ → Members → Result (Kind (List ℕ)) CaseRefusal
kind_row words.DeltaWye row ms = delta_wye_row row ms
kind_row words.WyeWye row ms = wye_wye_row false row ms
kind_row words.Auto row ms = auto_row false row ms
kind_row words.WyeWyeWye row ms = wye_wye_row true row ms
kind_row words.AutoWye row ms = auto_row true row ms
kind_row words.Reactor row ms = reactor_row row ms
kind_row words.DeltaDelta row ms = Ok kinds.DeltaDelta

-- a row of the transformers
unfoldable pub transformer_row : Format → ℕ → Data → Result TransformerRow CaseRefusal
transformer_row format row d = do
  ms ← table_with lists.Transformer fields.Kind row d
  word ← required (read_kind format) lists.Transformer row fields.Kind ms
  keys ← test (fits (fields_of word) (others_of format word) ms) (refusals.Key lists.Transformer row)
  name ← required read_name lists.Transformer row fields.Name ms
  high_volts ← required volts_within lists.Transformer row fields.HighVolts ms
  kind ← kind_row word row ms
  neutral ← optional read_neutral lists.Transformer row fields.Neutral ms
  Ok (record { name = name; high_volts = high_volts; kind = kind; neutral = neutral })

-- the items of an array
abbrev pub items_or : CaseRefusal → Option Data → Result Items CaseRefusal
items_or e None = Ok no_items
items_or e (Some d) = or_refuse (as_array d) e

-- the items of a list of the document, none where it isn't there
unfoldable pub items_at : CaseList → Members → Result Items CaseRefusal
items_at list ms = items_or (refusals.Key list 0) (get_member (list_word list) ms)

-- how many items there are
abbrev pub count_of : Items → ℕ
count_of no_items = 0
count_of (item d ds) = suc (count_of ds)

-- the rows of the items, numbered from here on
abbrev pub rows_from : {A : Type 0} → (ℕ → Data → Result A CaseRefusal) → ℕ → Items → Result (List A) CaseRefusal
rows_from read row no_items = Ok []
rows_from read row (item d ds) = read row d >>= (λ x. rows_from read (row + 1) ds >>= (λ xs. Ok (x ∷ xs)))

-- a list with at most a given number of rows
unfoldable pub list_at : {A : Type 0} → CaseList → (limit : ℕ) → (ℕ → Data → Result A CaseRefusal) → Members → Result (List A) CaseRefusal
list_at list limit read ms = items_at list ms >>= (λ ds. if nat_lt limit (count_of ds) then Err (refusals.TooMany list) else rows_from read 1 ds)

-- the rows of all lists
unfoldable pub rows_of : Members → Result WrittenRows CaseRefusal
rows_of ms = do
  keys ← test (fits_document ms) (refusals.Key lists.Document 0)
  format ← required read_format lists.Document 0 fields.Format ms
  zones ← list_at lists.Zone (most_rows format lists.Zone) (zone_row format) ms
  substations ← list_at lists.Substation (most_rows format lists.Substation) (substation_row format) ms
  buses ← list_at lists.Bus (most_rows format lists.Bus) bus_row ms
  lines ← list_at lists.Line (most_rows format lists.Line) (line_row format) ms
  transformers ← list_at lists.Transformer (most_rows format lists.Transformer) (transformer_row format) ms
  Ok (record { zones = zones; substations = substations; buses = buses; lines = lines; transformers = transformers })

-- the refusal, if there is one
abbrev pub refuse_if : Option CaseRefusal → Result (Unit {0}) CaseRefusal
refuse_if None = Ok tt
refuse_if (Some e) = Err e

-- no name comes twice
unfoldable pub unique : WrittenRows → Result (Unit {0}) CaseRefusal
unique w = refuse_if (option_map (duplicate_at (length w.zones) (length w.substations) (length w.buses) (length w.lines)) (first_repeat (written_names w)))

-- each element of a list, numbered from here on
abbrev pub each : {A B : Type 0} → (ℕ → A → Result B CaseRefusal) → ℕ → List A → Result (List B) CaseRefusal
each f row [] = Ok []
each f row (x ∷ xs) = f row x >>= (λ y. each f (row + 1) xs >>= (λ ys. Ok (y ∷ ys)))

-- the place of a name that a field refers to
abbrev pub place_at : (List ℕ → Option ℕ) → CaseList → ℕ → Field → List ℕ → Result ℕ CaseRefusal
place_at place list row at name = or_refuse (place name) (refusals.Unknown list row at)

-- a bus, with the place of its substation
unfoldable pub bus_in : (substation : List ℕ → Option ℕ) → ℕ → BusRow → Result Bus CaseRefusal
bus_in substation row b = do
  place ← place_at substation lists.Bus row fields.Substation b.substation
  Ok (record { name = b.name; substation = place })

-- a part of a line, with the place of its zone, to which this field refers
abbrev pub part_in : (zone : List ℕ → Option ℕ) → ℕ → Field → PartRow → Result LinePart CaseRefusal
part_in zone row at part = place_at zone lists.Line row at part.zone >>= (λ place. Ok (record { zone = place; north = part.north; east = part.east }))

-- parts, with the places of their zones
abbrev pub parts_with : (zone : List ℕ → Option ℕ) → ℕ → List PartRow → Result (List LinePart) CaseRefusal
parts_with zone row [] = Ok []
parts_with zone row (part ∷ ps) = part_in zone row fields.Part part >>= (λ x. parts_with zone row ps >>= (λ xs. Ok (x ∷ xs)))

-- where a line leads, with the places of the zones
unfoldable pub course_in : (zone : List ℕ → Option ℕ) → ℕ → CourseRow → Result Course CaseRefusal
course_in zone row (written.One part) = part_in zone row fields.Zone part >>= (λ x. Ok (courses.One x))
course_in zone row (written.Several ps) = parts_with zone row ps >>= (λ xs. Ok (courses.Several xs))

-- a line, with the places of its buses and its zones
unfoldable pub line_in : (bus zone : List ℕ → Option ℕ) → ℕ → LineRow → Result Line CaseRefusal
line_in bus zone row l = do
  from ← place_at bus lists.Line row fields.From l.from
  to ← place_at bus lists.Line row fields.To l.to
  course ← course_in zone row l.course
  Ok (record { name = l.name; from = from; to = to; course = course; resistance = l.resistance; blocked = l.blocked })

-- the place of the bus of a side
abbrev pub side_at : (bus : List ℕ → Option ℕ) → ℕ → Field → List ℕ → Result ℕ CaseRefusal
side_at bus = place_at bus lists.Transformer

-- a third side, with the place of its bus
abbrev pub third_in : (bus : List ℕ → Option ℕ) → ℕ → Option (Third (List ℕ)) → Result (Option (Third ℕ)) CaseRefusal
third_in bus row None = Ok None
third_in bus row (Some t) = side_at bus row fields.Third t.bus >>= (λ place. Ok (Some (record { bus = place; volts = t.volts; resistance = t.resistance })))

-- a kind, with the places of its buses
unfoldable pub kind_in : (bus : List ℕ → Option ℕ) → ℕ → Kind (List ℕ) → Result (Kind ℕ) CaseRefusal
kind_in bus row (kinds.DeltaWye high high_resistance) = side_at bus row fields.High high >>= (λ h. Ok (kinds.DeltaWye h high_resistance))
kind_in bus row (kinds.WyeWye high low low_volts high_resistance low_resistance third) =
    side_at bus row fields.High high >>= (λ h. side_at bus row fields.Low low >>= (λ l. third_in bus row third >>= (λ t. Ok (kinds.WyeWye h l low_volts high_resistance low_resistance t))))
kind_in bus row (kinds.Auto high low low_volts series_resistance common_resistance third) =
    side_at bus row fields.High high >>= (λ h. side_at bus row fields.Low low >>= (λ l. third_in bus row third >>= (λ t. Ok (kinds.Auto h l low_volts series_resistance common_resistance t))))
kind_in bus row (kinds.Reactor high high_resistance) = side_at bus row fields.High high >>= (λ h. Ok (kinds.Reactor h high_resistance))
kind_in bus row kinds.DeltaDelta = Ok kinds.DeltaDelta

-- a transformer, with the places of its buses
unfoldable pub transformer_in : (bus : List ℕ → Option ℕ) → ℕ → TransformerRow → Result Transformer CaseRefusal
transformer_in bus row t = do
  kind ← kind_in bus row t.kind
  Ok (record { name = t.name; high_volts = t.high_volts; kind = kind; neutral = t.neutral })

-- the lists, with places in place of names
unfoldable pub resolve : WrittenRows → Result Lists CaseRefusal
resolve w = do
  buses ← each (bus_in (substation_place w)) 1 w.buses
  lines ← each (line_in (bus_place w) (zone_place w)) 1 w.lines
  transformers ← each (transformer_in (bus_place w)) 1 w.transformers
  Ok (record { zones = w.zones; substations = w.substations; buses = buses; lines = lines; transformers = transformers })

-- the case that a document is, or the first broken rule
unfoldable pub case_in : Members → Result Lists CaseRefusal
case_in ms = do
  w ← rows_of ms
  once ← unique w
  c ← resolve w
  lines ← settle (breaks_same_ends_from 1 c.lines) (tt {0})
  sides ← settle (breaks_same_sides_from 1 c.transformers) (tt {0})
  together ← settle (breaks_apart_from c.buses 1 c.transformers) (tt {0})
  ordered ← settle (breaks_voltage_order_from 1 c.transformers) (tt {0})
  few ← settle (breaks_degree c) (tt {0})
  Ok c
