-- The rules of single rows, each read by itself: the refusals that a row gives, in order; and the rows as they are written, with names in place of references.
use Rattle.std.specs.Prelude.{ℕ, ℤ, List, [], ◌∷◌, ◌++◌, Bool, ◌&&◌, if◌then◌else◌, Option, Some, None, option_map, unwrap_or, is_some, codes}
use Rattle.toml.specs.Data.{Data, Members, no_members, get_member, as_table, as_str}
use Rattle.gic_base.specs.Refusals.{unless}
use Rattle.gic_case.specs.ZoneView.{ZoneView}
use Rattle.gic_case.specs.declared.scaling.Scaling.TheVariants as scalings
use Rattle.gic_case.specs.Lists.{substation_with}
use Rattle.gic_case_reader.specs.Keys.{key_of, has, fits}
use Rattle.gic_case_reader.specs.Formats.{is_third}
use Rattle.gic_case.specs.Names.{same}
use Rattle.gic_case_reader.specs.Values.{natural_within, span_within, read_name, field_value}
use Rattle.gic_case_reader.specs.declared.field.Field.{Field}
use Rattle.gic_case_reader.specs.declared.field.Field.TheVariants as fields
use Rattle.gic_case_reader.specs.declared.format.Format.{Format}
use Rattle.gic_case.specs.declared.case_list.CaseList.{CaseList}
use Rattle.gic_case.specs.declared.case_list.CaseList.TheVariants as lists
use Rattle.gic_case_reader.specs.declared.refusal.CaseRefusal.{CaseRefusal}
use Rattle.gic_case_reader.specs.declared.refusal.CaseRefusal.TheVariants as refusals
use Rattle.gic_case.specs.declared.item.Substation.{Substation}
use Rattle.gic_case.specs.declared.item.Neutral.{Neutral}
use Rattle.gic_case.specs.declared.item.Neutral.TheVariants as devices
use Rattle.gic_case_reader.specs.declared.row.BusRow.{BusRow}

-- the members of a table, none of anything else
abbrev pub members_in : Data → Members
members_in d = unwrap_or (as_table d) no_members

-- a row is a table, has each required key, and has no key but these and the others
abbrev pub breaks_keys : CaseList → (required others : List Field) → ℕ → Data → List CaseRefusal
breaks_keys list required others row d = unless (is_some (as_table d) && fits required others (members_in d)) (refusals.Key list row)

-- a field has a value of its kind
abbrev pub breaks_value : {A : Type 0} → (Data → Option A) → CaseList → ℕ → Field → Members → List CaseRefusal
breaks_value read list row at ms = unless (is_some (field_value read at ms)) (refusals.Value list row at)

-- what is there is of its kind
abbrev pub breaks_present : {A : Type 0} → (Data → Option A) → CaseRefusal → Option Data → List CaseRefusal
breaks_present read refusal None = []
breaks_present read refusal (Some d) = unless (is_some (read d)) refusal

-- a field that may be absent has a value of its kind where it is there
abbrev pub breaks_optional : {A : Type 0} → (Data → Option A) → CaseList → ℕ → Field → Members → List CaseRefusal
breaks_optional read list row at ms = breaks_present read (refusals.Value list row at) (get_member (key_of at) ms)

-- a resistance in micro-ohm
abbrev pub ohm_within : Data → Option ℕ
ohm_within = natural_within 1000 1000000000

-- a part of a span, in metres
abbrev pub metres_within : Data → Option ℤ
metres_within = span_within 1000000

-- a rated voltage in V
abbrev pub volts_within : Data → Option ℕ
volts_within = natural_within 1000 2000000

-- the neutral device that a text tells, or a resistance where there is no text
unfoldable pub device_in : (text : Option (List ℕ)) → (ohm : Option ℕ) → Option Neutral
device_in None ohm = option_map devices.Resistor ohm
device_in (Some s) ohm = if same s (codes "blocked") then Some devices.Blocked else None

-- a neutral device: a resistance, or the string `blocked`
abbrev pub read_neutral : Data → Option Neutral
read_neutral d = device_in (as_str d) (ohm_within d)

-- the fields of a zone by its latitude and its earth
abbrev pub earth_zone_fields : List Field
earth_zone_fields = fields.Name ∷ fields.Latitude ∷ fields.Beta ∷ []

-- the fields of a zone by its scale
abbrev pub scaled_zone_fields : List Field
scaled_zone_fields = fields.Name ∷ fields.Scale ∷ []

-- a zone is told by its scale: in the third format, where the row has one
abbrev pub is_scaled : Format → Data → Bool
is_scaled format d = is_third format && has fields.Scale (members_in d)

-- a zone by its latitude and its earth has a name, a latitude in hundredths of a degree and a beta in hundredths
abbrev pub breaks_earth_zone : ℕ → Data → List CaseRefusal
breaks_earth_zone row d =
    let ms = members_in d in
    breaks_keys lists.Zone earth_zone_fields [] row d
    ++ (breaks_value read_name lists.Zone row fields.Name ms
    ++ (breaks_value (natural_within 0 9000) lists.Zone row fields.Latitude ms
    ++ breaks_value (natural_within 1 150) lists.Zone row fields.Beta ms))

-- a zone by its scale has a name, and the scale in thousandths
abbrev pub breaks_scaled_zone : ℕ → Data → List CaseRefusal
breaks_scaled_zone row d =
    let ms = members_in d in
    breaks_keys lists.Zone scaled_zone_fields [] row d
    ++ (breaks_value read_name lists.Zone row fields.Name ms
    ++ breaks_value (natural_within 1 1500) lists.Zone row fields.Scale ms)

-- a zone keeps the rules of a zone by its scale, or of one by its latitude and its earth
abbrev pub breaks_zone : Format → ℕ → Data → List CaseRefusal
breaks_zone format row d = if is_scaled format d then breaks_scaled_zone row d else breaks_earth_zone row d

-- the zone by its latitude and its earth that a row is; a field that breaks its rule counts as zero, here and below
abbrev pub earth_zone_of : Data → ZoneView
earth_zone_of d =
    let ms = members_in d in
    record {
      name = unwrap_or (field_value read_name fields.Name ms) [];
      scaling = scalings.Earth (unwrap_or (field_value (natural_within 0 9000) fields.Latitude ms) 0) (unwrap_or (field_value (natural_within 1 150) fields.Beta ms) 0);
    }

-- the zone by its scale that a row is
abbrev pub scaled_zone_of : Data → ZoneView
scaled_zone_of d =
    let ms = members_in d in
    record {
      name = unwrap_or (field_value read_name fields.Name ms) [];
      scaling = scalings.Factor (unwrap_or (field_value (natural_within 1 1500) fields.Scale ms) 0);
    }

-- the zone that a row is
abbrev pub zone_of : Format → Data → ZoneView
zone_of format d = if is_scaled format d then scaled_zone_of d else earth_zone_of d

-- the fields of a substation whose ground has a tolerance of its own
abbrev pub ranged_substation_fields : List Field
ranged_substation_fields = fields.Name ∷ fields.Ground ∷ fields.Tolerance ∷ []

-- a ground has a tolerance of its own: in the third format, where the row has one
abbrev pub is_ranged : Format → Data → Bool
is_ranged format d = is_third format && has fields.Tolerance (members_in d)

-- a tolerance in per cent
abbrev pub percent_within : Data → Option ℕ
percent_within = natural_within 0 90

-- a substation without a tolerance has a name, and perhaps an earthing
abbrev pub breaks_plain_substation : ℕ → Data → List CaseRefusal
breaks_plain_substation row d =
    let ms = members_in d in
    breaks_keys lists.Substation (fields.Name ∷ []) (fields.Ground ∷ []) row d
    ++ (breaks_value read_name lists.Substation row fields.Name ms
    ++ breaks_optional ohm_within lists.Substation row fields.Ground ms)

-- a substation with a tolerance has a name, an earthing, and the tolerance of that
abbrev pub breaks_ranged_substation : ℕ → Data → List CaseRefusal
breaks_ranged_substation row d =
    let ms = members_in d in
    breaks_keys lists.Substation ranged_substation_fields [] row d
    ++ (breaks_value read_name lists.Substation row fields.Name ms
    ++ (breaks_value ohm_within lists.Substation row fields.Ground ms
    ++ breaks_value percent_within lists.Substation row fields.Tolerance ms))

-- a substation keeps the rules of one with a tolerance, or of one without
abbrev pub breaks_substation : Format → ℕ → Data → List CaseRefusal
breaks_substation format row d = if is_ranged format d then breaks_ranged_substation row d else breaks_plain_substation row d

-- the substation without a tolerance that a row is
abbrev pub plain_substation_of : Data → Substation
plain_substation_of d =
    let ms = members_in d in
    substation_with (unwrap_or (field_value read_name fields.Name ms) []) (field_value ohm_within fields.Ground ms) None

-- the substation with a tolerance that a row is
abbrev pub ranged_substation_of : Data → Substation
ranged_substation_of d =
    let ms = members_in d in
    substation_with (unwrap_or (field_value read_name fields.Name ms) []) (Some (unwrap_or (field_value ohm_within fields.Ground ms) 0)) (Some (unwrap_or (field_value percent_within fields.Tolerance ms) 0))

-- the substation that a row is
abbrev pub substation_of : Format → Data → Substation
substation_of format d = if is_ranged format d then ranged_substation_of d else plain_substation_of d

-- the fields of a bus
abbrev pub bus_fields : List Field
bus_fields = fields.Name ∷ fields.Substation ∷ []

-- a bus has a name, and the name of a substation
abbrev pub breaks_bus : ℕ → Data → List CaseRefusal
breaks_bus row d =
    let ms = members_in d in
    breaks_keys lists.Bus bus_fields [] row d
    ++ (breaks_value read_name lists.Bus row fields.Name ms
    ++ breaks_value read_name lists.Bus row fields.Substation ms)

-- the bus that a row is
abbrev pub bus_of : Data → BusRow
bus_of d =
    let ms = members_in d in
    record {
      name = unwrap_or (field_value read_name fields.Name ms) [];
      substation = unwrap_or (field_value read_name fields.Substation ms) [];
    }
