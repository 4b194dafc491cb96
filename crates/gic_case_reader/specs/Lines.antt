-- The rules of a line's row, which leads through one zone, or in parts through several.
use Rattle.std.specs.Prelude.{ℕ, ℤ, pos, nat_le, List, [], ◌∷◌, ◌++◌, length, Bool, false, ◌&&◌, if◌then◌else◌, Option, Some, None, option_map, option_and_then, unwrap_or, unsigned_abs}
use Rattle.std.specs.List.{sum_by}
use Rattle.toml.specs.Data.{Data, Items, no_items, item, as_array, as_bool, as_table}
use Rattle.gic_base.specs.declared.limits.TheConstants.{MOST_PARTS}
use Rattle.gic_case_reader.specs.Keys.{has, fits}
use Rattle.gic_case_reader.specs.Formats.{is_third}
use Rattle.gic_case_reader.specs.Values.{read_name, field_value}
use Rattle.gic_case_reader.specs.Rows.{members_in, breaks_keys, breaks_value, breaks_optional, ohm_within, metres_within}
use Rattle.gic_case_reader.specs.declared.field.Field.{Field}
use Rattle.gic_case_reader.specs.declared.field.Field.TheVariants as fields
use Rattle.gic_case_reader.specs.declared.format.Format.{Format}
use Rattle.gic_case.specs.declared.case_list.CaseList.TheVariants as lists
use Rattle.gic_case_reader.specs.declared.refusal.CaseRefusal.{CaseRefusal}
use Rattle.gic_case_reader.specs.declared.part_row.PartRow.{PartRow}
use Rattle.gic_case_reader.specs.declared.row.CourseRow.TheVariants as courses
use Rattle.gic_case_reader.specs.declared.row.LineRow.{LineRow}

-- the fields of a line through one zone
abbrev pub plain_line_fields : List Field
plain_line_fields = fields.Name ∷ fields.From ∷ fields.To ∷ fields.Zone ∷ fields.Resistance ∷ fields.North ∷ fields.East ∷ []

-- the fields of a line in parts
abbrev pub parted_line_fields : List Field
parted_line_fields = fields.Name ∷ fields.From ∷ fields.To ∷ fields.Resistance ∷ fields.Part ∷ []

-- the fields of a part
abbrev pub part_fields : List Field
part_fields = fields.Zone ∷ fields.North ∷ fields.East ∷ []

-- a line is told in parts: in the third format, where the row has them
abbrev pub is_parted : Format → Data → Bool
is_parted format d = is_third format && has fields.Part (members_in d)

-- the part that these values make, where each is there
abbrev pub part_with : Option (List ℕ) → (north east : Option ℤ) → Option PartRow
part_with zone north east =
    option_and_then (λ z. option_and_then (λ n. option_map (λ e. record { zone = z; north = n; east = e }) east) north) zone

-- a table with exactly the name of a zone, and a span to the north and to the east
abbrev pub read_part : Data → Option PartRow
read_part d =
    option_and_then (λ ms. if fits part_fields [] ms then part_with (field_value read_name fields.Zone ms) (field_value metres_within fields.North ms) (field_value metres_within fields.East ms) else None) (as_table d)

-- the parts that items are, where each is one
abbrev pub parts_in : Items → Option (List PartRow)
parts_in no_items = Some []
parts_in (item d ds) = option_and_then (λ p. option_map (λ ps. p ∷ ps) (parts_in ds)) (read_part d)

-- how far parts lead to the north and to the south together, in metres
abbrev pub north_way : List PartRow → ℕ
north_way = sum_by (λ p. unsigned_abs p.north)

-- how far they lead to the east and to the west
abbrev pub east_way : List PartRow → ℕ
east_way = sum_by (λ p. unsigned_abs p.east)

-- they are at least two parts, and at most MOST_PARTS, and lead at most 1000000 metres to the north and to the south together, and as far to the east and to the west
abbrev pub are_parts : List PartRow → Bool
are_parts ps = nat_le 2 (length ps) && (nat_le (length ps) MOST_PARTS && (nat_le (north_way ps) 1000000 && nat_le (east_way ps) 1000000))

-- an array of parts
abbrev pub read_parts : Data → Option (List PartRow)
read_parts d = option_and_then (λ ps. if are_parts ps then Some ps else None) (option_and_then parts_in (as_array d))

-- a line through one zone has a name, the names of two buses and of the zone, a resistance, a span to the north and to the east, and perhaps whether it is blocked
abbrev pub breaks_plain_line : ℕ → Data → List CaseRefusal
breaks_plain_line row d =
    let ms = members_in d in
    breaks_keys lists.Line plain_line_fields (fields.Blocked ∷ []) row d
    ++ (breaks_value read_name lists.Line row fields.Name ms
    ++ (breaks_value read_name lists.Line row fields.From ms
    ++ (breaks_value read_name lists.Line row fields.To ms
    ++ (breaks_value read_name lists.Line row fields.Zone ms
    ++ (breaks_value ohm_within lists.Line row fields.Resistance ms
    ++ (breaks_value metres_within lists.Line row fields.North ms
    ++ (breaks_value metres_within lists.Line row fields.East ms
    ++ breaks_optional as_bool lists.Line row fields.Blocked ms)))))))

-- a line in parts has a name, the names of two buses, a resistance, perhaps whether it is blocked, and its parts
abbrev pub breaks_parted_line : ℕ → Data → List CaseRefusal
breaks_parted_line row d =
    let ms = members_in d in
    breaks_keys lists.Line parted_line_fields (fields.Blocked ∷ []) row d
    ++ (breaks_value read_name lists.Line row fields.Name ms
    ++ (breaks_value read_name lists.Line row fields.From ms
    ++ (breaks_value read_name lists.Line row fields.To ms
    ++ (breaks_value ohm_within lists.Line row fields.Resistance ms
    ++ (breaks_optional as_bool lists.Line row fields.Blocked ms
    ++ breaks_value read_parts lists.Line row fields.Part ms)))))

-- a line keeps the rules of a line in parts, or of one through one zone
abbrev pub breaks_line : Format → ℕ → Data → List CaseRefusal
breaks_line format row d = if is_parted format d then breaks_parted_line row d else breaks_plain_line row d

-- the line through one zone that a row is; one that doesn't say is not blocked
abbrev pub plain_line_of : Data → LineRow
plain_line_of d =
    let ms = members_in d in
    record {
      name = unwrap_or (field_value read_name fields.Name ms) [];
      from = unwrap_or (field_value read_name fields.From ms) [];
      to = unwrap_or (field_value read_name fields.To ms) [];
      course = courses.One (record {
        zone = unwrap_or (field_value read_name fields.Zone ms) [];
        north = unwrap_or (field_value metres_within fields.North ms) (pos 0);
        east = unwrap_or (field_value metres_within fields.East ms) (pos 0);
      });
      resistance = unwrap_or (field_value ohm_within fields.Resistance ms) 0;
      blocked = unwrap_or (field_value as_bool fields.Blocked ms) false;
    }

-- the line in parts that a row is
abbrev pub parted_line_of : Data → LineRow
parted_line_of d =
    let ms = members_in d in
    record {
      name = unwrap_or (field_value read_name fields.Name ms) [];
      from = unwrap_or (field_value read_name fields.From ms) [];
      to = unwrap_or (field_value read_name fields.To ms) [];
      course = courses.Several (unwrap_or (field_value read_parts fields.Part ms) []);
      resistance = unwrap_or (field_value ohm_within fields.Resistance ms) 0;
      blocked = unwrap_or (field_value as_bool fields.Blocked ms) false;
    }

-- the line that a row is
abbrev pub line_row_of : Format → Data → LineRow
line_row_of format d = if is_parted format d then parted_line_of d else plain_line_of d
