-- The values of a row that breaks no rule lie within their ranges.
use Rattle.std.proofs.Common.{◌≡◌, ℕ, ℤ, pos, negsuc, ◌+◌, ◌≤◌, ◌&&◌, nat_le, List, [], ◌∷◌, ◌++◌, length, Bool, true, false, cond, Ordering, Less, Equal, Greater, nat_cmp, Option, Some, None, option_and_then, option_map, unwrap_or, is_some, IfSome, arith, refl, sym, ap, ◌∙◌}
use Rattle.std.proofs.lemmas.Bool.{false≢true, and_parts}
use Rattle.std.proofs.lemmas.Bool.Decides.{nat_tests}
use Rattle.std.proofs.lemmas.Map.Lookups.{exact_bytes}
use Rattle.std.specs.Cmp.Lexicographic.{slice_cmp}
use Rattle.std.specs.Ordering.{match_ordering}
use Rattle.std.specs.Prelude.{unsigned_abs, IsTrue, codes, ◌||◌}
use Rattle.toml.specs.Data.{Data, Members, no_members, member, get_member, as_integer, as_bool, as_array, as_str, as_table}
use Rattle.gic_base.specs.Refusals.{unless}
use Rattle.gic_base.proofs.RefusalLaws.{none_of_both, unless_holds}
use Rattle.gic_base.specs.Name.{is_name}
use Rattle.gic_base.specs.declared.limits.TheConstants.{MOST_PARTS}
use Rattle.gic_case.specs.ZoneView.{IsZone}
use Rattle.gic_case_reader.specs.declared.refusal.CaseRefusal.{CaseRefusal}
use Rattle.gic_case_reader.specs.Keys.{key_of, is_key_of, has, has_only, has_all, fits}
use Rattle.gic_case.specs.Names.{same}
use Rattle.gic_case_reader.specs.Values.{whole_within, natural_within, near_zero, span_within, read_name, field_value}
use Rattle.gic_case_reader.specs.Rows.{members_in, breaks_keys, breaks_value, breaks_optional, ohm_within, metres_within, device_in, read_neutral, earth_zone_fields, scaled_zone_fields, is_scaled, breaks_earth_zone, breaks_scaled_zone, breaks_zone, earth_zone_of, scaled_zone_of, zone_of, ranged_substation_fields, is_ranged, percent_within, breaks_plain_substation, breaks_ranged_substation, breaks_substation, plain_substation_of, ranged_substation_of, substation_of, bus_fields, breaks_bus, bus_of}
use Rattle.gic_case_reader.specs.Lines.{plain_line_fields, parted_line_fields, is_parted, parts_in, north_way, east_way, are_parts, read_parts, breaks_plain_line, breaks_parted_line, breaks_line, plain_line_of, parted_line_of, line_row_of}
use Rattle.gic_case.specs.Sound.{IsResistance, IsRated, IsSoundSubstation, IsSoundDevice}
use Rattle.gic_case_reader.specs.Transformers.{read_kind, fields_of, others_of, kind_of, breaks_bus_name, breaks_ohm, breaks_volts, breaks_third, breaks_wye_wye, breaks_auto, breaks_one_winding, breaks_own, breaks_transformer, ohm_in, volts_in, third_told, wye_wye_in, auto_in, own_of, transformer_of}
use Rattle.gic_case_reader.specs.declared.field.Field.{Field}
use Rattle.gic_case_reader.specs.declared.field.Field.TheVariants as fields
use Rattle.gic_case_reader.specs.declared.format.Format.{Format}
use Rattle.gic_case.specs.declared.case_list.CaseList.{CaseList}
use Rattle.gic_case.specs.declared.case_list.CaseList.TheVariants as lists
use Rattle.gic_case_reader.specs.declared.refusal.CaseRefusal.TheVariants as refusals
use Rattle.gic_case.specs.declared.item.Neutral.{Neutral}
use Rattle.gic_case.specs.declared.item.Neutral.TheVariants as devices
use Rattle.gic_case_reader.specs.declared.part_row.PartRow.{PartRow}
use Rattle.gic_case_reader.specs.declared.row.CourseRow.{CourseRow}
use Rattle.gic_case_reader.specs.declared.row.CourseRow.TheVariants as courses
use Rattle.gic_case_reader.specs.declared.row.LineRow.{LineRow}
use Rattle.gic_case.specs.declared.kind.Third.{Third}
use Rattle.gic_case.specs.declared.kind.Kind.{Kind}
use Rattle.gic_case.specs.declared.kind.Kind.TheVariants as kinds
use Rattle.gic_case_reader.specs.declared.row.TransformerRow.{TransformerRow}
use Rattle.gic_case_reader.specs.declared.transformer.KindWord.{KindWord}
use Rattle.gic_case_reader.specs.declared.transformer.KindWord.TheVariants as words

pub few_of : (n limit : ℕ) → nat_le n limit ≡ true → n ≤ limit
few_of n limit h = grind (arith, nat_tests, h)

-- what holds of a value that is there holds of it where it is taken out
pub taken_holds : {A : Type 0} (P : A → Type 0) (o : Option A) (d : A) → is_some o ≡ true → IfSome o P → P (unwrap_or o d)
taken_holds P None d h all = absurd (false≢true h)
taken_holds P (Some x) d h all = all

if_within : (low high n : ℕ) (b : Bool) → (nat_le low n && nat_le n high) ≡ b → IfSome (cond b (Some n) None) (λ k. (low ≤ k) × (k ≤ high))
if_within low high n false h = tt
if_within low high n true h =
    let (least, most) = and_parts (nat_le low n) (nat_le n high) h in
    (few_of low n least, few_of n high most)

whole_holds : (low high : ℕ) (z : ℤ) → IfSome (whole_within low high z) (λ k. (low ≤ k) × (k ≤ high))
whole_holds low high (pos n) = if_within low high n (nat_le low n && nat_le n high) refl
whole_holds low high (negsuc n) = tt

then_holds : {A B : Type 0} (P : B → Type 0) (f : A → Option B) → ((x : A) → IfSome (f x) P) → (o : Option A) → IfSome (option_and_then f o) P
then_holds P f law None = tt
then_holds P f law (Some x) = law x

-- a number is within its bounds
pub natural_holds : (low high : ℕ) (at : Field) (ms : Members) → IfSome (field_value (natural_within low high) at ms) (λ k. (low ≤ k) × (k ≤ high))
natural_holds low high at ms =
    then_holds _ (natural_within low high) (λ d. then_holds _ (whole_within low high) (whole_holds low high) (as_integer d)) (get_member (key_of at) ms)

if_near : (limit : ℕ) (z : ℤ) (b : Bool) → nat_le (unsigned_abs z) limit ≡ b → IfSome (cond b (Some z) None) (λ x. unsigned_abs x ≤ limit)
if_near limit z false h = tt
if_near limit z true h = few_of (unsigned_abs z) limit h

-- and a span within its own
span_holds : (limit : ℕ) (at : Field) (ms : Members) → IfSome (field_value (span_within limit) at ms) (λ x. unsigned_abs x ≤ limit)
span_holds limit at ms =
    then_holds _ (span_within limit) (λ d. then_holds _ (near_zero limit) (λ z. if_near limit z (nat_le (unsigned_abs z) limit) refl) (as_integer d)) (get_member (key_of at) ms)

natural_taken : (low high : ℕ) (list : CaseList) (row : ℕ) (at : Field) (ms : Members) → breaks_value (natural_within low high) list row at ms ≡ []
    → (low ≤ unwrap_or (field_value (natural_within low high) at ms) 0) × (unwrap_or (field_value (natural_within low high) at ms) 0 ≤ high)
natural_taken low high list row at ms h =
    taken_holds (λ k. (low ≤ k) × (k ≤ high)) (field_value (natural_within low high) at ms) 0 (unless_holds _ (refusals.Value list row at) h) (natural_holds low high at ms)

span_taken : (limit : ℕ) (list : CaseList) (row : ℕ) (at : Field) (ms : Members) → breaks_value (span_within limit) list row at ms ≡ []
    → unsigned_abs (unwrap_or (field_value (span_within limit) at ms) (pos 0)) ≤ limit
span_taken limit list row at ms h =
    taken_holds (λ x. unsigned_abs x ≤ limit) (field_value (span_within limit) at ms) (pos 0) (unless_holds _ (refusals.Value list row at) h) (span_holds limit at ms)

if_name : (text : List ℕ) (b : Bool) → is_name text ≡ b → IfSome (cond b (Some text) None) (λ s. IsTrue (is_name s))
if_name text false h = tt
if_name text true h = h

name_holds : (at : Field) (ms : Members) → IfSome (field_value read_name at ms) (λ s. IsTrue (is_name s))
name_holds at ms =
    then_holds _ read_name (λ d. then_holds _ (λ text. cond (is_name text) (Some text) None) (λ text. if_name text (is_name text) refl) (as_str d)) (get_member (key_of at) ms)

name_taken : (list : CaseList) (row : ℕ) (at : Field) (ms : Members) → breaks_value read_name list row at ms ≡ [] → IsTrue (is_name (unwrap_or (field_value read_name at ms) []))
name_taken list row at ms h = taken_holds (λ s. IsTrue (is_name s)) (field_value read_name at ms) [] (unless_holds _ (refusals.Value list row at) h) (name_holds at ms)

-- the name of a row, which follows its keys
first_name : (list : CaseList) (needed others : List Field) (row : ℕ) (d : Data) (rest : List CaseRefusal)
    → breaks_keys list needed others row d ++ (breaks_value read_name list row fields.Name (members_in d) ++ rest) ≡ []
    → IsTrue (is_name (unwrap_or (field_value read_name fields.Name (members_in d)) []))
first_name list needed others row d rest h =
    let name = breaks_value read_name list row fields.Name (members_in d) in
    let keys = none_of_both (breaks_keys list needed others row d) (name ++ rest) h in
    name_taken list row fields.Name (members_in d) (none_of_both name rest keys.1).0

-- what rows that are read in one of two ways have in either
either_holds : {A : Type 0} (P : A → Type 0) (b : Bool) (es fs : List CaseRefusal) (x y : A) → (es ≡ [] → P x) → (fs ≡ [] → P y) → cond b es fs ≡ [] → P (cond b x y)
either_holds P true es fs x y one other h = one h
either_holds P false es fs x y one other h = other h

pub zone_named : (format : Format) (row : ℕ) (d : Data) → breaks_zone format row d ≡ [] → IsTrue (is_name (zone_of format d).name)
zone_named format row d h =
    either_holds (λ z. IsTrue (is_name z.name)) (is_scaled format d) (breaks_scaled_zone row d) (breaks_earth_zone row d) (scaled_zone_of d) (earth_zone_of d)
    (λ none. first_name lists.Zone scaled_zone_fields [] row d _ none) (λ none. first_name lists.Zone earth_zone_fields [] row d _ none) h

pub substation_named : (format : Format) (row : ℕ) (d : Data) → breaks_substation format row d ≡ [] → IsTrue (is_name (substation_of format d).name)
substation_named format row d h =
    either_holds (λ s. IsTrue (is_name s.name)) (is_ranged format d) (breaks_ranged_substation row d) (breaks_plain_substation row d) (ranged_substation_of d) (plain_substation_of d)
    (λ none. first_name lists.Substation ranged_substation_fields [] row d _ none) (λ none. first_name lists.Substation (fields.Name ∷ []) (fields.Ground ∷ []) row d _ none) h

pub bus_named : (row : ℕ) (d : Data) → breaks_bus row d ≡ [] → IsTrue (is_name (bus_of d).name)
bus_named row d h = first_name lists.Bus bus_fields [] row d _ h

pub line_named : (format : Format) (row : ℕ) (d : Data) → breaks_line format row d ≡ [] → IsTrue (is_name (line_row_of format d).name)
line_named format row d h =
    either_holds (λ l. IsTrue (is_name l.name)) (is_parted format d) (breaks_parted_line row d) (breaks_plain_line row d) (parted_line_of d) (plain_line_of d)
    (λ none. first_name lists.Line parted_line_fields (fields.Blocked ∷ []) row d _ none) (λ none. first_name lists.Line plain_line_fields (fields.Blocked ∷ []) row d _ none) h

earth_zone_measured : (row : ℕ) (d : Data) → breaks_earth_zone row d ≡ [] → IsZone (earth_zone_of d)
earth_zone_measured row d h =
    let ms = members_in d in
    let list = lists.Zone in
    let keys = none_of_both (breaks_keys list earth_zone_fields [] row d) _ h in
    let name = none_of_both (breaks_value read_name list row fields.Name ms) _ keys.1 in
    let numbers = none_of_both (breaks_value (natural_within 0 9000) list row fields.Latitude ms) (breaks_value (natural_within 1 150) list row fields.Beta ms) name.1 in
    let latitude = natural_taken 0 9000 list row fields.Latitude ms numbers.0 in
    let beta = natural_taken 1 150 list row fields.Beta ms numbers.1 in
    (latitude.1, beta.0, beta.1)

scaled_zone_measured : (row : ℕ) (d : Data) → breaks_scaled_zone row d ≡ [] → IsZone (scaled_zone_of d)
scaled_zone_measured row d h =
    let ms = members_in d in
    let list = lists.Zone in
    let keys = none_of_both (breaks_keys list scaled_zone_fields [] row d) _ h in
    let values = none_of_both (breaks_value read_name list row fields.Name ms) (breaks_value (natural_within 1 1500) list row fields.Scale ms) keys.1 in
    natural_taken 1 1500 list row fields.Scale ms values.1

-- the ranges of a zone
pub zone_measured : (format : Format) (row : ℕ) (d : Data) → breaks_zone format row d ≡ [] → IsZone (zone_of format d)
zone_measured format row d h =
    either_holds IsZone (is_scaled format d) (breaks_scaled_zone row d) (breaks_earth_zone row d) (scaled_zone_of d) (earth_zone_of d) (scaled_zone_measured row d) (earth_zone_measured row d) h

plain_substation_measured : (row : ℕ) (d : Data) → breaks_plain_substation row d ≡ [] → IsSoundSubstation (plain_substation_of d)
plain_substation_measured row d h = record {
  ohm = natural_holds 1000 1000000000 fields.Ground (members_in d);
  tolerance_most = tt;
  tolerance_of_ground = λ own. absurd (false≢true own);
}

ranged_substation_measured : (row : ℕ) (d : Data) → breaks_ranged_substation row d ≡ [] → IsSoundSubstation (ranged_substation_of d)
ranged_substation_measured row d h =
    let ms = members_in d in
    let list = lists.Substation in
    let keys = none_of_both (breaks_keys list ranged_substation_fields [] row d) _ h in
    let name = none_of_both (breaks_value read_name list row fields.Name ms) _ keys.1 in
    let numbers = none_of_both (breaks_value ohm_within list row fields.Ground ms) (breaks_value percent_within list row fields.Tolerance ms) name.1 in
    record {
      ohm = natural_taken 1000 1000000000 list row fields.Ground ms numbers.0;
      tolerance_most = (natural_taken 0 90 list row fields.Tolerance ms numbers.1).1;
      tolerance_of_ground = λ own. refl;
    }

-- the ranges of a substation
pub substation_measured : (format : Format) (row : ℕ) (d : Data) → breaks_substation format row d ≡ [] → IsSoundSubstation (substation_of format d)
substation_measured format row d h =
    either_holds IsSoundSubstation (is_ranged format d) (breaks_ranged_substation row d) (breaks_plain_substation row d) (ranged_substation_of d) (plain_substation_of d) (ranged_substation_measured row d) (plain_substation_measured row d) h

-- the parts of a course as it is written
abbrev pub written_parts : CourseRow → List PartRow
written_parts (courses.One part) = part ∷ []
written_parts (courses.Several ps) = ps

-- where there are several, there are at least two, and at most MOST_PARTS
abbrev pub AreFewWritten : CourseRow → Type 0
AreFewWritten (courses.One part) = Unit {0}
AreFewWritten (courses.Several ps) = (2 ≤ length ps) × (length ps ≤ MOST_PARTS)

-- the ranges of a line
pub record IsMeasured (l : LineRow) : Type 0 where
  pub resistance : (1000 ≤ l.resistance) × (l.resistance ≤ 1000000000)
  pub few : AreFewWritten l.course
  pub north : north_way (written_parts l.course) ≤ 1000000
  pub east : east_way (written_parts l.course) ≤ 1000000

-- the way of one part
one_way : (n : ℕ) → n ≤ 1000000 → 0 + n ≤ 1000000
one_way n h = omega (arith, h)

plain_line_measured : (row : ℕ) (d : Data) → breaks_plain_line row d ≡ [] → IsMeasured (plain_line_of d)
plain_line_measured row d h =
    let ms = members_in d in
    let list = lists.Line in
    let keys = none_of_both (breaks_keys list plain_line_fields (fields.Blocked ∷ []) row d) _ h in
    let name = none_of_both (breaks_value read_name list row fields.Name ms) _ keys.1 in
    let from = none_of_both (breaks_value read_name list row fields.From ms) _ name.1 in
    let to = none_of_both (breaks_value read_name list row fields.To ms) _ from.1 in
    let zone = none_of_both (breaks_value read_name list row fields.Zone ms) _ to.1 in
    let resistance = none_of_both (breaks_value ohm_within list row fields.Resistance ms) _ zone.1 in
    let north = none_of_both (breaks_value metres_within list row fields.North ms) _ resistance.1 in
    let east = none_of_both (breaks_value metres_within list row fields.East ms) (breaks_optional as_bool list row fields.Blocked ms) north.1 in
    record {
      resistance = natural_taken 1000 1000000000 list row fields.Resistance ms resistance.0;
      few = tt;
      north = one_way _ (span_taken 1000000 list row fields.North ms north.0);
      east = one_way _ (span_taken 1000000 list row fields.East ms east.0);
    }

if_parts : (ps : List PartRow) (b : Bool) → are_parts ps ≡ b → IfSome (cond b (Some ps) None) (λ qs. are_parts qs ≡ true)
if_parts ps false h = tt
if_parts ps true h = h

parts_hold : (ms : Members) → IfSome (field_value read_parts fields.Part ms) (λ ps. are_parts ps ≡ true)
parts_hold ms =
    then_holds _ read_parts (λ d. then_holds _ (λ ps. cond (are_parts ps) (Some ps) None) (λ ps. if_parts ps (are_parts ps) refl) (option_and_then parts_in (as_array d))) (get_member (key_of fields.Part) ms)

parts_taken : (row : ℕ) (ms : Members) → breaks_value read_parts lists.Line row fields.Part ms ≡ [] → are_parts (unwrap_or (field_value read_parts fields.Part ms) []) ≡ true
parts_taken row ms h = taken_holds (λ ps. are_parts ps ≡ true) (field_value read_parts fields.Part ms) [] (unless_holds _ (refusals.Value lists.Line row fields.Part) h) (parts_hold ms)

parted_line_measured : (row : ℕ) (d : Data) → breaks_parted_line row d ≡ [] → IsMeasured (parted_line_of d)
parted_line_measured row d h =
    let ms = members_in d in
    let list = lists.Line in
    let ps = unwrap_or (field_value read_parts fields.Part ms) [] in
    let keys = none_of_both (breaks_keys list parted_line_fields (fields.Blocked ∷ []) row d) _ h in
    let name = none_of_both (breaks_value read_name list row fields.Name ms) _ keys.1 in
    let from = none_of_both (breaks_value read_name list row fields.From ms) _ name.1 in
    let to = none_of_both (breaks_value read_name list row fields.To ms) _ from.1 in
    let resistance = none_of_both (breaks_value ohm_within list row fields.Resistance ms) _ to.1 in
    let several = none_of_both (breaks_optional as_bool list row fields.Blocked ms) (breaks_value read_parts list row fields.Part ms) resistance.1 in
    let two = and_parts (nat_le 2 (length ps)) (nat_le (length ps) MOST_PARTS && (nat_le (north_way ps) 1000000 && nat_le (east_way ps) 1000000)) (parts_taken row ms several.1) in
    let most = and_parts (nat_le (length ps) MOST_PARTS) (nat_le (north_way ps) 1000000 && nat_le (east_way ps) 1000000) two.1 in
    let ways = and_parts (nat_le (north_way ps) 1000000) (nat_le (east_way ps) 1000000) most.1 in
    record {
      resistance = natural_taken 1000 1000000000 list row fields.Resistance ms resistance.0;
      few = (few_of 2 (length ps) two.0, few_of (length ps) MOST_PARTS most.0);
      north = few_of (north_way ps) 1000000 ways.0;
      east = few_of (east_way ps) 1000000 ways.1;
    }

pub line_measured : (format : Format) (row : ℕ) (d : Data) → breaks_line format row d ≡ [] → IsMeasured (line_row_of format d)
line_measured format row d h =
    either_holds IsMeasured (is_parted format d) (breaks_parted_line row d) (breaks_plain_line row d) (parted_line_of d) (plain_line_of d) (parted_line_measured row d) (plain_line_measured row d) h

-- the ranges of a third winding
abbrev pub IsMeasuredThird : Third (List ℕ) → Type 0
IsMeasuredThird t = IsRated t.volts × IsResistance t.resistance

-- the ranges of what a kind has of its own
abbrev pub IsMeasuredKind : Kind (List ℕ) → Type 0
IsMeasuredKind (kinds.DeltaWye high high_resistance) = IsResistance high_resistance
IsMeasuredKind (kinds.WyeWye high low low_volts high_resistance low_resistance third) = IsRated low_volts × (IsResistance high_resistance × IsResistance low_resistance) × IfSome third IsMeasuredThird
IsMeasuredKind (kinds.Auto high low low_volts series_resistance common_resistance third) = IsRated low_volts × (IsResistance series_resistance × IsResistance common_resistance) × IfSome third IsMeasuredThird
IsMeasuredKind (kinds.Reactor high high_resistance) = IsResistance high_resistance
IsMeasuredKind kinds.DeltaDelta = Unit {0}

-- a delta-delta unit has no neutral device
abbrev pub HasPlaceFor : Kind (List ℕ) → Option Neutral → Type 0
HasPlaceFor (kinds.DeltaWye high high_resistance) neutral = Unit {0}
HasPlaceFor (kinds.WyeWye high low low_volts high_resistance low_resistance third) neutral = Unit {0}
HasPlaceFor (kinds.Auto high low low_volts series_resistance common_resistance third) neutral = Unit {0}
HasPlaceFor (kinds.Reactor high high_resistance) neutral = Unit {0}
HasPlaceFor kinds.DeltaDelta neutral = neutral ≡ None

-- the ranges of a transformer
pub record IsMeasuredTransformer (t : TransformerRow) : Type 0 where
  pub rated : IsRated t.high_volts
  pub kind : IsMeasuredKind t.kind
  pub device : IfSome t.neutral IsSoundDevice
  pub place : HasPlaceFor t.kind t.neutral

ohm_taken : (row : ℕ) (at : Field) (ms : Members) → breaks_ohm row at ms ≡ [] → IsResistance (ohm_in at ms)
ohm_taken row at ms h = natural_taken 1000 1000000000 lists.Transformer row at ms h

volts_taken : (row : ℕ) (at : Field) (ms : Members) → breaks_volts row at ms ≡ [] → IsRated (volts_in at ms)
volts_taken row at ms h = natural_taken 1000 2000000 lists.Transformer row at ms h

one_winding_measured : (row : ℕ) (ms : Members) → breaks_one_winding row ms ≡ [] → IsResistance (ohm_in fields.HighResistance ms)
one_winding_measured row ms h = ohm_taken row fields.HighResistance ms (none_of_both (breaks_bus_name row fields.High ms) (breaks_ohm row fields.HighResistance ms) h).1

third_measured : (with_third : Bool) (row : ℕ) (ms : Members) → breaks_third with_third row ms ≡ [] → IfSome (third_told with_third ms) IsMeasuredThird
third_measured false row ms h = tt
third_measured true row ms h =
    let bus = none_of_both (breaks_bus_name row fields.Third ms) _ h in
    let values = none_of_both (breaks_volts row fields.ThirdVolts ms) (breaks_ohm row fields.ThirdResistance ms) bus.1 in
    (volts_taken row fields.ThirdVolts ms values.0, ohm_taken row fields.ThirdResistance ms values.1)

wye_wye_measured : (with_third : Bool) (row : ℕ) (ms : Members) → breaks_wye_wye with_third row ms ≡ [] → IsMeasuredKind (wye_wye_in with_third ms)
wye_wye_measured with_third row ms h =
    let high = none_of_both (breaks_bus_name row fields.High ms) _ h in
    let low = none_of_both (breaks_bus_name row fields.Low ms) _ high.1 in
    let volts = none_of_both (breaks_volts row fields.LowVolts ms) _ low.1 in
    let one = none_of_both (breaks_ohm row fields.HighResistance ms) _ volts.1 in
    let two = none_of_both (breaks_ohm row fields.LowResistance ms) (breaks_third with_third row ms) one.1 in
    (volts_taken row fields.LowVolts ms volts.0, (ohm_taken row fields.HighResistance ms one.0, ohm_taken row fields.LowResistance ms two.0), third_measured with_third row ms two.1)

auto_measured : (with_third : Bool) (row : ℕ) (ms : Members) → breaks_auto with_third row ms ≡ [] → IsMeasuredKind (auto_in with_third ms)
auto_measured with_third row ms h =
    let high = none_of_both (breaks_bus_name row fields.High ms) _ h in
    let low = none_of_both (breaks_bus_name row fields.Low ms) _ high.1 in
    let volts = none_of_both (breaks_volts row fields.LowVolts ms) _ low.1 in
    let one = none_of_both (breaks_ohm row fields.SeriesResistance ms) _ volts.1 in
    let two = none_of_both (breaks_ohm row fields.CommonResistance ms) (breaks_third with_third row ms) one.1 in
    (volts_taken row fields.LowVolts ms volts.0, (ohm_taken row fields.SeriesResistance ms one.0, ohm_taken row fields.CommonResistance ms two.0), third_measured with_third row ms two.1)

own_measured : (word : KindWord) (row : ℕ) (ms : Members) → breaks_own word row ms ≡ [] → IsMeasuredKind (own_of word ms)
own_measured words.DeltaWye row ms h = one_winding_measured row ms h
own_measured words.WyeWye row ms h = wye_wye_measured false row ms h
own_measured words.Auto row ms h = auto_measured false row ms h
own_measured words.WyeWyeWye row ms h = wye_wye_measured true row ms h
own_measured words.AutoWye row ms h = auto_measured true row ms h
own_measured words.Reactor row ms h = one_winding_measured row ms h
own_measured words.DeltaDelta row ms h = tt

if_blocked : (b : Bool) → IfSome (cond b (Some devices.Blocked) None) IsSoundDevice
if_blocked true = tt
if_blocked false = tt

resistor_sound : (o : Option ℕ) → IfSome o IsResistance → IfSome (option_map devices.Resistor o) IsSoundDevice
resistor_sound None h = tt
resistor_sound (Some ohm) h = h

device_in_sound : (text : Option (List ℕ)) (ohm : Option ℕ) → IfSome ohm IsResistance → IfSome (device_in text ohm) IsSoundDevice
unfolding device_in
device_in_sound None ohm h = resistor_sound ohm h
device_in_sound (Some s) ohm h = if_blocked (same s (codes "blocked"))

-- a neutral resistor is within its range
device_sound : (ms : Members) → IfSome (field_value read_neutral fields.Neutral ms) IsSoundDevice
device_sound ms =
    then_holds _ read_neutral (λ d. device_in_sound (as_str d) (ohm_within d) (then_holds _ (whole_within 1000 1000000000) (whole_holds 1000 1000000000) (as_integer d))) (get_member (key_of fields.Neutral) ms)

other_key : (allowed : List ℕ → Bool) (k l : List ℕ) (d : Data) (found : Option Data) (o : Ordering) → slice_cmp nat_cmp k l ≡ o
    → allowed k ≡ false → allowed l ≡ true → found ≡ None → match_ordering o found (Some d) found ≡ None
other_key allowed k l d found Less order out here none = none
other_key allowed k l d found Equal order out here none = absurd (false≢true (sym out ∙ ap allowed (exact_bytes k l order) ∙ here))
other_key allowed k l d found Greater order out here none = none

-- a key that is not allowed is not there
absent : (allowed : List ℕ → Bool) (k : List ℕ) (ms : Members) → allowed k ≡ false → has_only allowed ms ≡ true → get_member k ms ≡ None
absent allowed k no_members out only = refl
absent allowed k (member l d ms) out only =
    let parts = and_parts (allowed l) (has_only allowed ms) only in
    other_key allowed k l d (get_member k ms) (slice_cmp nat_cmp k l) refl out parts.0 (absent allowed k ms out parts.1)

device_place : (format : Format) (word : KindWord) (ms : Members) → fits (fields_of word) (others_of format word) ms ≡ true
    → HasPlaceFor (own_of word ms) (field_value read_neutral fields.Neutral ms)
unfolding is_key_of
device_place format words.DeltaWye ms h = tt
device_place format words.WyeWye ms h = tt
device_place format words.Auto ms h = tt
device_place format words.WyeWyeWye ms h = tt
device_place format words.AutoWye ms h = tt
device_place format words.Reactor ms h = tt
device_place format words.DeltaDelta ms h =
    let required = fields_of words.DeltaDelta in
    let only = and_parts (has_only (λ k. is_key_of required k || is_key_of [] k) ms) (has_all required ms) h in
    ap (option_and_then read_neutral) (absent (λ k. is_key_of required k || is_key_of [] k) (key_of fields.Neutral) ms refl only.0)

-- what each rule of a transformer that breaks none gives
record IsKept (format : Format) (row : ℕ) (ms : Members) : Type 0 where
  keys : fits (fields_of (kind_of format ms)) (others_of format (kind_of format ms)) ms ≡ true
  name : breaks_value read_name lists.Transformer row fields.Name ms ≡ []
  volts : breaks_volts row fields.HighVolts ms ≡ []
  own : breaks_own (kind_of format ms) row ms ≡ []

kept : (format : Format) (row : ℕ) (d : Data) → breaks_transformer format row d ≡ [] → IsKept format row (members_in d)
kept format row d h =
    let ms = members_in d in
    let kind = kind_of format ms in
    let table = none_of_both (unless (is_some (as_table d) && has fields.Kind ms) (refusals.Key lists.Transformer row)) _ h in
    let word = none_of_both (breaks_value (read_kind format) lists.Transformer row fields.Kind ms) _ table.1 in
    let keys = none_of_both (unless (fits (fields_of kind) (others_of format kind) ms) (refusals.Key lists.Transformer row)) _ word.1 in
    let name = none_of_both (breaks_value read_name lists.Transformer row fields.Name ms) _ keys.1 in
    let volts = none_of_both (breaks_volts row fields.HighVolts ms) _ name.1 in
    let own = none_of_both (breaks_own kind row ms) (breaks_optional read_neutral lists.Transformer row fields.Neutral ms) volts.1 in
    record {
      keys = unless_holds _ (refusals.Key lists.Transformer row) keys.0;
      name = name.0;
      volts = volts.0;
      own = own.0;
    }

pub transformer_named : (format : Format) (row : ℕ) (d : Data) → breaks_transformer format row d ≡ [] → IsTrue (is_name (transformer_of format d).name)
transformer_named format row d h = name_taken lists.Transformer row fields.Name (members_in d) (kept format row d h).name

pub transformer_measured : (format : Format) (row : ℕ) (d : Data) → breaks_transformer format row d ≡ [] → IsMeasuredTransformer (transformer_of format d)
transformer_measured format row d h =
    let ms = members_in d in
    let rules = kept format row d h in
    record {
      rated = volts_taken row fields.HighVolts ms rules.volts;
      kind = own_measured (kind_of format ms) row ms rules.own;
      device = device_sound ms;
      place = device_place format (kind_of format ms) ms rules.keys;
    }
