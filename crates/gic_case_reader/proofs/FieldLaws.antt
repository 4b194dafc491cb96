-- One pass over a row answers the first refusal of the row's rules.
use Rattle.std.proofs.Common.{◌≡◌, ℕ, List, [], ◌∷◌, ◌++◌, Bool, true, false, ◌&&◌, cond, Option, Some, None, option_and_then, unwrap_or, is_some, Result, Ok, pos, refl}
use Rattle.toml.specs.Data.{Data, Members, no_members, get_member, as_table, as_bool}
use Rattle.gic_base.specs.Refusals.{unless, settle}
use Rattle.gic_base.specs.Passes.{◌>>=◌, or_refuse}
use Rattle.gic_base.proofs.RefusalLaws.{then_law, last_law, value_law, test_law}
use Rattle.gic_case_reader.specs.Keys.{key_of, has, fits}
use Rattle.gic_case_reader.specs.Values.{natural_within, read_name, field_value}
use Rattle.gic_case_reader.specs.Rows.{members_in, breaks_keys, breaks_value, breaks_present, breaks_optional, ohm_within, volts_within, metres_within, read_neutral, earth_zone_fields, scaled_zone_fields, is_scaled, breaks_earth_zone, breaks_scaled_zone, breaks_zone, earth_zone_of, scaled_zone_of, zone_of, ranged_substation_fields, is_ranged, breaks_plain_substation, breaks_ranged_substation, breaks_substation, plain_substation_of, ranged_substation_of, substation_of, bus_fields, breaks_bus, bus_of}
use Rattle.gic_case_reader.specs.Lines.{plain_line_fields, parted_line_fields, is_parted, read_parts, breaks_plain_line, breaks_parted_line, breaks_line, plain_line_of, parted_line_of, line_row_of}
use Rattle.gic_case_reader.specs.Transformers.{read_kind, kind_of, breaks_bus_name, breaks_ohm, breaks_volts, breaks_third, breaks_wye_wye, breaks_auto, breaks_own, breaks_transformer, name_in, ohm_in, volts_in, third_told, wye_wye_in, auto_in, own_of, transformer_of}
use Rattle.gic_case_reader.specs.Pass.{required, optional_in, optional, row_table, earth_zone_row, scaled_zone_row, zone_row, plain_substation_row, ranged_substation_row, substation_row, bus_row, plain_line_row, parted_line_row, line_row, table_with, delta_wye_row, third_row, third_if, wye_wye_row, auto_row, reactor_row, kind_row, transformer_row}
use Rattle.gic_case_reader.specs.declared.field.Field.{Field}
use Rattle.gic_case_reader.specs.declared.field.Field.TheVariants as fields
use Rattle.gic_case_reader.specs.declared.format.Format.{Format}
use Rattle.gic_case.specs.declared.case_list.CaseList.{CaseList}
use Rattle.gic_case.specs.declared.case_list.CaseList.TheVariants as lists
use Rattle.gic_case_reader.specs.declared.refusal.CaseRefusal.{CaseRefusal}
use Rattle.gic_case_reader.specs.declared.refusal.CaseRefusal.TheVariants as refusals
use Rattle.gic_case_reader.specs.declared.transformer.KindWord.{KindWord}
use Rattle.gic_case_reader.specs.declared.transformer.KindWord.TheVariants as words

-- a field
pub required_law : {A : Type 0} (read : Data → Option A) (list : CaseList) (row : ℕ) (at : Field) (ms : Members) (d : A)
    → required read list row at ms ≡ settle (breaks_value read list row at ms) (unwrap_or (field_value read at ms) d)
unfolding required
required_law read list row at ms d = value_law (field_value read at ms) (refusals.Value list row at) d

present_value : {A : Type 0} (o : Option A) (e : CaseRefusal) → (or_refuse o e >>= (λ x. Ok (Some x))) ≡ settle (unless (is_some o) e) o
present_value None e = refl
present_value (Some x) e = refl

present_law : {A : Type 0} (read : Data → Option A) (e : CaseRefusal) (o : Option Data) → optional_in read e o ≡ settle (breaks_present read e o) (option_and_then read o)
present_law read e None = refl
present_law read e (Some d) = present_value (read d) e

-- a field that may be absent
pub optional_law : {A : Type 0} (read : Data → Option A) (list : CaseList) (row : ℕ) (at : Field) (ms : Members)
    → optional read list row at ms ≡ settle (breaks_optional read list row at ms) (field_value read at ms)
unfolding optional
optional_law read list row at ms = present_law read (refusals.Value list row at) (get_member (key_of at) ms)

fit_law : {B : Type 0} (b : Bool) (ms : Members) (e : CaseRefusal) (f : Members → Result B CaseRefusal) (es : List CaseRefusal) (y : B)
    → f ms ≡ settle es y → (or_refuse (cond b (Some ms) None) e >>= f) ≡ settle (unless b e ++ es) y
fit_law true ms e f es y h = h
fit_law false ms e f es y h = refl

table_cases : {B : Type 0} (fit : Members → Bool) (e : CaseRefusal) (o : Option Members) (f : Members → Result B CaseRefusal) (es : List CaseRefusal) (y : B)
    → f (unwrap_or o no_members) ≡ settle es y
    → (or_refuse (option_and_then (λ ms. cond (fit ms) (Some ms) None) o) e >>= f) ≡ settle (unless (is_some o && fit (unwrap_or o no_members)) e ++ es) y
table_cases fit e None f es y h = refl
table_cases fit e (Some ms) f es y h = fit_law (fit ms) ms e f es y h

-- a row's table, and its fields after it
pub table_law : {B : Type 0} (list : CaseList) (needed others : List Field) (row : ℕ) (d : Data) (f : Members → Result B CaseRefusal) (es : List CaseRefusal) (y : B)
    → f (members_in d) ≡ settle es y → (row_table list needed others row d >>= f) ≡ settle (breaks_keys list needed others row d ++ es) y
unfolding row_table
table_law list needed others row d f es y h = table_cases (fits needed others) (refusals.Key list row) (as_table d) f es y h

-- the table of a transformer, which has a kind
kinded_law : {B : Type 0} (row : ℕ) (d : Data) (f : Members → Result B CaseRefusal) (es : List CaseRefusal) (y : B)
    → f (members_in d) ≡ settle es y
    → (table_with lists.Transformer fields.Kind row d >>= f) ≡ settle (unless (is_some (as_table d) && has fields.Kind (members_in d)) (refusals.Key lists.Transformer row) ++ es) y
unfolding table_with
kinded_law row d f es y h = table_cases (has fields.Kind) (refusals.Key lists.Transformer row) (as_table d) f es y h

name_law : (list : CaseList) (row : ℕ) (at : Field) (ms : Members) → required read_name list row at ms ≡ settle (breaks_value read_name list row at ms) (unwrap_or (field_value read_name at ms) [])
name_law list row at ms = required_law read_name list row at ms []

natural_law : (low high : ℕ) (list : CaseList) (row : ℕ) (at : Field) (ms : Members)
    → required (natural_within low high) list row at ms ≡ settle (breaks_value (natural_within low high) list row at ms) (unwrap_or (field_value (natural_within low high) at ms) 0)
natural_law low high list row at ms = required_law (natural_within low high) list row at ms 0

-- a row that is read in one of two ways, as a test tells
either_law : {A : Type 0} (b : Bool) (r s : Result A CaseRefusal) (es fs : List CaseRefusal) (x y : A) → r ≡ settle es x → s ≡ settle fs y → cond b r s ≡ settle (cond b es fs) (cond b x y)
either_law true r s es fs x y one other = one
either_law false r s es fs x y one other = other

earth_zone_law : (row : ℕ) (d : Data) → earth_zone_row row d ≡ settle (breaks_earth_zone row d) (earth_zone_of d)
unfolding earth_zone_row
earth_zone_law row d =
    let ms = members_in d in
    table_law lists.Zone earth_zone_fields [] row d _ _ _
    (then_law _ _ _ _ _ _ (name_law lists.Zone row fields.Name ms)
    (then_law _ _ _ _ _ _ (natural_law 0 9000 lists.Zone row fields.Latitude ms)
    (last_law _ _ _ _ (natural_law 1 150 lists.Zone row fields.Beta ms))))

scaled_zone_law : (row : ℕ) (d : Data) → scaled_zone_row row d ≡ settle (breaks_scaled_zone row d) (scaled_zone_of d)
unfolding scaled_zone_row
scaled_zone_law row d =
    let ms = members_in d in
    table_law lists.Zone scaled_zone_fields [] row d _ _ _
    (then_law _ _ _ _ _ _ (name_law lists.Zone row fields.Name ms)
    (last_law _ _ _ _ (natural_law 1 1500 lists.Zone row fields.Scale ms)))

pub zone_law : (format : Format) (row : ℕ) (d : Data) → zone_row format row d ≡ settle (breaks_zone format row d) (zone_of format d)
unfolding zone_row
zone_law format row d = either_law (is_scaled format d) _ _ _ _ _ _ (scaled_zone_law row d) (earth_zone_law row d)

plain_substation_law : (row : ℕ) (d : Data) → plain_substation_row row d ≡ settle (breaks_plain_substation row d) (plain_substation_of d)
unfolding plain_substation_row
plain_substation_law row d =
    let ms = members_in d in
    table_law lists.Substation (fields.Name ∷ []) (fields.Ground ∷ []) row d _ _ _
    (then_law _ _ _ _ _ _ (name_law lists.Substation row fields.Name ms)
    (last_law _ _ _ _ (optional_law ohm_within lists.Substation row fields.Ground ms)))

ranged_substation_law : (row : ℕ) (d : Data) → ranged_substation_row row d ≡ settle (breaks_ranged_substation row d) (ranged_substation_of d)
unfolding ranged_substation_row
ranged_substation_law row d =
    let ms = members_in d in
    table_law lists.Substation ranged_substation_fields [] row d _ _ _
    (then_law _ _ _ _ _ _ (name_law lists.Substation row fields.Name ms)
    (then_law _ _ _ _ _ _ (natural_law 1000 1000000000 lists.Substation row fields.Ground ms)
    (last_law _ _ _ _ (natural_law 0 90 lists.Substation row fields.Tolerance ms))))

pub substation_law : (format : Format) (row : ℕ) (d : Data) → substation_row format row d ≡ settle (breaks_substation format row d) (substation_of format d)
unfolding substation_row
substation_law format row d = either_law (is_ranged format d) _ _ _ _ _ _ (ranged_substation_law row d) (plain_substation_law row d)

pub bus_law : (row : ℕ) (d : Data) → bus_row row d ≡ settle (breaks_bus row d) (bus_of d)
unfolding bus_row
bus_law row d =
    let ms = members_in d in
    table_law lists.Bus bus_fields [] row d _ _ _
    (then_law _ _ _ _ _ _ (name_law lists.Bus row fields.Name ms)
    (last_law _ _ _ _ (name_law lists.Bus row fields.Substation ms)))

plain_line_law : (row : ℕ) (d : Data) → plain_line_row row d ≡ settle (breaks_plain_line row d) (plain_line_of d)
unfolding plain_line_row
plain_line_law row d =
    let ms = members_in d in
    table_law lists.Line plain_line_fields (fields.Blocked ∷ []) row d _ _ _
    (then_law _ _ _ _ _ _ (name_law lists.Line row fields.Name ms)
    (then_law _ _ _ _ _ _ (name_law lists.Line row fields.From ms)
    (then_law _ _ _ _ _ _ (name_law lists.Line row fields.To ms)
    (then_law _ _ _ _ _ _ (name_law lists.Line row fields.Zone ms)
    (then_law _ _ _ _ _ _ (natural_law 1000 1000000000 lists.Line row fields.Resistance ms)
    (then_law _ _ _ _ _ _ (required_law metres_within lists.Line row fields.North ms (pos 0))
    (then_law _ _ _ _ _ _ (required_law metres_within lists.Line row fields.East ms (pos 0))
    (last_law _ _ _ _ (optional_law as_bool lists.Line row fields.Blocked ms)))))))))

parted_line_law : (row : ℕ) (d : Data) → parted_line_row row d ≡ settle (breaks_parted_line row d) (parted_line_of d)
unfolding parted_line_row
parted_line_law row d =
    let ms = members_in d in
    table_law lists.Line parted_line_fields (fields.Blocked ∷ []) row d _ _ _
    (then_law _ _ _ _ _ _ (name_law lists.Line row fields.Name ms)
    (then_law _ _ _ _ _ _ (name_law lists.Line row fields.From ms)
    (then_law _ _ _ _ _ _ (name_law lists.Line row fields.To ms)
    (then_law _ _ _ _ _ _ (natural_law 1000 1000000000 lists.Line row fields.Resistance ms)
    (then_law _ _ _ _ _ _ (optional_law as_bool lists.Line row fields.Blocked ms)
    (last_law _ _ _ _ (required_law read_parts lists.Line row fields.Part ms [])))))))

pub line_law : (format : Format) (row : ℕ) (d : Data) → line_row format row d ≡ settle (breaks_line format row d) (line_row_of format d)
unfolding line_row
line_law format row d = either_law (is_parted format d) _ _ _ _ _ _ (parted_line_law row d) (plain_line_law row d)

bus_name_law : (row : ℕ) (at : Field) (ms : Members) → required read_name lists.Transformer row at ms ≡ settle (breaks_bus_name row at ms) (name_in at ms)
bus_name_law row at ms = name_law lists.Transformer row at ms

ohm_law : (row : ℕ) (at : Field) (ms : Members) → required ohm_within lists.Transformer row at ms ≡ settle (breaks_ohm row at ms) (ohm_in at ms)
ohm_law row at ms = natural_law 1000 1000000000 lists.Transformer row at ms

volts_law : (row : ℕ) (at : Field) (ms : Members) → required volts_within lists.Transformer row at ms ≡ settle (breaks_volts row at ms) (volts_in at ms)
volts_law row at ms = natural_law 1000 2000000 lists.Transformer row at ms

-- the fields of a third winding
third_row_law : (row : ℕ) (ms : Members)
    → third_row row ms ≡ settle (breaks_third true row ms) (record { bus = name_in fields.Third ms; volts = volts_in fields.ThirdVolts ms; resistance = ohm_in fields.ThirdResistance ms })
unfolding third_row
third_row_law row ms =
    then_law _ _ _ _ _ _ (bus_name_law row fields.Third ms)
    (then_law _ _ _ _ _ _ (volts_law row fields.ThirdVolts ms)
    (last_law _ _ _ _ (ohm_law row fields.ThirdResistance ms)))

third_law : (with_third : Bool) (row : ℕ) (ms : Members) → third_if with_third row ms ≡ settle (breaks_third with_third row ms) (third_told with_third ms)
third_law false row ms = refl
third_law true row ms = last_law _ _ _ (λ t. Some t) (third_row_law row ms)

wye_wye_law : (with_third : Bool) (row : ℕ) (ms : Members) → wye_wye_row with_third row ms ≡ settle (breaks_wye_wye with_third row ms) (wye_wye_in with_third ms)
unfolding wye_wye_row
wye_wye_law with_third row ms =
    then_law _ _ _ _ _ _ (bus_name_law row fields.High ms)
    (then_law _ _ _ _ _ _ (bus_name_law row fields.Low ms)
    (then_law _ _ _ _ _ _ (volts_law row fields.LowVolts ms)
    (then_law _ _ _ _ _ _ (ohm_law row fields.HighResistance ms)
    (then_law _ _ _ _ _ _ (ohm_law row fields.LowResistance ms)
    (last_law _ _ _ _ (third_law with_third row ms))))))

auto_law : (with_third : Bool) (row : ℕ) (ms : Members) → auto_row with_third row ms ≡ settle (breaks_auto with_third row ms) (auto_in with_third ms)
unfolding auto_row
auto_law with_third row ms =
    then_law _ _ _ _ _ _ (bus_name_law row fields.High ms)
    (then_law _ _ _ _ _ _ (bus_name_law row fields.Low ms)
    (then_law _ _ _ _ _ _ (volts_law row fields.LowVolts ms)
    (then_law _ _ _ _ _ _ (ohm_law row fields.SeriesResistance ms)
    (then_law _ _ _ _ _ _ (ohm_law row fields.CommonResistance ms)
    (last_law _ _ _ _ (third_law with_third row ms))))))

-- the fields that are a kind's own
own_law : (kind : KindWord) (row : ℕ) (ms : Members) → kind_row kind row ms ≡ settle (breaks_own kind row ms) (own_of kind ms)
unfolding kind_row delta_wye_row reactor_row
own_law words.DeltaWye row ms = then_law _ _ _ _ _ _ (bus_name_law row fields.High ms) (last_law _ _ _ _ (ohm_law row fields.HighResistance ms))
own_law words.WyeWye row ms = wye_wye_law false row ms
own_law words.Auto row ms = auto_law false row ms
own_law words.WyeWyeWye row ms = wye_wye_law true row ms
own_law words.AutoWye row ms = auto_law true row ms
own_law words.Reactor row ms = then_law _ _ _ _ _ _ (bus_name_law row fields.High ms) (last_law _ _ _ _ (ohm_law row fields.HighResistance ms))
own_law words.DeltaDelta row ms = refl

pub transformer_law : (format : Format) (row : ℕ) (d : Data) → transformer_row format row d ≡ settle (breaks_transformer format row d) (transformer_of format d)
unfolding transformer_row
transformer_law format row d =
    let ms = members_in d in
    kinded_law row d _ _ _
    (then_law _ _ _ _ _ _ (required_law (read_kind format) lists.Transformer row fields.Kind ms words.DeltaDelta)
    (then_law _ _ _ _ _ _ (test_law _ _)
    (then_law _ _ _ _ _ _ (bus_name_law row fields.Name ms)
    (then_law _ _ _ _ _ _ (volts_law row fields.HighVolts ms)
    (then_law _ _ _ _ _ _ (own_law (kind_of format ms) row ms)
    (last_law _ _ _ _ (optional_law read_neutral lists.Transformer row fields.Neutral ms)))))))
