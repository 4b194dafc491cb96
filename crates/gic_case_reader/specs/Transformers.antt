-- The rules of a transformer's row, whose fields are those of its kind.
use Rattle.std.specs.Prelude.{ℕ, List, [], ◌∷◌, ◌++◌, Bool, true, false, ◌&&◌, if◌then◌else◌, Option, Some, None, option_and_then, unwrap_or, is_some, codes}
use Rattle.toml.specs.Data.{Data, Members, as_str, as_table}
use Rattle.gic_base.specs.Refusals.{unless}
use Rattle.gic_case.specs.Names.{same}
use Rattle.gic_case_reader.specs.Keys.{has, fits}
use Rattle.gic_case_reader.specs.Formats.{has_devices, is_third}
use Rattle.gic_case_reader.specs.Values.{read_name, field_value}
use Rattle.gic_case_reader.specs.Rows.{members_in, breaks_value, breaks_optional, ohm_within, volts_within, read_neutral}
use Rattle.gic_case_reader.specs.declared.field.Field.{Field}
use Rattle.gic_case_reader.specs.declared.field.Field.TheVariants as fields
use Rattle.gic_case_reader.specs.declared.format.Format.{Format}
use Rattle.gic_case.specs.declared.case_list.CaseList.TheVariants as lists
use Rattle.gic_case_reader.specs.declared.refusal.CaseRefusal.{CaseRefusal}
use Rattle.gic_case_reader.specs.declared.refusal.CaseRefusal.TheVariants as refusals
use Rattle.gic_case.specs.declared.kind.Third.{Third}
use Rattle.gic_case.specs.declared.kind.Kind.{Kind}
use Rattle.gic_case.specs.declared.kind.Kind.TheVariants as kinds
use Rattle.gic_case_reader.specs.declared.row.TransformerRow.{TransformerRow}
use Rattle.gic_case_reader.specs.declared.transformer.KindWord.{KindWord}
use Rattle.gic_case_reader.specs.declared.transformer.KindWord.TheVariants as words

-- a kind that only the third format has
abbrev pub in_third_format : Format → KindWord → Option KindWord
in_third_format format kind = if is_third format then Some kind else None

-- the kind that a word tells
unfoldable pub kind_word : Format → List ℕ → Option KindWord
kind_word format s =
    if same s (codes "delta-wye") then Some words.DeltaWye
    else if same s (codes "wye-wye") then Some words.WyeWye
    else if same s (codes "auto") then Some words.Auto
    else if same s (codes "delta-delta") then Some words.DeltaDelta
    else if same s (codes "wye-wye-wye") then in_third_format format words.WyeWyeWye
    else if same s (codes "auto-wye") then in_third_format format words.AutoWye
    else if same s (codes "reactor") then in_third_format format words.Reactor
    else None

-- a string that is the word of a kind
abbrev pub read_kind : Format → Data → Option KindWord
read_kind format d = option_and_then (kind_word format) (as_str d)

-- the fields of a third winding
abbrev pub third_fields : List Field
third_fields = fields.Third ∷ fields.ThirdVolts ∷ fields.ThirdResistance ∷ []

-- the fields that a transformer of a kind must have
abbrev pub fields_of : KindWord → List Field
fields_of words.DeltaWye = fields.Kind ∷ fields.Name ∷ fields.HighVolts ∷ fields.High ∷ fields.HighResistance ∷ []
fields_of words.WyeWye = fields.Kind ∷ fields.Name ∷ fields.HighVolts ∷ fields.High ∷ fields.Low ∷ fields.LowVolts ∷ fields.HighResistance ∷ fields.LowResistance ∷ []
fields_of words.Auto = fields.Kind ∷ fields.Name ∷ fields.HighVolts ∷ fields.High ∷ fields.Low ∷ fields.LowVolts ∷ fields.SeriesResistance ∷ fields.CommonResistance ∷ []
fields_of words.WyeWyeWye = fields.Kind ∷ fields.Name ∷ fields.HighVolts ∷ fields.High ∷ fields.Low ∷ fields.LowVolts ∷ fields.HighResistance ∷ fields.LowResistance ∷ third_fields
fields_of words.AutoWye = fields.Kind ∷ fields.Name ∷ fields.HighVolts ∷ fields.High ∷ fields.Low ∷ fields.LowVolts ∷ fields.SeriesResistance ∷ fields.CommonResistance ∷ third_fields
fields_of words.Reactor = fields.Kind ∷ fields.Name ∷ fields.HighVolts ∷ fields.High ∷ fields.HighResistance ∷ []
fields_of words.DeltaDelta = fields.Kind ∷ fields.Name ∷ fields.HighVolts ∷ []

-- a unit of the kind has a neutral
abbrev pub has_neutral : KindWord → Bool
has_neutral words.DeltaWye = true
has_neutral words.WyeWye = true
has_neutral words.Auto = true
has_neutral words.WyeWyeWye = true
has_neutral words.AutoWye = true
has_neutral words.Reactor = true
has_neutral words.DeltaDelta = false

-- the fields that it may have: its neutral device, where the format has such devices
abbrev pub others_of : Format → KindWord → List Field
others_of format kind = if has_neutral kind && has_devices format then fields.Neutral ∷ [] else []

-- the kind of a row, in which a wrong word counts as delta-delta
abbrev pub kind_of : Format → Members → KindWord
kind_of format ms = unwrap_or (field_value (read_kind format) fields.Kind ms) words.DeltaDelta

-- the field of a transformer is the name of a bus
abbrev pub breaks_bus_name : ℕ → Field → Members → List CaseRefusal
breaks_bus_name = breaks_value read_name lists.Transformer

-- the field of a transformer is a resistance
abbrev pub breaks_ohm : ℕ → Field → Members → List CaseRefusal
breaks_ohm = breaks_value ohm_within lists.Transformer

-- the field of a transformer is a rated voltage
abbrev pub breaks_volts : ℕ → Field → Members → List CaseRefusal
breaks_volts = breaks_value volts_within lists.Transformer

-- the values of the fields of a third winding, of a unit with one
abbrev pub breaks_third : (with_third : Bool) → ℕ → Members → List CaseRefusal
breaks_third false row ms = []
breaks_third true row ms =
    breaks_bus_name row fields.Third ms
    ++ (breaks_volts row fields.ThirdVolts ms
    ++ breaks_ohm row fields.ThirdResistance ms)

-- the values of the fields of a wye-wye unit, with a third winding or without
abbrev pub breaks_wye_wye : (with_third : Bool) → ℕ → Members → List CaseRefusal
breaks_wye_wye with_third row ms =
    breaks_bus_name row fields.High ms
    ++ (breaks_bus_name row fields.Low ms
    ++ (breaks_volts row fields.LowVolts ms
    ++ (breaks_ohm row fields.HighResistance ms
    ++ (breaks_ohm row fields.LowResistance ms
    ++ breaks_third with_third row ms))))

-- those of an autotransformer
abbrev pub breaks_auto : (with_third : Bool) → ℕ → Members → List CaseRefusal
breaks_auto with_third row ms =
    breaks_bus_name row fields.High ms
    ++ (breaks_bus_name row fields.Low ms
    ++ (breaks_volts row fields.LowVolts ms
    ++ (breaks_ohm row fields.SeriesResistance ms
    ++ (breaks_ohm row fields.CommonResistance ms
    ++ breaks_third with_third row ms))))

-- those of a unit with one winding, from its bus to the neutral
abbrev pub breaks_one_winding : ℕ → Members → List CaseRefusal
breaks_one_winding row ms = breaks_bus_name row fields.High ms ++ breaks_ohm row fields.HighResistance ms

-- the values of the fields that are a kind's own
abbrev pub breaks_own : KindWord → ℕ → Members → List CaseRefusal
breaks_own words.DeltaWye row ms = breaks_one_winding row ms
breaks_own words.WyeWye row ms = breaks_wye_wye false row ms
breaks_own words.Auto row ms = breaks_auto false row ms
breaks_own words.WyeWyeWye row ms = breaks_wye_wye true row ms
breaks_own words.AutoWye row ms = breaks_auto true row ms
breaks_own words.Reactor row ms = breaks_one_winding row ms
breaks_own words.DeltaDelta row ms = []

-- a transformer is a table with a kind; the kind is one of the format's; it has the keys of its kind; and each of its fields has a value of its kind
abbrev pub breaks_transformer : Format → ℕ → Data → List CaseRefusal
breaks_transformer format row d =
    let ms = members_in d in
    unless (is_some (as_table d) && has fields.Kind ms) (refusals.Key lists.Transformer row)
    ++ (breaks_value (read_kind format) lists.Transformer row fields.Kind ms
    ++ (unless (fits (fields_of (kind_of format ms)) (others_of format (kind_of format ms)) ms) (refusals.Key lists.Transformer row)
    ++ (breaks_value read_name lists.Transformer row fields.Name ms
    ++ (breaks_volts row fields.HighVolts ms
    ++ (breaks_own (kind_of format ms) row ms
    ++ breaks_optional read_neutral lists.Transformer row fields.Neutral ms)))))

-- the name in a field of a row, and none where there is no name
abbrev pub name_in : Field → Members → List ℕ
name_in at ms = unwrap_or (field_value read_name at ms) []

-- the resistance in a field, and zero where there is none
abbrev pub ohm_in : Field → Members → ℕ
ohm_in at ms = unwrap_or (field_value ohm_within at ms) 0

-- the rated voltage in a field, and zero where there is none
abbrev pub volts_in : Field → Members → ℕ
volts_in at ms = unwrap_or (field_value volts_within at ms) 0

-- the third winding that a row tells, of a unit with one
abbrev pub third_told : (with_third : Bool) → Members → Option (Third (List ℕ))
third_told false ms = None
third_told true ms = Some (record { bus = name_in fields.Third ms; volts = volts_in fields.ThirdVolts ms; resistance = ohm_in fields.ThirdResistance ms })

-- a wye-wye unit, with a third winding or without
abbrev pub wye_wye_in : (with_third : Bool) → Members → Kind (List ℕ)
wye_wye_in with_third ms = kinds.WyeWye (name_in fields.High ms) (name_in fields.Low ms) (volts_in fields.LowVolts ms) (ohm_in fields.HighResistance ms) (ohm_in fields.LowResistance ms) (third_told with_third ms)

-- an autotransformer, with a third winding or without
abbrev pub auto_in : (with_third : Bool) → Members → Kind (List ℕ)
auto_in with_third ms = kinds.Auto (name_in fields.High ms) (name_in fields.Low ms) (volts_in fields.LowVolts ms) (ohm_in fields.SeriesResistance ms) (ohm_in fields.CommonResistance ms) (third_told with_third ms)

-- what a row of a kind has of its own
abbrev pub own_of : KindWord → Members → Kind (List ℕ)
own_of words.DeltaWye ms = kinds.DeltaWye (name_in fields.High ms) (ohm_in fields.HighResistance ms)
own_of words.WyeWye ms = wye_wye_in false ms
own_of words.Auto ms = auto_in false ms
own_of words.WyeWyeWye ms = wye_wye_in true ms
own_of words.AutoWye ms = auto_in true ms
own_of words.Reactor ms = kinds.Reactor (name_in fields.High ms) (ohm_in fields.HighResistance ms)
own_of words.DeltaDelta ms = kinds.DeltaDelta

-- the transformer that a row is
abbrev pub transformer_of : Format → Data → TransformerRow
transformer_of format d =
    let ms = members_in d in
    record {
      name = name_in fields.Name ms;
      high_volts = volts_in fields.HighVolts ms;
      kind = own_of (kind_of format ms) ms;
      neutral = field_value read_neutral fields.Neutral ms;
    }
