-- The keys of the document and of rows.
use Rattle.std.specs.Prelude.{ℕ, List, [], ◌∷◌, Bool, true, ◌&&◌, ◌||◌, codes, is_some}
use Rattle.std.specs.List.{list_any, list_all}
use Rattle.toml.specs.Data.{Members, no_members, member, get_member}
use Rattle.gic_case.specs.Names.{same}
use Rattle.gic_case.specs.ListWord.{list_word}
use Rattle.gic_case_reader.specs.declared.field.Field.{Field}
use Rattle.gic_case_reader.specs.declared.field.Field.TheVariants as fields
use Rattle.gic_case.specs.declared.case_list.CaseList.{CaseList}
use Rattle.gic_case.specs.declared.case_list.CaseList.TheVariants as lists

-- the key of a field
abbrev pub key_of : Field → List ℕ
key_of fields.Format = codes "format"
key_of fields.Name = codes "name"
key_of fields.Latitude = codes "latitude"
key_of fields.Beta = codes "beta"
key_of fields.Scale = codes "scale"
key_of fields.Ground = codes "ground"
key_of fields.Tolerance = codes "tolerance"
key_of fields.Substation = codes "substation"
key_of fields.From = codes "from"
key_of fields.To = codes "to"
key_of fields.Zone = codes "zone"
key_of fields.Resistance = codes "resistance"
key_of fields.North = codes "north"
key_of fields.East = codes "east"
key_of fields.Blocked = codes "blocked"
key_of fields.Part = codes "part"
key_of fields.Kind = codes "kind"
key_of fields.HighVolts = codes "high_volts"
key_of fields.High = codes "high"
key_of fields.Low = codes "low"
key_of fields.LowVolts = codes "low_volts"
key_of fields.HighResistance = codes "high_resistance"
key_of fields.LowResistance = codes "low_resistance"
key_of fields.SeriesResistance = codes "series_resistance"
key_of fields.CommonResistance = codes "common_resistance"
key_of fields.Third = codes "third"
key_of fields.ThirdVolts = codes "third_volts"
key_of fields.ThirdResistance = codes "third_resistance"
key_of fields.Neutral = codes "neutral"

-- the key is that of one of these fields
unfoldable pub is_key_of : List Field → List ℕ → Bool
is_key_of these k = list_any (λ at. same k (key_of at)) these

-- the key is that of one of these lists
unfoldable pub is_list_key : List CaseList → List ℕ → Bool
is_list_key these k = list_any (λ list. same k (list_word list)) these

-- the document may have the key: its format, and the lists
abbrev pub is_document_key : List ℕ → Bool
is_document_key k = is_key_of (fields.Format ∷ []) k || is_list_key (lists.Zone ∷ lists.Substation ∷ lists.Bus ∷ lists.Line ∷ lists.Transformer ∷ []) k

-- each key of the members passes the test
abbrev pub has_only : (List ℕ → Bool) → Members → Bool
has_only test no_members = true
has_only test (member k d ms) = test k && has_only test ms

-- the members have the key of the field
abbrev pub has : Field → Members → Bool
has at ms = is_some (get_member (key_of at) ms)

-- the members have the key of each field
unfoldable pub has_all : List Field → Members → Bool
has_all these ms = list_all (λ at. has at ms) these

-- the members have the keys of all of the first fields, and no key but of these and of the others
abbrev pub fits : (required others : List Field) → Members → Bool
fits required others ms = has_only (λ k. is_key_of required k || is_key_of others k) ms && has_all required ms

-- the document has a format, and no key but that and the lists'
abbrev pub fits_document : Members → Bool
fits_document ms = has_only is_document_key ms && has fields.Format ms
