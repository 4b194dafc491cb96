-- How a byte is taken while the prefix of a text is looked for, in the words of `csv`. For the private functions of this crate.
use Rattle.std.specs.Prelude.{ℕ, ◌+◌, ◌==◌, ◌&&◌, List, [], ◌∷◌, Bool, true, false, if◌then◌else◌}
use Rattle.csv.specs.Machine.{step}
use Rattle.csv.specs.Reading.{default_config, is_bom}
use Rattle.csv.specs.declared.parser.Action.{Action}
use Rattle.csv.specs.declared.parser.Action.TheVariants as act
use Rattle.csv.specs.declared.parser.State.{State}
use Rattle.csv.specs.declared.parser.State.TheVariants as st
use Rattle.gic_records.specs.declared.prefix.TheConstants.{MOST_COLUMNS}
use Rattle.gic_records.specs.declared.prefix.Part.{Part}
use Rattle.gic_records.specs.declared.prefix.Part.TheVariants as parts
use Rattle.gic_records.specs.declared.prefix.Place.{Place}
use Rattle.gic_records.specs.declared.prefix.Place.TheVariants as places

-- a place of a text by the word of `csv`
abbrev pub state_of : Place → State
state_of places.Between = st.StartRecord
state_of places.AfterReturn = st.AfterCr
state_of places.FieldStart = st.StartField
state_of places.Plain = st.InField
state_of places.Quoted = st.InQuoted
state_of places.AfterQuote = st.AfterQuote

-- what a byte does by the word of `csv`
abbrev pub action_of : Part → Action
action_of parts.Skipped = act.Skip
action_of parts.Text = act.Copy
action_of parts.FieldEnd = act.EndField
action_of parts.RecordEnd = act.EndRecord

-- the byte ends a field
abbrev pub ends_field : Action → Bool
ends_field act.EndField = true
ends_field act.EndRecord = true
ends_field act.Skip = false
ends_field act.Copy = false

-- how many fields of a record have ended after the byte, where this many had before: none where it ends the record
abbrev pub ended_after : Action → ℕ → ℕ
ended_after act.EndField ended = ended + 1
ended_after act.EndRecord ended = 0
ended_after act.Skip ended = ended
ended_after act.Copy ended = ended

-- the byte ends one field more than `MOST_COLUMNS`
abbrev pub ends_wide : Action → ℕ → Bool
ends_wide action ended = ends_field action && (ended == MOST_COLUMNS)

-- how many bytes come before the one that ends one field more than `MOST_COLUMNS` of a record, where this many have ended
unfoldable pub prefix_len : State → ℕ → List ℕ → ℕ
prefix_len s ended [] = 0
prefix_len s ended (byte ∷ rest) =
    if ends_wide (step default_config s byte).1 ended then 0
    else prefix_len (step default_config s byte).0 (ended_after (step default_config s byte).1 ended) rest + 1

-- how many bytes a byte order mark has at the start of a text
abbrev pub mark_len : List ℕ → ℕ
mark_len [] = 0
mark_len (a ∷ []) = 0
mark_len (a ∷ b ∷ []) = 0
mark_len (a ∷ b ∷ c ∷ rest) = if is_bom a b c then 3 else 0
