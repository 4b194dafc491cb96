-- The tables of options and modes.
use Rattle.std.specs.Prelude.{ℕ, ◌==◌, Bool, List, [], ◌∷◌, ◌++◌, codes, pos, neg_ℤ, if◌then◌else◌, find}
use Rattle.std.specs.declared.option.Option.{Option}
use Rattle.std.specs.List.{list_any}
use Rattle.std.specs.Str.{bytes_eq}
use Rattle.gic_base.specs.declared.limits.TheConstants.{MOST_FIELD, MOST_ROWS}
use Rattle.gic_words.specs.declared.option.Form.{Form}
use Rattle.gic_words.specs.declared.option.Form.TheVariants as form
use Rattle.gic_words.specs.declared.mode.Mode.{Mode}
use Rattle.gic_words.specs.declared.mode.Mode.TheVariants as mode
use Rattle.gic_words.specs.declared.mode.NetworkMode.TheVariants as network
use Rattle.gic_words.specs.declared.mode.Use.{Use}
use Rattle.gic_words.specs.declared.mode.Use.TheVariants.{Required, Allowed, Unused}
use Rattle.gic_words.specs.declared.option.Opt.{Opt}
use Rattle.gic_words.specs.declared.option.Opt.TheVariants.{Case, Storm, Switch, North, East, Width, Detail, Seed, Size, Event, Cert, Transformer, Tolerance}

-- ---- the options

-- an option: its place in the order in which faults are found, its name without its hyphens, and the form of its values
pub record OptionRow : Type 0 where
  pub place : ℕ
  pub name : List ℕ
  pub form : Form

abbrev option_row : (place : ℕ) → (name : List ℕ) → Form → OptionRow
option_row place name form = record { place = place; name = name; form = form }

-- one row an option; fields are within `MOST_FIELD`, 20000 mV/km, either way, widths from 10 to 10000 mV or mA, a storm has at most `MOST_ROWS`, 20000, steps, seeds are numbers of 32 bits, made cases have from 2 to 1000 sites, and tolerances are from 1 to 90 per cent
abbrev pub row_of_option : Opt → OptionRow
row_of_option Case = option_row 0 (codes "case") form.Name
row_of_option Storm = option_row 1 (codes "storm") form.Name
row_of_option Switch = option_row 2 (codes "switch") form.Name
row_of_option North = option_row 3 (codes "north") (form.Number (neg_ℤ (pos MOST_FIELD)) (pos MOST_FIELD))
row_of_option East = option_row 4 (codes "east") (form.Number (neg_ℤ (pos MOST_FIELD)) (pos MOST_FIELD))
row_of_option Width = option_row 5 (codes "width") (form.Number (pos 10) (pos 10000))
row_of_option Detail = option_row 6 (codes "detail") (form.Number (pos 1) (pos MOST_ROWS))
row_of_option Seed = option_row 7 (codes "seed") (form.Number (pos 0) (pos 4294967295))
row_of_option Size = option_row 8 (codes "size") (form.Number (pos 2) (pos 1000))
row_of_option Event = option_row 9 (codes "event") form.Event
row_of_option Cert = option_row 10 (codes "cert") form.Name
row_of_option Transformer = option_row 11 (codes "transformer") form.Name
row_of_option Tolerance = option_row 12 (codes "tolerance") (form.Number (pos 1) (pos 90))

abbrev pub place_of : Opt → ℕ
place_of o = (row_of_option o).place

abbrev pub name_of : Opt → List ℕ
name_of o = (row_of_option o).name

abbrev pub form_of : Opt → Form
form_of o = (row_of_option o).form

-- an option as it is written
abbrev pub flag : Opt → List ℕ
flag option = codes "--" ++ name_of option

-- in the order of their places
abbrev pub all_options : List Opt
all_options = Case ∷ Storm ∷ Switch ∷ North ∷ East ∷ Width ∷ Detail ∷ Seed ∷ Size ∷ Event ∷ Cert ∷ Transformer ∷ Tolerance ∷ []

-- whether an option is one of these
unfoldable pub is_among : Opt → List Opt → Bool
is_among o options = list_any (λ other. place_of other == place_of o) options

-- ---- the modes

-- a mode: the word that asks for it, the options that it requires, and the further ones that it may have
pub record ModeRow : Type 0 where
  pub mode : Mode
  pub word : List ℕ
  pub required : List Opt
  pub allowed : List Opt

abbrev mode_row : Mode → (word : List ℕ) → (required allowed : List Opt) → ModeRow
mode_row m word required allowed = record { mode = m; word = word; required = required; allowed = allowed }

-- one row a mode
abbrev pub mode_rows : List ModeRow
mode_rows =
    mode_row (mode.Network network.Volts) (codes "volts") (Case ∷ []) (North ∷ East ∷ [])
    ∷ mode_row (mode.Network network.List) (codes "list") (Case ∷ []) []
    ∷ mode_row (mode.Network network.Check) (codes "check") (Case ∷ []) (Switch ∷ [])
    ∷ mode_row (mode.Network network.Field) (codes "field") (Case ∷ []) (North ∷ East ∷ Switch ∷ Width ∷ Event ∷ [])
    ∷ mode_row (mode.Network network.Screen) (codes "screen") (Case ∷ []) (Switch ∷ Width ∷ Event ∷ [])
    ∷ mode_row (mode.Network network.Certify) (codes "certify") (Case ∷ []) (North ∷ East ∷ Switch ∷ [])
    ∷ mode_row (mode.Network network.Outage) (codes "outage") (Case ∷ []) (Switch ∷ Width ∷ Event ∷ [])
    ∷ mode_row mode.Study (codes "study") (Case ∷ Storm ∷ []) (Switch ∷ Width ∷ Detail ∷ Event ∷ [])
    ∷ mode_row mode.Make (codes "make") (Seed ∷ Size ∷ []) []
    ∷ mode_row mode.Recheck (codes "recheck") (Case ∷ Cert ∷ []) (Switch ∷ [])
    ∷ mode_row mode.Series (codes "series") (Case ∷ Storm ∷ Transformer ∷ []) (Switch ∷ Width ∷ [])
    ∷ mode_row (mode.Network network.Review) (codes "review") (Case ∷ []) []
    ∷ mode_row mode.Robust (codes "robust") (Case ∷ Tolerance ∷ []) (Switch ∷ Width ∷ Event ∷ [])
    ∷ []

-- the first of these rows that has the word
abbrev pub first_named : List ℕ → List ModeRow → Option ModeRow
first_named word rows = find (λ r. bytes_eq r.word word) rows

-- the row that a word names
unfoldable pub row_named : List ℕ → Option ModeRow
row_named word = first_named word mode_rows

-- what use a mode has for an option
unfoldable pub use_of : ModeRow → Opt → Use
use_of r o = if is_among o r.required then Required
    else (if is_among o r.allowed then Allowed else Unused)
