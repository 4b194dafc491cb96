-- What words ask for, or their first fault.
use Rattle.std.specs.Prelude.{ℕ, List, [], ◌∷◌, ℤ, unsigned_abs, Some, None, Ok, Err, Result, is_some, unwrap_or, ok_or, option_map, option_and_then, if◌then◌else◌}
use Rattle.std.specs.declared.option.Option.{Option}
use Rattle.clap.specs.Words.{Kinds, Row}
use Rattle.gic_base.specs.Passes.{◌>>=◌}
use Rattle.gic_words.specs.Table.{ModeRow, all_options, form_of, row_named, use_of}
use Rattle.gic_words.specs.Command.{given, given_mode, faults_of, matches_of_words}
use Rattle.gic_criteria.specs.declared.event.Event.{Event as NamedEvent}
use Rattle.gic_words.specs.Values.{event_of, number_in}
use Rattle.gic_words.specs.declared.option.Opt.{Opt}
use Rattle.gic_words.specs.declared.option.Opt.TheVariants.{Case, Storm, Switch, North, East, Width, Detail, Seed, Size, Event, Cert, Transformer, Tolerance}
use Rattle.gic_words.specs.declared.option.Form.{Form}
use Rattle.gic_words.specs.declared.option.Form.TheVariants as form
use Rattle.gic_words.specs.declared.mode.Mode.{Mode}
use Rattle.gic_words.specs.declared.mode.Mode.TheVariants as mode
use Rattle.gic_words.specs.declared.request.Request.{Request}
use Rattle.gic_words.specs.declared.request.NetworkRequest.{NetworkRequest}
use Rattle.gic_words.specs.declared.request.StudyRequest.{StudyRequest}
use Rattle.gic_words.specs.declared.request.MakeRequest.{MakeRequest}
use Rattle.gic_words.specs.declared.request.RecheckRequest.{RecheckRequest}
use Rattle.gic_words.specs.declared.request.SeriesRequest.{SeriesRequest}
use Rattle.gic_words.specs.declared.request.RobustRequest.{RobustRequest}
use Rattle.gic_words.specs.declared.request.Request.TheVariants as request
use Rattle.gic_criteria.specs.Questions.{no_uniform_field, usual_criteria}
use Rattle.gic_criteria.specs.declared.asked.Criteria.{Criteria}
use Rattle.gic_criteria.specs.declared.asked.Question.{Question}
use Rattle.gic_criteria.specs.declared.asked.UniformField.{UniformField}
use Rattle.gic_words.specs.declared.mode.Use.{Use}
use Rattle.gic_words.specs.declared.mode.Use.TheVariants.{Required, Allowed, Unused}
use Rattle.gic_words.specs.declared.fault.Usage.{Usage}
use Rattle.gic_words.specs.declared.fault.Usage.TheVariants as usage

-- a value that is not what its form asks
abbrev pub form_fault : Form → Opt → List ℕ → Option Usage
form_fault form.Name o text = None
form_fault (form.Number least most) o text = if is_some (number_in o text) then None else Some (usage.Number o)
form_fault form.Event o text = if is_some (event_of text) then None else Some (usage.Value o)

-- the fault of the value of an option that the mode uses
abbrev pub value_fault : Opt → List ℕ → Option Usage
value_fault o text = form_fault (form_of o) o text

-- the fault of an option, given or not, by the use that the mode has for it
abbrev pub use_fault : Use → Opt → Option (List ℕ) → Option Usage
use_fault Unused o (Some text) = Some (usage.Extra o)
use_fault Unused o None = None
use_fault Required o None = Some (usage.Missing o)
use_fault Required o (Some text) = value_fault o text
use_fault Allowed o None = None
use_fault Allowed o (Some text) = value_fault o text

-- the fault of one option
abbrev pub option_fault : ModeRow → Opt → Option (List ℕ) → Option Usage
option_fault r o value = use_fault (use_of r o) o value

abbrev pub or_next : Option Usage → Option Usage → Option Usage
or_next (Some u) next = Some u
or_next None next = next

-- the first fault of these options
abbrev pub first_fault : ModeRow → List Row → List Opt → Option Usage
first_fault r rows [] = None
first_fault r rows (o ∷ os) = or_next (option_fault r o (given rows o)) (first_fault r rows os)

-- ---- what the words of a mode ask for, where they have no fault

-- a number that may be given
abbrev pub number_given : List Row → Opt → Option ℤ
number_given rows o = option_and_then (number_in o) (given rows o)

-- a number that isn't negative, where it is given
abbrev pub count_given : List Row → Opt → Option ℕ
count_given rows o = option_map unsigned_abs (number_given rows o)

-- the field in one direction, 0 where it is not given
abbrev pub part_given : List Row → Opt → ℤ
part_given rows o = unwrap_or (number_given rows o) no_uniform_field.north

-- the field
abbrev pub field_given : List Row → UniformField
field_given rows = record { north = part_given rows North; east = part_given rows East }

-- the width, 100 where it is not given
abbrev pub width_given : List Row → ℕ
width_given rows = unwrap_or (count_given rows Width) usual_criteria.width

-- the event, the benchmark one where none is given
abbrev pub event_given : List Row → NamedEvent
event_given rows = unwrap_or (option_and_then event_of (given rows Event)) usual_criteria.event

-- the criteria
abbrev pub criteria_given : List Row → Criteria
criteria_given rows = record { width = width_given rows; event = event_given rows }

-- the field and the criteria
abbrev pub question_given : List Row → Question
question_given rows = record { field = field_given rows; criteria = criteria_given rows }

-- the text of an option that the mode requires
abbrev pub text_of : List Row → Opt → Result (List ℕ) Usage
text_of rows o = ok_or (given rows o) (usage.Missing o)

-- the number of one
abbrev pub count_of : List Row → Opt → Result ℕ Usage
count_of rows o = ok_or (count_given rows o) (usage.Missing o)

-- what a mode over the network of a case is asked: where it has no use for the switchings, the field, the width or the event, none is given
abbrev pub network_request : List Row → Result NetworkRequest Usage
network_request rows = do
  case ← text_of rows Case
  Ok (record { case = case; switch = given rows Switch; question = question_given rows })

-- what each other mode is asked
abbrev pub study_request : List Row → Result StudyRequest Usage
study_request rows = do
  case ← text_of rows Case
  storm ← text_of rows Storm
  Ok (record { case = case; storm = storm; switch = given rows Switch; criteria = criteria_given rows; detail = count_given rows Detail })

abbrev pub make_request : List Row → Result MakeRequest Usage
make_request rows = do
  seed ← count_of rows Seed
  size ← count_of rows Size
  Ok (record { seed = seed; size = size })

abbrev pub recheck_request : List Row → Result RecheckRequest Usage
recheck_request rows = do
  case ← text_of rows Case
  cert ← text_of rows Cert
  Ok (record { case = case; switch = given rows Switch; cert = cert })

abbrev pub series_request : List Row → Result SeriesRequest Usage
series_request rows = do
  case ← text_of rows Case
  storm ← text_of rows Storm
  transformer ← text_of rows Transformer
  Ok (record { case = case; storm = storm; switch = given rows Switch; width = width_given rows; transformer = transformer })

abbrev pub robust_request : List Row → Result RobustRequest Usage
robust_request rows = do
  case ← text_of rows Case
  tolerance ← count_of rows Tolerance
  Ok (record { case = case; switch = given rows Switch; criteria = record { criteria = criteria_given rows; tolerance = tolerance } })

-- what is asked for, where it is asked rightly
abbrev pub as_request : {A : Type 0} → (A → Request) → Result A Usage → Result Request Usage
as_request make (Ok a) = Ok (make a)
as_request make (Err u) = Err u

-- what is asked for; one row for the modes over the network of a case, and one for each other
abbrev pub request_by : Mode → List Row → Result Request Usage
request_by (mode.Network m) rows = as_request (request.Network m) (network_request rows)
request_by mode.Study rows = as_request request.Study (study_request rows)
request_by mode.Make rows = as_request request.Make (make_request rows)
request_by mode.Recheck rows = as_request request.Recheck (recheck_request rows)
request_by mode.Series rows = as_request request.Series (series_request rows)
request_by mode.Robust rows = as_request request.Robust (robust_request rows)

-- ---- the words

-- what is asked for, unless there is a fault
abbrev pub unless_refused : Option Usage → Result Request Usage → Result Request Usage
unless_refused (Some u) asked = Err u
unless_refused None asked = asked

-- what the words of a mode ask for, or their first fault
abbrev pub request_in_mode : Option ModeRow → List Row → Result Request Usage
request_in_mode None rows = Err usage.Mode
request_in_mode (Some r) rows = unless_refused (first_fault r rows all_options) (request_by r.mode rows)

-- the row of the mode that the matches name
abbrev pub mode_in : List Row → Option ModeRow
mode_in rows = option_and_then row_named (given_mode rows)

-- what clap's matches ask for
abbrev pub request_of_rows : List Row → Result Request Usage
request_of_rows rows = request_in_mode (mode_in rows) rows

-- words in which clap's definition finds a fault are refused as such
abbrev pub unless_faulty : Kinds → List Row → Result Request Usage
unless_faulty [] rows = request_of_rows rows
unless_faulty (k ∷ ks) rows = Err usage.Words

-- what the words ask for, or their first fault
unfoldable pub request_of : List (List ℕ) → Result Request Usage
request_of words = unless_faulty (faults_of words) (matches_of_words words)
