-- What the words and the files ask for.
use Rattle.std.specs.Prelude.{ℕ, List, Ok, Err, Result, None, Some, bytes_eq, ok_or, position}
use Rattle.std.specs.declared.option.Option.{Option}
use Rattle.gic_case.specs.Lists.{Lists}
use Rattle.gic_case_reader.specs.Rules.{case_of}
use Rattle.gic_model.specs.declared.parts.Switching.{Switching}
use Rattle.gic_storm.specs.Rules.{storm_of}
use Rattle.gic_storm.specs.StormView.{StormView, zone_names}
use Rattle.gic_switch.specs.Rules.{switchings_of}
use Rattle.gic_criteria.specs.Questions.{usual_criteria}
use Rattle.gic_criteria.specs.declared.asked.Criteria.{Criteria}
use Rattle.gic_words.specs.Requests.{request_of}
use Rattle.gic_words.specs.declared.mode.NetworkMode.{NetworkMode}
use Rattle.gic_words.specs.declared.request.NetworkRequest.{NetworkRequest}
use Rattle.gic_words.specs.declared.request.Request.{Request}
use Rattle.gic_words.specs.declared.request.Request.TheVariants as request
use Rattle.gic_words.specs.declared.request.SeriesRequest.{SeriesRequest}
use Rattle.gic_words.specs.declared.request.StudyRequest.{StudyRequest}
use Rattle.gic_inputs.specs.declared.inputs.Inputs.{Inputs}
use Rattle.gic_inputs.specs.declared.inputs.StormInputs.{StormInputs}
use Rattle.gic_ask.specs.Contents.{Given, Absent, Long, Whole, Contents}
use Rattle.gic_ask.specs.declared.fault.File.{File}
use Rattle.gic_ask.specs.declared.fault.File.TheVariants as file
use Rattle.gic_ask.specs.declared.fault.InputRefusal.{InputRefusal}
use Rattle.gic_ask.specs.declared.fault.InputRefusal.TheVariants.{Usage, TooLong, Case, UnknownTransformer, Storm, Switch}
use Rattle.gic_ask.specs.declared.request.Asked.{Asked}
use Rattle.gic_ask.specs.declared.request.Asked.TheVariants as asked

-- the first refusal, the first file that was not handed out, or what is accepted
pub data Outcome (A : Type 0) : Type 0 where
  Refuses : InputRefusal → Outcome A
  Lacks : File → Outcome A
  Accepts : A → Outcome A

-- what comes after what is accepted
infixl 10 ◌>>=◌
abbrev pub ◌>>=◌ : {A B : Type 0} → Outcome A → (A → Outcome B) → Outcome B
(Refuses refusal) >>= next = Refuses refusal
(Lacks file) >>= next = Lacks file
(Accepts a) >>= next = next a

-- what is read
abbrev pub reading : {A E : Type 0} → (E → InputRefusal) → Result A E → Outcome A
reading refusal (Ok a) = Accepts a
reading refusal (Err e) = Refuses (refusal e)

-- what is made of something, where it is there
abbrev pub if_given : {X A : Type 0} → Option X → (X → Outcome A) → Outcome (Option A)
if_given None next = Accepts None
if_given (Some x) next = next x >>= (λ a. Accepts (Some a))

-- ---- one file

-- its bytes
abbrev pub handing : File → Given → Outcome (List ℕ)
handing file Absent = Lacks file
handing file Long = Refuses (TooLong file)
handing file (Whole bytes) = Accepts bytes

-- its bytes, and what is read of them
abbrev pub reading_file : {A E : Type 0} → File → (E → InputRefusal) → (List ℕ → Result A E) → Given → Outcome A
reading_file file refusal read given = handing file given >>= (λ bytes. reading refusal (read bytes))

abbrev pub reading_case : Given → Outcome Lists
reading_case = reading_file file.Case Case case_of

-- a storm over the case
abbrev pub reading_storm : Lists → Given → Outcome StormView
reading_storm case = reading_file file.Storm Storm (storm_of (zone_names case.zones))

-- the switchings of the case, where they are named
abbrev pub reading_switchings : (switch : Option (List ℕ)) → Lists → Contents → Outcome (Option (List Switching))
reading_switchings switch case contents = if_given switch (λ name. reading_file file.Switch Switch (switchings_of case) (contents file.Switch))

-- a certificate; its bytes are handed on unread
abbrev pub reading_certificate : Given → Outcome (List ℕ)
reading_certificate = handing file.Certificate

-- ---- what modes are given, one file after another

-- the switchings of a case that is read
abbrev pub reading_inputs : {Q : Type 0} → (switch : Option (List ℕ)) → Q → Lists → Contents → Outcome (Inputs Q)
reading_inputs switch question case contents = do
  switchings ← reading_switchings switch case contents
  Accepts (record { case = case; switchings = switchings; question = question })

-- a case, and its switchings
abbrev pub reading_network : {Q : Type 0} → (switch : Option (List ℕ)) → Q → Contents → Outcome (Inputs Q)
reading_network switch question contents = do
  case ← reading_case (contents file.Case)
  reading_inputs switch question case contents

-- the switchings of a case, behind its storm
abbrev pub reading_after_storm : (switch : Option (List ℕ)) → Criteria → Lists → StormView → Contents → Outcome StormInputs
reading_after_storm switch question case storm contents = do
  switchings ← reading_switchings switch case contents
  Accepts (record { case = case; switchings = switchings; storm = storm; question = question })

-- a storm over a case that is read, and the switchings
abbrev pub reading_over : (switch : Option (List ℕ)) → Criteria → Lists → Contents → Outcome StormInputs
reading_over switch question case contents = do
  storm ← reading_storm case (contents file.Storm)
  reading_after_storm switch question case storm contents

-- the place of the transformer of the case that has this name; no two have one name
abbrev pub transformer_named : Lists → (name : List ℕ) → Option ℕ
transformer_named case name = position (λ t. bytes_eq t.name name) case.transformers

abbrev pub transformer_asked : Lists → (name : List ℕ) → Result ℕ InputRefusal
transformer_asked case name = ok_or (transformer_named case name) UnknownTransformer

-- ---- what is asked for

-- what a mode over the network of a case is given
abbrev pub network_given : NetworkMode → NetworkRequest → Lists → Option (List Switching) → Asked
network_given m r case switchings = asked.Network m (record { case = case; switchings = switchings; question = r.question })

-- what the modes with more than inputs are given
abbrev pub study_given : StudyRequest → StormInputs → Asked
study_given r inputs = asked.Study (record { inputs = inputs; detail = r.detail })

abbrev pub series_given : SeriesRequest → (transformer : ℕ) → StormInputs → Asked
series_given r transformer inputs = asked.Series (record { inputs = inputs; transformer = transformer })

abbrev pub recheck_given : Inputs (Unit {0}) → (certificate : List ℕ) → Asked
recheck_given inputs certificate = asked.Recheck (record { inputs = inputs; certificate = certificate })

-- of the network of a case
abbrev pub asking_network : NetworkMode → NetworkRequest → Lists → Contents → Outcome Asked
asking_network m r case contents = do
  switchings ← reading_switchings r.switch case contents
  Accepts (network_given m r case switchings)

-- of a storm over a case
abbrev pub asking_study : StudyRequest → Lists → Contents → Outcome Asked
asking_study r case contents = do
  inputs ← reading_over r.switch r.criteria case contents
  Accepts (study_given r inputs)

-- of one transformer, which is looked for as soon as its case is read
abbrev pub asking_series : SeriesRequest → Lists → Contents → Outcome Asked
asking_series r case contents = do
  place ← reading (λ refusal. refusal) (transformer_asked case r.transformer)
  inputs ← reading_over r.switch (record usual_criteria { width = r.width }) case contents
  Accepts (series_given r place inputs)

-- of a certificate
abbrev pub asking_recheck : Inputs (Unit {0}) → Contents → Outcome Asked
asking_recheck inputs contents = do
  certificate ← reading_certificate (contents file.Certificate)
  Accepts (recheck_given inputs certificate)

-- what a request asks for; one row for the modes over the network of a case, and one for each other
abbrev pub asking : Request → Contents → Outcome Asked
asking (request.Network m r) contents = do
  case ← reading_case (contents file.Case)
  asking_network m r case contents
asking (request.Study r) contents = do
  case ← reading_case (contents file.Case)
  asking_study r case contents
asking (request.Make r) contents = Accepts (asked.Make r)
asking (request.Recheck r) contents = do
  inputs ← reading_network r.switch (tt {0}) contents
  asking_recheck inputs contents
asking (request.Series r) contents = do
  case ← reading_case (contents file.Case)
  asking_series r case contents
asking (request.Robust r) contents = do
  inputs ← reading_network r.switch r.criteria contents
  Accepts (asked.Robust inputs)

-- the words, and then the files that they name, one after another
abbrev pub outcome : List (List ℕ) → Contents → Outcome Asked
outcome words contents = do
  r ← reading Usage (request_of words)
  asking r contents
