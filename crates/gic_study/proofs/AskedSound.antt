-- The case of what is asked for is sound.
use Rattle.std.proofs.Common.{◌≡◌, ℕ, List, Option, Result, Ok, Err, refl, subst, arith}
use Rattle.std.specs.Prelude.{IfOk}
use Rattle.gic_case.specs.Lists.{Lists}
use Rattle.gic_case.specs.Sound.{IsSound}
use Rattle.gic_case_reader.specs.Accepted.{AcceptedCasesAreSound}
use Rattle.gic_case_reader.specs.Rules.{case_of}
use Rattle.gic_case_reader.specs.declared.refusal.CaseRefusal.{CaseRefusal}
use Rattle.gic_make.specs.Accepted.{MadeCasesAreSound}
use Rattle.gic_words.specs.Accepted.{CanBeMade, MadeInRange}
use Rattle.gic_words.specs.Requests.{request_of}
use Rattle.gic_words.specs.declared.request.Request.{Request}
use Rattle.gic_words.specs.declared.request.Request.TheVariants as request
use Rattle.gic_ask.specs.Contents.{Contents}
use Rattle.gic_ask.specs.Outcome.{Accepts, ◌>>=◌, reading, handing, reading_case, reading_storm, reading_switchings, reading_certificate, reading_inputs, reading_network, reading_after_storm, reading_over, transformer_asked, asking, asking_network, asking_study, asking_recheck, asking_series, outcome, network_given, recheck_given, series_given, study_given}
use Rattle.gic_ask.specs.declared.fault.File.TheVariants as file
use Rattle.gic_ask.specs.declared.fault.InputRefusal.TheVariants as refusals
use Rattle.gic_inputs.specs.declared.inputs.Inputs.{Inputs}
use Rattle.gic_inputs.specs.declared.inputs.StormInputs.{StormInputs}
use Rattle.gic_criteria.specs.declared.asked.Criteria.{Criteria}
use Rattle.gic_ask.specs.declared.request.Asked.{Asked}
use Rattle.gic_ask.specs.declared.request.Asked.TheVariants.{Robust}
use Rattle.gic_study.specs.Laws.{case_asked, AskedCasesAreSound}
use Rattle.gic_study.proofs.Accepting.{Holds, Any, then_holds, anyway, reading_holds, made_holds}

-- ---- the case

case_or_refusal : AcceptedCasesAreSound → (bytes : List ℕ) (r : Result Lists CaseRefusal) → case_of bytes ≡ r → IfOk r IsSound
case_or_refusal accepted bytes (Ok case) is = accepted bytes case is
case_or_refusal accepted bytes (Err refusal) is = tt

abbrev IsOverSound : {Q : Type 0} → Inputs Q → Type 0
IsOverSound inputs = IsSound inputs.case

abbrev IsStormOverSound : StormInputs → Type 0
IsStormOverSound inputs = IsSound inputs.case

-- what is asked for over a sound case
abbrev IsAskedSound : Asked → Type 0
IsAskedSound asked = IsSound (case_asked asked)

module _ (accepted : AcceptedCasesAreSound) (made : MadeCasesAreSound) (contents : Contents) where
  case_sound : Holds IsSound (reading_case (contents file.Case))
  case_sound =
      then_holds Any IsSound (handing file.Case (contents file.Case)) (λ bytes. reading refusals.Case (case_of bytes)) (anyway (handing file.Case (contents file.Case)))
      (λ bytes any. reading_holds IsSound refusals.Case (case_of bytes) (case_or_refusal accepted bytes (case_of bytes) refl))

  network_sound : {Q : Type 0} (switch : Option (List ℕ)) (question : Q) → Holds IsOverSound (reading_network switch question contents)
  network_sound switch question =
      then_holds IsSound IsOverSound (reading_case (contents file.Case)) (λ case. reading_inputs switch question case contents) case_sound
      (λ case sound. made_holds Any IsOverSound (reading_switchings switch case contents) _ (anyway (reading_switchings switch case contents)) (λ rows any. sound))

  over_sound : (switch : Option (List ℕ)) (question : Criteria) (case : Lists) → IsSound case → Holds IsStormOverSound (reading_over switch question case contents)
  over_sound switch question case sound =
      then_holds Any IsStormOverSound (reading_storm case (contents file.Storm)) (λ storm. reading_after_storm switch question case storm contents) (anyway (reading_storm case (contents file.Storm)))
      (λ storm any. made_holds Any IsStormOverSound (reading_switchings switch case contents) _ (anyway (reading_switchings switch case contents)) (λ rows other. sound))

  over_network : {Q : Type 0} (switch : Option (List ℕ)) (question : Q) (make : Inputs Q → Asked) → ((inputs : Inputs Q) → IsOverSound inputs → IsAskedSound (make inputs))
      → Holds IsAskedSound (reading_network switch question contents >>= (λ i. Accepts (make i)))
  over_network switch question make h = made_holds IsOverSound IsAskedSound (reading_network switch question contents) make (network_sound switch question) h

  asking_sound : (r : Request) → CanBeMade r → Holds IsAskedSound (asking r contents)
  asking_sound (request.Network m r) can =
      then_holds IsSound IsAskedSound (reading_case (contents file.Case)) (λ lists. asking_network m r lists contents) case_sound
      (λ lists sound. made_holds Any IsAskedSound (reading_switchings r.switch lists contents) (network_given m r lists) (anyway (reading_switchings r.switch lists contents)) (λ rows any. sound))
  asking_sound (request.Study r) can =
      then_holds IsSound IsAskedSound (reading_case (contents file.Case)) (λ lists. asking_study r lists contents) case_sound
      (λ lists sound. made_holds IsStormOverSound IsAskedSound _ (study_given r) (over_sound r.switch _ lists sound) (λ inputs is_sound. is_sound))
  asking_sound (request.Make r) can = made r.seed r.size (omega (arith, can.seed_fits)) can.size_fits.least can.size_fits.most
  asking_sound (request.Recheck r) can =
      then_holds IsOverSound IsAskedSound (reading_network r.switch _ contents) (λ inputs. asking_recheck inputs contents) (network_sound r.switch _)
      (λ inputs sound. made_holds Any IsAskedSound (reading_certificate (contents file.Certificate)) (recheck_given inputs)
      (anyway (reading_certificate (contents file.Certificate))) (λ certificate any. sound))
  asking_sound (request.Series r) can =
      then_holds IsSound IsAskedSound (reading_case (contents file.Case)) (λ lists. asking_series r lists contents) case_sound
      (λ lists sound. then_holds Any IsAskedSound (reading (λ refusal. refusal) (transformer_asked lists r.transformer)) _ (anyway (reading (λ refusal. refusal) (transformer_asked lists r.transformer)))
      (λ place any. made_holds IsStormOverSound IsAskedSound _ (series_given r place) (over_sound r.switch _ lists sound) (λ inputs is_sound. is_sound)))
  asking_sound (request.Robust r) can = over_network r.switch _ Robust (λ inputs sound. sound)

outcome_sound : MadeInRange → AcceptedCasesAreSound → MadeCasesAreSound → (words : List (List ℕ)) (contents : Contents) → Holds IsAskedSound (outcome words contents)
outcome_sound ranges accepted made words contents =
    then_holds CanBeMade IsAskedSound (reading refusals.Usage (request_of words)) (λ r. asking r contents)
    (reading_holds CanBeMade refusals.Usage (request_of words) (ranges words)) (λ r can. asking_sound accepted made contents r can)

pub asked_sound : MadeInRange → AcceptedCasesAreSound → MadeCasesAreSound → AskedCasesAreSound
asked_sound ranges accepted made call asked asks = subst (Holds IsAskedSound) asks.asked (outcome_sound ranges accepted made call.words asks.contents)
