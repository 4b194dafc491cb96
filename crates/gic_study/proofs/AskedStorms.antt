-- The storm of what is asked for has a step.
use Rattle.std.proofs.Common.{◌≡◌, ℕ, ◌≤◌, List, length, Option, Result, Ok, Err, refl, subst, arith}
use Rattle.std.specs.Prelude.{IfOk}
use Rattle.gic_case.specs.Lists.{Lists}
use Rattle.gic_storm.specs.Rules.{storm_of}
use Rattle.gic_storm.specs.Steps.{steps_in}
use Rattle.gic_storm.specs.StormView.{StormView, zone_names}
use Rattle.gic_storm.specs.declared.refusal.StormRefusal.{StormRefusal}
use Rattle.gic_study_mode.specs.Follows.{AcceptedStormsHaveSteps}
use Rattle.gic_words.specs.Requests.{request_of}
use Rattle.gic_words.specs.declared.request.Request.{Request}
use Rattle.gic_words.specs.declared.request.Request.TheVariants as request
use Rattle.gic_ask.specs.Contents.{Contents}
use Rattle.gic_ask.specs.Outcome.{Outcome, Accepts, ◌>>=◌, reading, handing, reading_case, reading_storm, reading_switchings, reading_certificate, reading_network, reading_after_storm, reading_over, transformer_asked, asking, asking_network, asking_study, asking_recheck, asking_series, outcome, network_given, recheck_given, series_given, study_given}
use Rattle.gic_ask.specs.declared.fault.File.TheVariants as file
use Rattle.gic_ask.specs.declared.fault.InputRefusal.TheVariants as refusals
use Rattle.gic_inputs.specs.declared.inputs.Inputs.{Inputs}
use Rattle.gic_inputs.specs.declared.inputs.StormInputs.{StormInputs}
use Rattle.gic_criteria.specs.declared.asked.Criteria.{Criteria}
use Rattle.gic_ask.specs.declared.request.Asked.{Asked}
use Rattle.gic_ask.specs.declared.request.Asked.TheVariants.{Robust}
use Rattle.gic_study.specs.Laws.{StormHasStep, AskedStormsHaveSteps}
use Rattle.gic_study.proofs.Accepting.{Holds, Any, then_holds, anyway, reading_holds, made_holds}

-- ---- the storm

abbrev IsStepped : StormView → Type 0
IsStepped storm = 1 ≤ length (steps_in storm.rows)

storm_or_refusal : AcceptedStormsHaveSteps → (zones : List (List ℕ)) (bytes : List ℕ) (r : Result StormView StormRefusal) → storm_of zones bytes ≡ r → IfOk r IsStepped
storm_or_refusal accepted zones bytes (Ok storm) is = accepted zones bytes storm is
storm_or_refusal accepted zones bytes (Err refusal) is = tt

-- over a storm that has a step
abbrev IsOverStepped : StormInputs → Type 0
IsOverStepped inputs = IsStepped inputs.storm

module _ (accepted : AcceptedStormsHaveSteps) (contents : Contents) where
  storm_stepped : (case : Lists) → Holds IsStepped (reading_storm case (contents file.Storm))
  storm_stepped case =
      then_holds Any IsStepped (handing file.Storm (contents file.Storm)) (λ bytes. reading refusals.Storm (storm_of (zone_names case.zones) bytes)) (anyway (handing file.Storm (contents file.Storm)))
      (λ bytes any. reading_holds IsStepped refusals.Storm (storm_of (zone_names case.zones) bytes)
      (storm_or_refusal accepted (zone_names case.zones) bytes (storm_of (zone_names case.zones) bytes) refl))

  over_stepped : (switch : Option (List ℕ)) (question : Criteria) (case : Lists) → Holds IsOverStepped (reading_over switch question case contents)
  over_stepped switch question case =
      then_holds IsStepped IsOverStepped (reading_storm case (contents file.Storm)) (λ storm. reading_after_storm switch question case storm contents) (storm_stepped case)
      (λ storm stepped. made_holds Any IsOverStepped (reading_switchings switch case contents) _ (anyway (reading_switchings switch case contents)) (λ rows any. stepped))

  -- of a network alone
  no_storm : {Q : Type 0} (o : Outcome (Inputs Q)) (make : Inputs Q → Asked) → ((inputs : Inputs Q) → StormHasStep (make inputs)) → Holds StormHasStep (o >>= (λ i. Accepts (make i)))
  no_storm o make h = made_holds Any StormHasStep o make (anyway o) (λ inputs any. h inputs)

  asking_stepped : (r : Request) → Holds StormHasStep (asking r contents)
  asking_stepped (request.Network m r) =
      then_holds Any StormHasStep (reading_case (contents file.Case)) (λ lists. asking_network m r lists contents) (anyway (reading_case (contents file.Case)))
      (λ lists any. made_holds Any StormHasStep (reading_switchings r.switch lists contents) (network_given m r lists) (anyway (reading_switchings r.switch lists contents)) (λ rows other. tt))
  asking_stepped (request.Study r) =
      then_holds Any StormHasStep (reading_case (contents file.Case)) (λ lists. asking_study r lists contents) (anyway (reading_case (contents file.Case)))
      (λ lists any. made_holds IsOverStepped StormHasStep _ (study_given r) (over_stepped r.switch _ lists) (λ inputs some. record { least = omega arith; most = some }))
  asking_stepped (request.Make r) = tt
  asking_stepped (request.Recheck r) =
      then_holds Any StormHasStep (reading_network r.switch _ contents) (λ inputs. asking_recheck inputs contents) (anyway (reading_network r.switch _ contents))
      (λ inputs any. made_holds Any StormHasStep (reading_certificate (contents file.Certificate)) (recheck_given inputs)
      (anyway (reading_certificate (contents file.Certificate))) (λ certificate other. tt))
  asking_stepped (request.Series r) =
      then_holds Any StormHasStep (reading_case (contents file.Case)) (λ lists. asking_series r lists contents) (anyway (reading_case (contents file.Case)))
      (λ lists any. then_holds Any StormHasStep (reading (λ refusal. refusal) (transformer_asked lists r.transformer)) _ (anyway (reading (λ refusal. refusal) (transformer_asked lists r.transformer)))
      (λ place other. made_holds IsOverStepped StormHasStep _ (series_given r place) (over_stepped r.switch _ lists) (λ inputs some. record { least = omega arith; most = some })))
  asking_stepped (request.Robust r) = no_storm _ Robust (λ inputs. tt)

outcome_stepped : AcceptedStormsHaveSteps → (words : List (List ℕ)) (contents : Contents) → Holds StormHasStep (outcome words contents)
outcome_stepped accepted words contents =
    then_holds Any StormHasStep (reading refusals.Usage (request_of words)) (λ r. asking r contents) (anyway (reading refusals.Usage (request_of words)))
    (λ r any. asking_stepped accepted contents r)

pub asked_stepped : AcceptedStormsHaveSteps → AskedStormsHaveSteps
asked_stepped accepted call asked asks = subst (Holds StormHasStep) asks.asked (outcome_stepped accepted call.words asks.contents)
