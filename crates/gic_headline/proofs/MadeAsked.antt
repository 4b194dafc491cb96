-- What is asked for is a made case only of numbers in their ranges.
use Rattle.std.proofs.Common.{ℕ, List, subst, Ok}
use Rattle.std.specs.Prelude.{⊤}
use Rattle.gic_words.specs.Accepted.{AreOfMade, CanBeMade, MadeInRange}
use Rattle.gic_words.specs.Requests.{request_of}
use Rattle.gic_words.specs.declared.request.Request.{Request}
use Rattle.gic_words.specs.declared.request.Request.TheVariants as request
use Rattle.gic_ask.specs.Contents.{Contents}
use Rattle.gic_ask.specs.Outcome.{Outcome, Accepts, ◌>>=◌, reading, reading_case, reading_certificate, reading_network, reading_over, reading_switchings, transformer_asked, asking, asking_network, asking_study, asking_recheck, asking_series, outcome, network_given, recheck_given, series_given, study_given}
use Rattle.gic_ask.specs.declared.fault.File.TheVariants as file
use Rattle.gic_ask.specs.declared.fault.InputRefusal.TheVariants as refusals
use Rattle.gic_inputs.specs.declared.inputs.Inputs.{Inputs}
use Rattle.gic_ask.specs.declared.request.Asked.{Asked}
use Rattle.gic_ask.specs.declared.request.Asked.TheVariants.{Make, Robust}
use Rattle.gic_study.specs.Answers.{Call, AsksFor}
use Rattle.gic_study.proofs.Accepting.{Holds, Any, then_holds, anyway, reading_holds, made_holds}

-- the numbers of a made case that is asked for are in their ranges
abbrev pub IsMadeInRange : Asked → Type 0
IsMadeInRange (Make r) = AreOfMade r.seed r.size
IsMadeInRange _ = ⊤

module _ (contents : Contents) where
  -- of a network alone
  none_made : {Q : Type 0} (o : Outcome (Inputs Q)) (make : Inputs Q → Asked) → ((inputs : Inputs Q) → IsMadeInRange (make inputs)) → Holds IsMadeInRange (o >>= (λ i. Accepts (make i)))
  none_made o make h = made_holds Any IsMadeInRange o make (anyway o) (λ inputs any. h inputs)

  asking_in_range : (r : Request) → CanBeMade r → Holds IsMadeInRange (asking r contents)
  asking_in_range (request.Network m r) can =
      then_holds Any IsMadeInRange (reading_case (contents file.Case)) (λ lists. asking_network m r lists contents) (anyway (reading_case (contents file.Case)))
      (λ lists any. made_holds Any IsMadeInRange (reading_switchings r.switch lists contents) (network_given m r lists) (anyway (reading_switchings r.switch lists contents)) (λ rows other. tt))
  asking_in_range (request.Study r) can =
      then_holds Any IsMadeInRange (reading_case (contents file.Case)) (λ lists. asking_study r lists contents) (anyway (reading_case (contents file.Case)))
      (λ lists any. made_holds Any IsMadeInRange _ (study_given r) (anyway (reading_over r.switch _ lists contents)) (λ inputs other. tt))
  asking_in_range (request.Make r) can = can
  asking_in_range (request.Recheck r) can =
      then_holds Any IsMadeInRange (reading_network r.switch _ contents) (λ inputs. asking_recheck inputs contents) (anyway (reading_network r.switch _ contents))
      (λ inputs any. made_holds Any IsMadeInRange (reading_certificate (contents file.Certificate)) (recheck_given inputs) (anyway (reading_certificate (contents file.Certificate))) (λ certificate other. tt))
  asking_in_range (request.Series r) can =
      then_holds Any IsMadeInRange (reading_case (contents file.Case)) (λ lists. asking_series r lists contents) (anyway (reading_case (contents file.Case)))
      (λ lists any. then_holds Any IsMadeInRange (reading (λ refusal. refusal) (transformer_asked lists r.transformer)) _ (anyway (reading (λ refusal. refusal) (transformer_asked lists r.transformer)))
      (λ place other. made_holds Any IsMadeInRange _ (series_given r place) (anyway (reading_over r.switch _ lists contents)) (λ inputs more. tt)))
  asking_in_range (request.Robust r) can = none_made _ Robust (λ inputs. tt)

outcome_in_range : MadeInRange → (words : List (List ℕ)) (contents : Contents) → Holds IsMadeInRange (outcome words contents)
outcome_in_range ranges words contents =
    then_holds CanBeMade IsMadeInRange (reading refusals.Usage (request_of words)) (λ r. asking r contents)
    (reading_holds CanBeMade refusals.Usage (request_of words) (ranges words)) (λ r can. asking_in_range contents r can)

pub made_asked : MadeInRange → (call : Call) (asked : Asked) → AsksFor call (Ok asked) → IsMadeInRange asked
made_asked ranges call asked asks = subst (Holds IsMadeInRange) asks.asked (outcome_in_range ranges call.words asks.contents)
