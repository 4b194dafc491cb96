-- A refusal of the words is one of the words alone.
use Rattle.std.proofs.Common.{◌≡◌, ℕ, List, Option, Some, None, Result, Ok, Err, refl, ap, subst, arith}
use Rattle.std.specs.Prelude.{ok_or, ⊤}
use Rattle.gic_case.specs.Lists.{Lists}
use Rattle.gic_case_reader.specs.Rules.{case_of}
use Rattle.gic_storm.specs.Rules.{storm_of}
use Rattle.gic_storm.specs.StormView.{zone_names}
use Rattle.gic_switch.specs.Rules.{switchings_of}
use Rattle.gic_words.specs.Requests.{request_of}
use Rattle.gic_words.specs.declared.request.Request.{Request}
use Rattle.gic_words.specs.declared.request.Request.TheVariants as request
use Rattle.gic_criteria.specs.declared.asked.Criteria.{Criteria}
use Rattle.gic_words.specs.declared.fault.Usage.{Usage}
use Rattle.gic_ask.specs.Contents.{Given, Absent, Long, Whole, Contents}
use Rattle.gic_ask.specs.Outcome.{Outcome, Refuses, Lacks, Accepts, ◌>>=◌, reading, if_given, handing, reading_file, reading_case, reading_storm, reading_switchings, reading_inputs, reading_network, reading_after_storm, reading_over, transformer_named, transformer_asked, asking, asking_network, asking_study, asking_recheck, asking_series}
use Rattle.gic_ask.specs.WordsRefused.{UsageIsOfWords}
use Rattle.gic_ask.specs.declared.fault.File.{File}
use Rattle.gic_ask.specs.declared.fault.File.TheVariants as file
use Rattle.gic_ask.specs.declared.fault.InputRefusal.{InputRefusal}
use Rattle.gic_ask.specs.declared.fault.InputRefusal.TheVariants.{Usage as UsageRefusal, UnknownTransformer, Case as CaseRefused, Storm as StormRefused, Switch as SwitchRefused}
use Rattle.gic_ask.specs.declared.request.Asked.{Asked}

-- the words are not refused for this, and what is accepted is so
abbrev Meets : {A : Type 0} → (A → Type 0) → Usage → Outcome A → Type 0
Meets P u (Refuses refusal) = ¬ (refusal ≡ UsageRefusal u)
Meets P u (Lacks file) = ⊤
Meets P u (Accepts a) = P a

module _ {A B : Type 0} (u : Usage) (P : A → Type 0) (Q : B → Type 0) where
  then_meets : (o : Outcome A) (next : A → Outcome B) → Meets P u o → ((a : A) → P a → Meets Q u (next a)) → Meets Q u (o >>= next)
  then_meets (Refuses refusal) next h more = h
  then_meets (Lacks file) next h more = tt
  then_meets (Accepts a) next h more = more a h

-- anything
abbrev Any : {A : Type 0} → A → Type 0
Any a = ⊤

reading_meets : {A E : Type 0} (u : Usage) (refusal : E → InputRefusal) (r : Result A E) → ((e : E) → ¬ (refusal e ≡ UsageRefusal u)) → Meets Any u (reading refusal r)
reading_meets u refusal (Ok a) other = tt
reading_meets u refusal (Err e) other = other e

handing_meets : (u : Usage) (file : File) (given : Given) → Meets Any u (handing file given)
handing_meets u file Absent = tt
handing_meets u file Long = λ e. grind (arith, e)
handing_meets u file (Whole bytes) = tt

file_meets : {A E : Type 0} (u : Usage) (file : File) (refusal : E → InputRefusal) (read : List ℕ → Result A E) (given : Given) → ((e : E) → ¬ (refusal e ≡ UsageRefusal u))
    → Meets Any u (reading_file file refusal read given)
file_meets u file refusal read given other =
    then_meets u Any Any (handing file given) (λ b. reading refusal (read b)) (handing_meets u file given) (λ b any. reading_meets u refusal (read b) other)

-- and what is made of it
made_meets : {A B : Type 0} (u : Usage) (o : Outcome A) (make : A → B) → Meets Any u o → Meets Any u (o >>= (λ a. Accepts (make a)))
made_meets u o make h = then_meets u Any Any o (λ a. Accepts (make a)) h (λ a any. tt)

given_meets : {X A : Type 0} (u : Usage) (named : Option X) (next : X → Outcome A) → ((x : X) → Meets Any u (next x)) → Meets Any u (if_given named next)
given_meets u None next h = tt
given_meets u (Some x) next h = made_meets u (next x) Some (h x)

found_meets : (u : Usage) (place : Option ℕ) → Meets Any u (reading (λ (refusal : InputRefusal). refusal) (ok_or place UnknownTransformer))
found_meets u None = λ e. grind (arith, e)
found_meets u (Some place) = tt

module _ (u : Usage) (contents : Contents) where
  case_meets : Meets Any u (reading_case (contents file.Case))
  case_meets = file_meets u file.Case CaseRefused case_of (contents file.Case) (λ refusal e. grind (arith, e))

  switchings_meets : (switch : Option (List ℕ)) (case : Lists) → Meets Any u (reading_switchings switch case contents)
  switchings_meets switch case =
      given_meets u switch (λ name. reading_file file.Switch SwitchRefused (switchings_of case) (contents file.Switch))
      (λ name. file_meets u file.Switch SwitchRefused (switchings_of case) (contents file.Switch) (λ refusal e. grind (arith, e)))

  network_meets : {Q : Type 0} (switch : Option (List ℕ)) (question : Q) → Meets Any u (reading_network switch question contents)
  network_meets switch question =
      then_meets u Any Any (reading_case (contents file.Case)) (λ case. reading_inputs switch question case contents) case_meets
      (λ case any. made_meets u (reading_switchings switch case contents) _ (switchings_meets switch case))

  over_meets : (switch : Option (List ℕ)) (question : Criteria) (case : Lists) → Meets Any u (reading_over switch question case contents)
  over_meets switch question case =
      then_meets u Any Any (reading_storm case (contents file.Storm)) (λ storm. reading_after_storm switch question case storm contents)
      (file_meets u file.Storm StormRefused (storm_of (zone_names case.zones)) (contents file.Storm) (λ refusal e. grind (arith, e)))
      (λ storm any. made_meets u (reading_switchings switch case contents) _ (switchings_meets switch case))

  asking_meets : (r : Request) → Meets Any u (asking r contents)
  asking_meets (request.Network m r) =
      then_meets u Any Any (reading_case (contents file.Case)) (λ lists. asking_network m r lists contents) case_meets
      (λ lists any. made_meets u _ _ (switchings_meets r.switch lists))
  asking_meets (request.Study r) =
      then_meets u Any Any (reading_case (contents file.Case)) (λ lists. asking_study r lists contents) case_meets
      (λ lists any. made_meets u _ _ (over_meets r.switch _ lists))
  asking_meets (request.Make r) = tt
  asking_meets (request.Recheck r) =
      then_meets u Any Any (reading_network r.switch _ contents) (λ inputs. asking_recheck inputs contents) (network_meets r.switch _)
      (λ inputs any. made_meets u _ _ (handing_meets u file.Certificate (contents file.Certificate)))
  asking_meets (request.Series r) =
      then_meets u Any Any (reading_case (contents file.Case)) (λ lists. asking_series r lists contents) case_meets
      (λ lists any. then_meets u Any Any (reading (λ refusal. refusal) (transformer_asked lists r.transformer)) _ (found_meets u (transformer_named lists r.transformer))
      (λ place any. made_meets u _ _ (over_meets r.switch _ lists)))
  asking_meets (request.Robust r) = made_meets u _ _ (network_meets r.switch _)

-- so no refusal of the words
unrefused : (u : Usage) (o : Outcome Asked) → Meets Any u o → ¬ (o ≡ Refuses (UsageRefusal u))
unrefused u o h is = subst (λ (x : Outcome Asked). Meets Any u x) is h refl

same_usage : (v u : Usage) → ◌≡◌ {A = Outcome Asked} (Refuses (UsageRefusal v)) (Refuses (UsageRefusal u)) → v ≡ u
same_usage v u e = grind (arith, e)

of_words : (u : Usage) (r : Result Request Usage) (contents : Contents) → reading UsageRefusal r >>= (λ q. asking q contents) ≡ Refuses (UsageRefusal u) → r ≡ Err u
of_words u (Ok q) contents e = absurd (unrefused u (asking q contents) (asking_meets u contents q) e)
of_words u (Err v) contents e = ap (λ (x : Usage). Err x) (same_usage v u e)

pub usage_is_of_words : UsageIsOfWords
usage_is_of_words words contents u e = of_words u (request_of words) contents e
