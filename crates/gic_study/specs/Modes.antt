-- What each mode is: what it needs of the network, and what it prints.
use Rattle.std.specs.Prelude.{ℕ, List, [], ◌∷◌, None}
use Rattle.gic_case.specs.Lists.{Lists}
use Rattle.gic_model.specs.Sums.{Placed}
use Rattle.gic_inputs.specs.declared.inputs.Inputs.{Inputs}
use Rattle.gic_inputs.specs.declared.inputs.StormInputs.{StormInputs}
use Rattle.gic_stand.specs.Needs.{Need, Nothing, Earthed, Solved}
use Rattle.gic_stand.specs.Standing.{standing_of, steps_of}
use Rattle.gic_ask.specs.Network.{inputs_over}
use Rattle.gic_ask.specs.declared.request.NetworkAsked.{NetworkAsked}
use Rattle.gic_ask.specs.declared.request.Asked.{Asked}
use Rattle.gic_ask.specs.declared.request.Asked.TheVariants.{Network, Study, Make, Recheck, Series, Robust}
use Rattle.gic_criteria.specs.declared.asked.Criteria.{Criteria}
use Rattle.gic_criteria.specs.declared.asked.Question.{Question}
use Rattle.gic_criteria.specs.declared.asked.UniformField.{UniformField}
use Rattle.gic_words.specs.declared.mode.NetworkMode.{NetworkMode}
use Rattle.gic_words.specs.declared.mode.NetworkMode.TheVariants as mode
use Rattle.gic_make.specs.MadeCase.{made_case}
use Rattle.gic_volts.specs.RightVolts.{IsRightVolts}
use Rattle.gic_list.specs.RightList.{IsRightList}
use Rattle.gic_check.specs.RightCheck.{IsRightCheck}
use Rattle.gic_field.specs.RightField.{IsRightField}
use Rattle.gic_screen_mode.specs.RightScreen.{IsRightScreen}
use Rattle.gic_certify.specs.RightCertify.{IsRightCertify}
use Rattle.gic_outage.specs.RightOutage.{IsRightOutage}
use Rattle.gic_review.specs.RightReview.{IsRightReview}
use Rattle.gic_robust.specs.Steps.{most_steps}
use Rattle.gic_robust.specs.RightRobust.{IsRightRobust}
use Rattle.gic_recheck.specs.Accepted.{IsRefused}
use Rattle.gic_recheck.specs.RightRecheck.{IsRightRecheck}
use Rattle.gic_recheck.specs.declared.fault.CertificateRefusal.{CertificateRefusal}
use Rattle.gic_make.specs.RightMake.{IsRightMake}
use Rattle.gic_study_mode.specs.RightStudy.{IsRightStudy}
use Rattle.gic_series.specs.RightSeries.{IsRightSeries}
use Rattle.gic_course.specs.Steps.{storm_steps}
use Rattle.gic_view.specs.View.{View}
use Rattle.gic_monitor.specs.RosterView.{RosterView}

-- what monitors would print, in their order, after beginning with a roster and seeing views
abbrev pub Plans : Type 0
Plans = RosterView → List View → List (List ℕ)

-- what is asked for: what it needs of the steps of a case, and when a text is right, where monitors with these plans see the steps of a study
pub record Meaning : Type 1 where
  pub need : Need
  pub case : Lists
  -- the elements that stand at each step
  pub steps : List (List Placed)
  pub IsRight : Plans → (text : List ℕ) → Type 0

-- of the network of a case, with all its switchings in force
abbrev over_network : {Q : Type 0} → Need → (Inputs Q → (text : List ℕ) → Type 0) → Inputs Q → Meaning
over_network need IsRight inputs = record { need = need; case = inputs.case; steps = steps_of inputs; IsRight = λ plans. IsRight inputs }

-- of a storm over the network of a case
abbrev over_storm : StormInputs → (Plans → (text : List ℕ) → Type 0) → Meaning
over_storm inputs IsRight = record { need = Solved; case = inputs.case; steps = storm_steps inputs; IsRight = IsRight }

-- a mode over the network of a case: what it needs of it, and when a text is right
pub record NetworkMeaning : Type 1 where
  pub need : Need
  pub IsRight : NetworkAsked → (text : List ℕ) → Type 0

-- of a mode that has a use for a field and criteria, for one of them, or for neither
abbrev by_question : Need → (Inputs Question → (text : List ℕ) → Type 0) → NetworkMeaning
by_question need IsRight = record { need = need; IsRight = λ a. IsRight (inputs_over a.question a) }

abbrev by_field : Need → (Inputs UniformField → (text : List ℕ) → Type 0) → NetworkMeaning
by_field need IsRight = record { need = need; IsRight = λ a. IsRight (inputs_over a.question.field a) }

abbrev by_criteria : Need → (Inputs Criteria → (text : List ℕ) → Type 0) → NetworkMeaning
by_criteria need IsRight = record { need = need; IsRight = λ a. IsRight (inputs_over a.question.criteria a) }

abbrev by_network : Need → (Inputs (Unit {0}) → (text : List ℕ) → Type 0) → NetworkMeaning
by_network need IsRight = record { need = need; IsRight = λ a. IsRight (inputs_over (tt {0}) a) }

-- one row a mode over the network of a case
abbrev pub network_meaning : NetworkMode → NetworkMeaning
network_meaning mode.Volts = by_field Nothing IsRightVolts
network_meaning mode.List = by_network Nothing IsRightList
network_meaning mode.Check = by_network Earthed IsRightCheck
network_meaning mode.Field = by_question Solved IsRightField
network_meaning mode.Screen = by_criteria Solved IsRightScreen
network_meaning mode.Certify = by_field Solved IsRightCertify
network_meaning mode.Outage = by_criteria Solved IsRightOutage
network_meaning mode.Review = by_network Nothing IsRightReview

-- one row for these, and one for each other mode
abbrev pub meaning_of : Asked → Meaning
meaning_of (Network m a) = record { need = (network_meaning m).need; case = a.case; steps = standing_of a.case a.switchings ∷ []; IsRight = λ plans. (network_meaning m).IsRight a }
meaning_of (Study asked) = over_storm asked.inputs (IsRightStudy asked.inputs asked.detail)
meaning_of (Make r) = record { need = Nothing; case = made_case r.seed r.size; steps = standing_of (made_case r.seed r.size) None ∷ []; IsRight = λ plans. IsRightMake r.seed r.size }
meaning_of (Recheck asked) = over_network Nothing (λ i. IsRightRecheck i asked.certificate) asked.inputs
meaning_of (Series asked) = over_storm asked.inputs (λ plans. IsRightSeries asked.inputs asked.transformer)
meaning_of (Robust inputs) = record { need = Solved; case = inputs.case; steps = most_steps inputs; IsRight = λ plans. IsRightRobust inputs }

-- a text is a right report of what is asked for
abbrev pub IsRightText : Plans → Asked → (text : List ℕ) → Type 0
IsRightText plans asked = (meaning_of asked).IsRight plans

-- the certificate that is asked to be checked is refused for this reason
abbrev pub RefusesCertificate : Asked → CertificateRefusal → Type 0
RefusesCertificate (Recheck asked) refusal = IsRefused asked.inputs.case (standing_of asked.inputs.case asked.inputs.switchings) asked.certificate refusal
RefusesCertificate _ refusal = ⊥
