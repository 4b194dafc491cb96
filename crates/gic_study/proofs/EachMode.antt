-- What is proved of each mode.
use Rattle.std.proofs.Common.{◌≡◌, ◌∙◌, ℕ, ◌+◌, ◌*◌, ◌==◌, List, Option, Some, find, get_or, option_map, sym, ap, arith}
use Rattle.gic_words.specs.Table.{mode_rows}
use Rattle.gic_words.specs.declared.mode.Mode.{Mode}
use Rattle.gic_words.specs.declared.mode.Mode.TheVariants as modes
use Rattle.gic_words.specs.declared.mode.NetworkMode.{NetworkMode}
use Rattle.gic_words.specs.declared.mode.NetworkMode.TheVariants as network
use Rattle.gic_ask.specs.declared.request.Asked.{Asked}
use Rattle.gic_ask.specs.declared.request.Asked.TheVariants.{Network, Study, Make, Recheck, Series, Robust}
use Rattle.gic_ask.specs.declared.request.NetworkAsked.{NetworkAsked}
use Rattle.gic_recheck.specs.Determines.{AcceptedIsNotRefused}
use Rattle.gic_recheck.specs.declared.fault.CertificateRefusal.{CertificateRefusal}
use Rattle.gic_stand.specs.Needs.{Nothing, IsUnmet}
use Rattle.gic_stand.specs.Standing.{standing_of, steps_of}
use Rattle.gic_stand.proofs.Served.{met_nothing}
use Rattle.gic_stand.specs.declared.fault.NetworkRefusal.{NetworkRefusal}
use Rattle.gic_study.specs.Modes.{Plans, IsRightText, RefusesCertificate, network_meaning}
use Rattle.gic_study.specs.Laws.{mode_asked, need_of, case_asked, steps_asked, AcceptsCertificate, TextsTellModes}
use Rattle.gic_study.proofs.MetNeeds.{unmet_or_met}

-- ---- the first three bytes of a right text tell its mode

first_three : List ℕ → ℕ
first_three text = 65536 * get_or text 0 0 + 256 * get_or text 1 0 + get_or text 2 0

-- the mode whose word begins as the text does
abbrev mode_begun : List ℕ → Option Mode
mode_begun text = option_map (λ r. r.mode) (find (λ r. first_three r.word == first_three text) mode_rows)

-- a right text begins with the word of its mode, one row a mode over the network of a case
begins_in : (m : NetworkMode) (a : NetworkAsked) (text : List ℕ) → (network_meaning m).IsRight a text → mode_begun text ≡ Some (modes.Network m)
unfolding first_three
begins_in network.Volts a text right = ap mode_begun right
begins_in network.List a text right = ap mode_begun right
begins_in network.Check a text right = ap mode_begun right
begins_in network.Field a text right = ap mode_begun right.text_is
begins_in network.Screen a text right = ap mode_begun right.text_is
begins_in network.Certify a text right = ap mode_begun right.text_is
begins_in network.Outage a text right = ap mode_begun right.text_is
begins_in network.Review a text right = ap mode_begun right.text_is

-- and one for each other
begins : (plans : Plans) (asked : Asked) (text : List ℕ) → IsRightText plans asked text → mode_begun text ≡ Some (mode_asked asked)
unfolding first_three
begins plans (Network m a) text right = begins_in m a text right
begins plans (Study asked) text right = ap mode_begun right.text_is
begins plans (Make r) text right = ap mode_begun right.text_is
begins plans (Series asked) text right = ap mode_begun right.text_is
begins plans (Robust inputs) text right = ap mode_begun right.text_is
begins plans (Recheck asked) text right = ap mode_begun right.text_is

same_mode : (m n : Mode) → Some m ≡ Some n → m ≡ n
same_mode m n e = grind (arith, e)

pub texts_tell_modes : TextsTellModes
texts_tell_modes plans others asked other text right right' =
    same_mode (mode_asked asked) (mode_asked other) (sym (begins plans asked text right) ∙ begins others other text right')

-- ---- a certificate that is asked to be checked

-- a certificate is not both refused and accepted
pub refused_or_accepted : AcceptedIsNotRefused → (asked : Asked) (refusal : CertificateRefusal) → RefusesCertificate asked refusal → ¬ AcceptsCertificate asked
refused_or_accepted never (Network m a) refusal refused accepted = refused
refused_or_accepted never (Study asked) refusal refused accepted = refused
refused_or_accepted never (Make r) refusal refused accepted = refused
refused_or_accepted never (Series asked) refusal refused accepted = refused
refused_or_accepted never (Robust inputs) refusal refused accepted = refused
refused_or_accepted never (Recheck asked) refusal refused accepted = never asked.inputs.case (standing_of asked.inputs.case asked.inputs.switchings) asked.certificate accepted.0 refusal accepted.1 refused

-- what is right of a certificate shows that it is accepted
pub right_accepts : (plans : Plans) (asked : Asked) (text : List ℕ) → IsRightText plans asked text → AcceptsCertificate asked
right_accepts plans (Network m a) text right = tt
right_accepts plans (Study asked) text right = tt
right_accepts plans (Make r) text right = tt
right_accepts plans (Series asked) text right = tt
right_accepts plans (Robust inputs) text right = tt
right_accepts plans (Recheck asked) text right = (right.certificate, right.accepted)

-- where a certificate is asked to be checked, nothing is needed of the network
pub refused_needs_nothing : (asked : Asked) (refusal : CertificateRefusal) (network : NetworkRefusal) → RefusesCertificate asked refusal → ¬ IsUnmet (need_of asked) (case_asked asked) (steps_asked asked) network
refused_needs_nothing (Network m a) refusal network refused unmet = refused
refused_needs_nothing (Study asked) refusal network refused unmet = refused
refused_needs_nothing (Make r) refusal network refused unmet = refused
refused_needs_nothing (Series asked) refusal network refused unmet = refused
refused_needs_nothing (Robust inputs) refusal network refused unmet = refused
refused_needs_nothing (Recheck asked) refusal network refused unmet = unmet_or_met Nothing asked.inputs.case (steps_of asked.inputs) network unmet (met_nothing (steps_of asked.inputs))
