-- How a mode's call ends.
use Rattle.std.proofs.Common.{◌≡◌, ℕ, zero, suc, List, [], ◌∷◌, Result, Ok, Err, sym, ap, subst, arith}
use Rattle.std.specs.Prelude.{OnOk, IsErrAnd}
use Rattle.std.specs.Io.KnownBytes.{Appends}
use Rattle.gic_base.specs.Causes.{HasCause}
use Rattle.gic_base.specs.Pieces.{AppendsPart}
use Rattle.gic_base.specs.declared.sink.WriteFailed.{WriteFailed}
use Rattle.gic_base.proofs.Parts.{keeps-refl}
use Rattle.gic_case.specs.Lists.{Lists}
use Rattle.gic_inputs.proofs.Answered.{answered}
use Rattle.gic_model.specs.Sums.{Placed}
use Rattle.gic_stand.specs.Needs.{Need, Nothing, Meets, Fails, IsMet, IsUnmet}
use Rattle.gic_stand.specs.Serves.{Shown, Serves, ended}
use Rattle.gic_stand.specs.declared.fault.ReportFault.{ReportFault}
use Rattle.gic_stand.specs.declared.fault.ReportFault.TheVariants.{Refused}
use Rattle.gic_stand.specs.declared.fault.NetworkRefusal.{NetworkRefusal}

-- what needs no network is met
pub met_nothing : (steps : List (List Placed)) → IsMet Nothing steps
met_nothing steps place within = tt

-- a need that is met at the one step
pub met_once : (need : Need) (standing : List Placed) → Meets need standing → IsMet need (standing ∷ [])
met_once need standing h zero within = h
met_once need standing h (suc place) within = absurd (omega (arith, within))

-- a need that isn't
pub unmet_once : (need : Need) (case : Lists) (standing : List Placed) (refusal : NetworkRefusal) → Fails need case 1 standing refusal → IsUnmet need case (standing ∷ []) refusal
unmet_once need case standing refusal h = record {
  place = zero;
  within = omega arith;
  met_before = λ earlier before. absurd (omega (arith, before));
  fails = h;
}

-- a text that is right was written, or a prefix of it
pub served : (need : Need) (case : Lists) (steps : List (List Placed)) (IsRight : List ℕ → Type 0) (text : List ℕ) (before now : Shown)
    (writing : Result (Unit {0}) WriteFailed) (answer : Result (Unit {0}) ReportFault)
    → IsMet need steps → IsRight text
    → OnOk writing (Appends before.bytes now.bytes text) → AppendsPart before.bytes now.bytes text → HasCause before.faults now.faults writing
    → answer ≡ ended writing → Serves need case steps IsRight before now answer
served need case steps IsRight text before now (Ok done) answer met right all part cause is =
    subst (Serves need case steps IsRight before now) (sym is) (record { met = met; text = text; right = right; written = all })
served need case steps IsRight text before now (Err e) answer met right all part cause is =
    subst (Serves need case steps IsRight before now) (sym is) (record { met = met; text = text; right = right; part = part; cause = cause.failed })

-- nothing was written, since the need is not met at the one step
pub unserved_network : (need : Need) (case : Lists) (standing : List Placed) (IsRight : List ℕ → Type 0) (s : Shown) (refusal : NetworkRefusal) (answer : Result (Unit {0}) ReportFault)
    → IsErrAnd answer (λ e. e ≡ Refused refusal) → Fails need case 1 standing refusal → Serves need case (standing ∷ []) IsRight s s answer
unserved_network need case standing IsRight s refusal answer h fails =
    subst (Serves need case (standing ∷ []) IsRight s s) (sym (answered answer (Refused refusal) h)) (unmet_once need case standing refusal fails, keeps-refl s.bytes)
