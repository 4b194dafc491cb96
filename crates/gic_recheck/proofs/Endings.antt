-- How the call of the mode ends.
use Rattle.std.proofs.Common.{◌≡◌, ℕ, List, [], ◌∷◌, Option, Result, Ok, Err, sym, subst}
use Rattle.gic_base.specs.Writes.{Writes}
use Rattle.gic_base.specs.declared.sink.WriteFailed.{WriteFailed}
use Rattle.gic_base.proofs.Parts.{keeps-refl}
use Rattle.gic_case.specs.Lists.{Lists}
use Rattle.gic_model.specs.Sums.{Placed}
use Rattle.gic_stand.specs.Serves.{Shown, shown}
use Rattle.gic_stand.proofs.Served.{met_nothing}
use Rattle.gic_recheck.specs.Accepted.{IsRefused}
use Rattle.gic_recheck.specs.RightRecheck.{ShowsAccepted, ServesCertificate}
use Rattle.gic_recheck.specs.Told.{shown_so}
use Rattle.gic_recheck.specs.declared.fault.CertificateRefusal.{CertificateRefusal}
use Rattle.gic_recheck.specs.declared.fault.RecheckFault.{RecheckFault}
use Rattle.gic_recheck.specs.declared.fault.RecheckFault.TheVariants.{Refused}

-- a text that is right was written, or a prefix of it
pub writing_served : {S : Type 0} {seen : S → Option (List ℕ)} {faults : S → ℕ} {before now : S} {text : List ℕ}
    (case : Lists) (standing : List Placed) (bytes : List ℕ) (writing : Result (Unit {0}) WriteFailed) (answer : Result (Unit {0}) RecheckFault)
    → ShowsAccepted case standing bytes text → Writes seen faults before now text writing → answer ≡ shown_so writing
    → ServesCertificate case standing bytes (shown seen faults before) (shown seen faults now) answer
writing_served case standing bytes (Ok done) answer right written is =
    subst (ServesCertificate case standing bytes _ _) (sym is) (record { met = met_nothing (standing ∷ []); text = _; right = right; written = written.all })
writing_served case standing bytes (Err failed) answer right written is =
    subst (ServesCertificate case standing bytes _ _) (sym is) (record { met = met_nothing (standing ∷ []); text = _; right = right; part = written.part; cause = written.cause.failed })

-- a certificate that is not accepted, and nothing was written
pub refusal_served : (case : Lists) (standing : List Placed) (bytes : List ℕ) (s : Shown) (refusal : CertificateRefusal)
    → IsRefused case standing bytes refusal → ServesCertificate case standing bytes s s (Err (Refused refusal))
refusal_served case standing bytes s refusal h = (h, keeps-refl s.bytes)
