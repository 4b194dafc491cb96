-- How refusals of a certificate are told.
use Rattle.std.specs.Prelude.{◌≡◌, ℕ, ◌<◌, List, ⊤, Ok, Err, Result}
use Rattle.gic_base.specs.declared.sink.WriteFailed.{WriteFailed}
use Rattle.gic_case.specs.Lists.{Lists}
use Rattle.gic_model.specs.Sums.{Placed}
use Rattle.gic_cert.specs.Written.{Certificate}
use Rattle.gic_cert.specs.declared.refusal.CertRefusal.{CertRefusal}
use Rattle.gic_cert.specs.declared.refusal.CertRefusal.TheVariants as cert
use Rattle.gic_stand.specs.declared.fault.ReportFault.TheVariants.{CannotWrite}
use Rattle.gic_recheck.specs.declared.fault.CertificateRefusal.{CertificateRefusal}
use Rattle.gic_recheck.specs.declared.fault.CertificateRefusal.TheVariants.{Shape, Number, Node, Row, Residual, Radius}
use Rattle.gic_recheck.specs.declared.fault.RecheckFault.{RecheckFault}
use Rattle.gic_recheck.specs.declared.fault.RecheckFault.TheVariants.{Report}
use Rattle.gic_recheck.specs.declared.fault.WorkspaceFault.{WorkspaceFault}
use Rattle.gic_recheck.specs.declared.fault.WorkspaceFault.TheVariants.{Refused, Memory}
use Rattle.gic_recheck.specs.Accepted.{IsRefused, BreaksOwn, name_at}

-- a refusal with the name of its node
abbrev pub told_as : Lists → CertRefusal → CertificateRefusal
told_as case (cert.Shape row) = Shape row
told_as case (cert.Number row) = Number row
told_as case (cert.Node row) = Node row
told_as case (cert.Row node) = Row (name_at case node)
told_as case (cert.Residual node) = Residual (name_at case node)
told_as case (cert.Radius node) = Radius (name_at case node)

-- the node of a refusal, where it tells one, is one of the first `nodes`
abbrev pub IsNodeWithin : (nodes : ℕ) → CertRefusal → Type 0
IsNodeWithin nodes (cert.Row node) = node.0 < nodes
IsNodeWithin nodes (cert.Residual node) = node.0 < nodes
IsNodeWithin nodes (cert.Radius node) = node.0 < nodes
IsNodeWithin nodes _ = ⊤

-- the first rule that a certificate breaks is told so
pub record IsToldBreak (case : Lists) (standing : List Placed) (c : Certificate) (named : CertificateRefusal) : Type 0 where
  pub refusal : CertRefusal
  pub first : BreaksOwn case standing c refusal
  pub told : named ≡ told_as case refusal

-- no workspace is made since these bytes are refused, or since memory ran out
abbrev pub IsFaultOf : Lists → List Placed → (bytes : List ℕ) → WorkspaceFault → Type 0
IsFaultOf case standing bytes (Refused refusal) = IsRefused case standing bytes refusal
IsFaultOf case standing bytes Memory = ⊤

-- how the writing of a report ends
abbrev pub shown_so : Result (Unit {0}) WriteFailed → Result (Unit {0}) RecheckFault
shown_so (Ok done) = Ok done
shown_so (Err failed) = Err (Report CannotWrite)
