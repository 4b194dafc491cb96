-- How refusals are told.
use Rattle.std.proofs.Common.{◌≡◌, ℕ, ◌<◌, ℤ, List, Ok, Err, refl, sym, subst}
use Rattle.gic_case.specs.Lists.{Lists}
use Rattle.gic_model.specs.Standing.{IsLive}
use Rattle.gic_model.specs.Sums.{Placed}
use Rattle.gic_cert.specs.Reading.{certificate_nodes, cert_of}
use Rattle.gic_cert.specs.Refusals.{IsFirstRefusal}
use Rattle.gic_cert.specs.Written.{Certificate}
use Rattle.gic_cert.specs.declared.refusal.CertRefusal.{CertRefusal}
use Rattle.gic_cert.specs.declared.refusal.CertRefusal.TheVariants as cert
use Rattle.gic_recheck.specs.Accepted.{BreaksOwn, IsRefused}
use Rattle.gic_recheck.specs.Told.{told_as, IsNodeWithin, IsToldBreak}
use Rattle.gic_recheck.specs.declared.fault.CertificateRefusal.{CertificateRefusal}
use Rattle.gic_recheck.proofs.LineRefusals.{of_line}

-- the node of a rule that a certificate breaks is one of the network's
pub break_within : (nodes : ℕ) (standing : List Placed) (volts : ℕ → ℤ) (c : Certificate) (refusal : CertRefusal) → ((k : ℕ) → IsLive standing k → k < nodes)
    → IsFirstRefusal nodes standing volts c refusal → IsNodeWithin nodes refusal
break_within nodes standing volts c (cert.Row node) inside first = inside node.0 first.live
break_within nodes standing volts c (cert.Residual node) inside first = inside node.0 first.1.live
break_within nodes standing volts c (cert.Radius node) inside first = inside node.0 first.2.live
break_within nodes standing volts c (cert.Shape row) inside first = tt
break_within nodes standing volts c (cert.Number row) inside first = tt
break_within nodes standing volts c (cert.Node row) inside first = tt

-- what a reading answers
abbrev pub IsAnswered : Lists → List Placed → (bytes : List ℕ) → CertRefusal → Type 0
IsAnswered case standing bytes refusal = cert_of (certificate_nodes case standing) bytes ≡ Err refusal

-- a refusal of a reading tells no node
pub reading_within : (nodes : ℕ) (case : Lists) (standing : List Placed) (bytes : List ℕ) (refusal : CertRefusal) → IsAnswered case standing bytes refusal → IsNodeWithin nodes refusal
reading_within nodes case standing bytes (cert.Row node) h = absurd (of_line (certificate_nodes case standing) bytes (cert.Row node) h)
reading_within nodes case standing bytes (cert.Residual node) h = absurd (of_line (certificate_nodes case standing) bytes (cert.Residual node) h)
reading_within nodes case standing bytes (cert.Radius node) h = absurd (of_line (certificate_nodes case standing) bytes (cert.Radius node) h)
reading_within nodes case standing bytes (cert.Shape row) h = tt
reading_within nodes case standing bytes (cert.Number row) h = tt
reading_within nodes case standing bytes (cert.Node row) h = tt

-- and is told as the refusal of the bytes
pub reading_told : (case : Lists) (standing : List Placed) (bytes : List ℕ) (refusal : CertRefusal) → IsAnswered case standing bytes refusal → IsRefused case standing bytes (told_as case refusal)
reading_told case standing bytes (cert.Row node) h = absurd (of_line (certificate_nodes case standing) bytes (cert.Row node) h)
reading_told case standing bytes (cert.Residual node) h = absurd (of_line (certificate_nodes case standing) bytes (cert.Residual node) h)
reading_told case standing bytes (cert.Radius node) h = absurd (of_line (certificate_nodes case standing) bytes (cert.Radius node) h)
reading_told case standing bytes (cert.Shape row) h = h
reading_told case standing bytes (cert.Number row) h = h
reading_told case standing bytes (cert.Node row) h = h

-- so is a rule that the certificate breaks which the bytes are
break_refuses : (case : Lists) (standing : List Placed) (bytes : List ℕ) (c : Certificate) (refusal : CertRefusal) → cert_of (certificate_nodes case standing) bytes ≡ Ok c
    → BreaksOwn case standing c refusal → IsRefused case standing bytes (told_as case refusal)
break_refuses case standing bytes c (cert.Row node) read first = record { certificate = c; read = read; node = node; first = first; named = refl }
break_refuses case standing bytes c (cert.Residual node) read first = record { certificate = c; read = read; node = node; first = first; named = refl }
break_refuses case standing bytes c (cert.Radius node) read first = record { certificate = c; read = read; node = node; first = first; named = refl }
break_refuses case standing bytes c (cert.Shape row) read first = absurd first
break_refuses case standing bytes c (cert.Number row) read first = absurd first
break_refuses case standing bytes c (cert.Node row) read first = absurd first

pub break_told : (case : Lists) (standing : List Placed) (bytes : List ℕ) (c : Certificate) (named : CertificateRefusal) → cert_of (certificate_nodes case standing) bytes ≡ Ok c
    → IsToldBreak case standing c named → IsRefused case standing bytes named
break_told case standing bytes c named read told = subst (IsRefused case standing bytes) (sym told.told) (break_refuses case standing bytes c told.refusal read told.first)
