-- That what is accepted is not refused.
use Rattle.std.proofs.Common.{◌≡◌, ◌∙◌, ℕ, List, Result, Ok, Err, ap, sym, subst, arith}
use Rattle.gic_base.specs.declared.id.NodeId.{NodeId}
use Rattle.gic_case.specs.Lists.{Lists}
use Rattle.gic_model.specs.Sums.{Placed}
use Rattle.gic_cert.specs.Reading.{certificate_nodes, cert_of}
use Rattle.gic_cert.specs.Written.{Certificate}
use Rattle.gic_cert.specs.declared.refusal.CertRefusal.{CertRefusal}
use Rattle.gic_cert.specs.declared.refusal.CertRefusal.TheVariants as cert
use Rattle.gic_recheck.specs.Accepted.{IsAccepted, IsUnpassed, PassesOwn, BreaksOwn}
use Rattle.gic_recheck.specs.Determines.{AcceptedIsNotRefused}
use Rattle.gic_recheck.specs.declared.fault.CertificateRefusal.TheVariants.{Shape, Number, Node, Row, Residual, Radius}

abbrev read_or : Result Certificate CertRefusal → Certificate → Certificate
read_or (Ok c) other = c
read_or (Err e) other = other

-- a reading has one certificate
same_certificate : (reading : Result Certificate CertRefusal) (c other : Certificate) → reading ≡ Ok c → reading ≡ Ok other → c ≡ other
same_certificate reading c other e f = ap (λ (r : Result Certificate CertRefusal). read_or r c) (sym e ∙ f)

-- and no refusal
not_read : (reading : Result Certificate CertRefusal) (c : Certificate) (refusal : CertRefusal) → reading ≡ Ok c → ¬ (reading ≡ Err refusal)
not_read reading c refusal e f = grind (arith, sym e ∙ f)

-- a certificate that passes breaks no rule
breaks_none : (case : Lists) (standing : List Placed) (c : Certificate) (refusal : CertRefusal) → PassesOwn case standing c
    → ¬ BreaksOwn case standing c refusal
breaks_none case standing c (cert.Row node) passes first = first.broken (passes.vector.rows node.0 first.live)
breaks_none case standing c (cert.Residual node) passes first = first.1.broken (passes.residuals node.0 first.1.live)
breaks_none case standing c (cert.Radius node) passes first = first.2.broken (passes.radii node.0 first.2.live)
breaks_none case standing c (cert.Shape row) passes first = first
breaks_none case standing c (cert.Number row) passes first = first
breaks_none case standing c (cert.Node row) passes first = first

not_unpassed : (case : Lists) (standing : List Placed) (bytes : List ℕ) (c : Certificate) (rule : NodeId → CertRefusal) (name : List ℕ)
    → IsAccepted case standing bytes c → ¬ IsUnpassed case standing bytes rule name
not_unpassed case standing bytes c rule name accepted unpassed =
    let same = same_certificate (cert_of (certificate_nodes case standing) bytes) c unpassed.certificate accepted.read unpassed.read in
    breaks_none case standing unpassed.certificate (rule unpassed.node) (subst (PassesOwn case standing) same accepted.passes) unpassed.first

pub accepted_is_not_refused : AcceptedIsNotRefused
accepted_is_not_refused case standing bytes c (Shape row) accepted refused = not_read (cert_of (certificate_nodes case standing) bytes) c (cert.Shape row) accepted.read refused
accepted_is_not_refused case standing bytes c (Number row) accepted refused = not_read (cert_of (certificate_nodes case standing) bytes) c (cert.Number row) accepted.read refused
accepted_is_not_refused case standing bytes c (Node row) accepted refused = not_read (cert_of (certificate_nodes case standing) bytes) c (cert.Node row) accepted.read refused
accepted_is_not_refused case standing bytes c (Row name) accepted refused = not_unpassed case standing bytes c (λ node. cert.Row node) name accepted refused
accepted_is_not_refused case standing bytes c (Residual name) accepted refused = not_unpassed case standing bytes c (λ node. cert.Residual node) name accepted refused
accepted_is_not_refused case standing bytes c (Radius name) accepted refused = not_unpassed case standing bytes c (λ node. cert.Radius node) name accepted refused
