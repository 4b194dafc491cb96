-- Which certificates are accepted, and why others are refused.
use Rattle.std.specs.Prelude.{◌≡◌, ℕ, List, [], Ok, Err, slice_index_or}
use Rattle.gic_base.specs.declared.id.NodeId.{NodeId}
use Rattle.gic_case.specs.Lists.{Lists, node_names}
use Rattle.gic_model.specs.Sums.{Placed}
use Rattle.gic_winding.specs.ElementList.{elements_of}
use Rattle.gic_cert.specs.Written.{Certificate}
use Rattle.gic_cert.specs.Passing.{IsPassing}
use Rattle.gic_cert.specs.Reading.{cert_of}
use Rattle.gic_cert.specs.Reading.{certificate_nodes}
use Rattle.gic_cert.specs.Refusals.{IsFirstRefusal}
use Rattle.gic_cert.specs.declared.refusal.CertRefusal.{CertRefusal}
use Rattle.gic_cert.specs.declared.refusal.CertRefusal.TheVariants as cert
use Rattle.gic_uniform.specs.Uniform.{uniform_volts}
use Rattle.gic_recheck.specs.declared.fault.CertificateRefusal.{CertificateRefusal}
use Rattle.gic_recheck.specs.declared.fault.CertificateRefusal.TheVariants.{Shape, Number, Node, Row, Residual, Radius}

-- the certificate passes for the voltages of its own field
abbrev pub PassesOwn : Lists → List Placed → Certificate → Type 0
PassesOwn case standing c = IsPassing (elements_of case).nodes standing (uniform_volts case c.north c.east) c

-- this is the first rule that the certificate breaks, for the voltages of its own field
abbrev pub BreaksOwn : Lists → List Placed → Certificate → CertRefusal → Type 0
BreaksOwn case standing c refusal = IsFirstRefusal (elements_of case).nodes standing (uniform_volts case c.north c.east) c refusal

-- the name of a node of the case
abbrev pub name_at : Lists → NodeId → List ℕ
name_at case node = slice_index_or (node_names case) node.0 []

-- the bytes are this certificate of the case, and it passes
pub record IsAccepted (case : Lists) (standing : List Placed) (bytes : List ℕ) (c : Certificate) : Type 0 where
  pub read : cert_of (certificate_nodes case standing) bytes ≡ Ok c
  pub passes : PassesOwn case standing c

-- the bytes are a certificate of the case, and this is the first rule that it breaks; the node has this name
pub record IsUnpassed (case : Lists) (standing : List Placed) (bytes : List ℕ) (rule : NodeId → CertRefusal) (name : List ℕ) : Type 0 where
  pub certificate : Certificate
  pub read : cert_of (certificate_nodes case standing) bytes ≡ Ok certificate
  pub node : NodeId
  pub first : BreaksOwn case standing certificate (rule node)
  pub named : name ≡ name_at case node

-- why the bytes are refused: they are no certificate of the case, or one that doesn't pass
abbrev pub IsRefused : Lists → List Placed → (bytes : List ℕ) → CertificateRefusal → Type 0
IsRefused case standing bytes (Shape row) = cert_of (certificate_nodes case standing) bytes ≡ Err (cert.Shape row)
IsRefused case standing bytes (Number row) = cert_of (certificate_nodes case standing) bytes ≡ Err (cert.Number row)
IsRefused case standing bytes (Node row) = cert_of (certificate_nodes case standing) bytes ≡ Err (cert.Node row)
IsRefused case standing bytes (Row name) = IsUnpassed case standing bytes (λ node. cert.Row node) name
IsRefused case standing bytes (Residual name) = IsUnpassed case standing bytes (λ node. cert.Residual node) name
IsRefused case standing bytes (Radius name) = IsUnpassed case standing bytes (λ node. cert.Radius node) name
