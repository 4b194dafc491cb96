-- What a certificate is made in.
use Rattle.std.specs.Prelude.{◌≡◌, ℕ, length}
use Rattle.gic_cert.specs.declared.cert_workspace.CertWorkspace.{CertWorkspace}

-- there is a place for each of this many nodes
pub record IsCertWorkspaceFor (nodes : ℕ) (workspace : CertWorkspace) : Type 0 where
  pub entries : length workspace.entries ≡ nodes
  pub guesses : length workspace.guesses.items ≡ nodes
  pub radii : length workspace.radii.items ≡ nodes
