-- The certificate of a network of a case, over the case's own nodes.
use Rattle.std.proofs.Common.{◌≡◌, ℕ, ◌*◌, ◌≤◌, ℤ, refl, ap, subst}
use Rattle.gic_case.specs.Lists.{Lists}
use Rattle.gic_cert.specs.declared.limits.TheConstants.{MOST_MADE_RADIUS}
use Rattle.gic_cert.specs.Passing.{IsPassing}
use Rattle.gic_cert.specs.Step.{checked_step}
use Rattle.gic_cert.specs.Text.{cert_text}
use Rattle.gic_cert.specs.Written.{Certificate, IsWritten, entry_of, guess_of, radius_of}
use Rattle.gic_case.specs.Lists.{node_names}
use Rattle.gic_model.specs.Network.{Network}
use Rattle.gic_net.specs.Net.{NetView, standing}
use Rattle.gic_winding.specs.ElementList.{elements_of}
use Rattle.gic_certify.specs.RightCertify.{ShowsPassing}

-- the radii are just what a given number of nodes ask for
abbrev IsExact : NetView → (ℕ → ℤ) → Certificate → ℕ → Type 0
IsExact net volts c nodes = (k : ℕ) → radius_of c k ≡ entry_of c k * checked_step (standing net) volts (guess_of c) nodes

-- its text is right
pub shows_passing : (case : Lists) (net : NetView) (volts : ℕ → ℤ) (north east : ℤ) (c : Certificate) → net.network ≡ elements_of case
    → IsWritten c → (c.north ≡ north) × (c.east ≡ east) → IsPassing net.network.nodes (standing net) volts c → IsExact net volts c net.network.nodes
    → ((k : ℕ) → radius_of c k ≤ MOST_MADE_RADIUS) → ShowsPassing case (standing net) volts north east (cert_text (node_names case) c)
shows_passing case net volts north east c same written field passes exact small =
    let nodes : net.network.nodes ≡ (elements_of case).nodes = ap (λ (n : Network). n.nodes) same in
    record {
      certificate = c;
      written = written;
      field = field;
      passes = subst (λ n. IsPassing n (standing net) volts c) nodes passes;
      exact = subst (IsExact net volts c) nodes exact;
      small = small;
      text_is = refl;
    }
