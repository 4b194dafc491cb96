-- What the theorem of a certificate's text says.
use Rattle.std.specs.Prelude.{ℕ, ◌≡◌, ◌≤◌, ◌<◌, List, length, map, is_some, true, false, Ok, slice_index_or}
use Rattle.std.specs.List.{AllByRecursion}
use Rattle.gic_base.specs.Name.{is_name}
use Rattle.gic_model.specs.Standing.{is_live}
use Rattle.gic_model.specs.Sums.{Placed}
use Rattle.gic_cert.specs.declared.limits.TheConstants.{MOST_WRITTEN_NODES}
use Rattle.gic_cert.specs.Passing.{HasNodes}
use Rattle.gic_cert.specs.Written.{Certificate, IsWritten}
use Rattle.gic_cert.specs.Text.{cert_text}
use Rattle.gic_cert.specs.Reading.{NamedNode, cert_of}

-- reading the text of a certificate gives the certificate, over few enough nodes of which it has numbers at exactly the live ones
abbrev pub ReadingGivesBack : Type 0
ReadingGivesBack = (nodes : List NamedNode) (c : Certificate) →
    AllByRecursion (λ node. is_name node.0 ≡ true) nodes → length nodes ≤ MOST_WRITTEN_NODES →
    IsWritten c → map is_some c.nodes ≡ map (λ node. node.1) nodes →
    cert_of nodes (cert_text (map (λ node. node.0) nodes) c) ≡ Ok c

-- certificates over nodes of the same names that have the same text are the same
abbrev pub TextDeterminesCertificate : Type 0
TextDeterminesCertificate = (names : List (List ℕ)) (c d : Certificate) →
    AllByRecursion (λ name. is_name name ≡ true) names → length names ≤ MOST_WRITTEN_NODES →
    IsWritten c → IsWritten d → length c.nodes ≡ length names → length d.nodes ≡ length names →
    cert_text names c ≡ cert_text names d → c ≡ d

-- where the named nodes are those of the network, a certificate with numbers at exactly the live ones has the network's nodes
abbrev pub NumbersAtLiveNodes : Type 0
NumbersAtLiveNodes = (nodes : List NamedNode) (standing : List Placed) (c : Certificate) →
    ((k : ℕ) → k < length nodes → slice_index_or (map (λ node. node.1) nodes) k false ≡ is_live standing k) →
    map is_some c.nodes ≡ map (λ node. node.1) nodes → HasNodes (length nodes) standing c
