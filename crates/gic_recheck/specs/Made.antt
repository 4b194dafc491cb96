-- What the mode takes memory for.
use Rattle.std.specs.Prelude.{◌≡◌, ℕ, List, length, map, Ok}
use Rattle.gic_cert.specs.Passing.{HasNodes}
use Rattle.gic_cert.specs.Reading.{certificate_nodes, cert_of}
use Rattle.gic_inputs.specs.declared.inputs.Inputs.{Inputs}
use Rattle.gic_model.specs.Voltages.{number_at}
use Rattle.gic_net.specs.Net.{standing}
use Rattle.gic_stand.specs.Standing.{standing_of}
use Rattle.gic_uniform.specs.Uniform.{uniform_volts}
use Rattle.gic_view.specs.Kept.{optional_ends}
use Rattle.gic_winding.specs.ElementList.{elements_of}
use Rattle.gic_recheck.specs.RightRecheck.{potentials_of}
use Rattle.gic_recheck.specs.declared.workspace.Workspace.{Workspace}

-- it has the network with all switchings in force, and the voltages and the intervals of a certificate of its nodes
pub record IsMadeFor (inputs : Inputs (Unit {0})) (workspace : Workspace) : Type 0 where
  pub network : workspace.net.network ≡ elements_of inputs.case
  pub stands : standing workspace.net ≡ standing_of inputs.case inputs.switchings
  pub nodes : HasNodes workspace.net.network.nodes (standing workspace.net) workspace.cert
  pub count : length workspace.volts ≡ length workspace.net.network.list
  pub volts : number_at workspace.volts ≡ uniform_volts inputs.case workspace.cert.north workspace.cert.east
  pub intervals : map optional_ends workspace.intervals.items ≡ potentials_of workspace.cert

-- the certificate is what these bytes are
abbrev pub IsReadFrom : Inputs (Unit {0}) → (bytes : List ℕ) → Workspace → Type 0
IsReadFrom inputs bytes workspace = cert_of (certificate_nodes inputs.case (standing_of inputs.case inputs.switchings)) bytes ≡ Ok workspace.cert
