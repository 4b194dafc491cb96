-- What a report of a certificate has to say, and how the call ends that writes it.
use Rattle.std.specs.Prelude.{◌≡◌, ℕ, List, [], ◌∷◌, Option, option_map, Ok, Err, Result, length, map, pos}
use Rattle.std.specs.List.{range_with_len}
use Rattle.std.specs.Io.KnownBytes.{Keeps}
use Rattle.gic_case.specs.Lists.{Lists}
use Rattle.gic_fixed.specs.Ends.{Ends}
use Rattle.gic_fixed.specs.Rounding.{floor_div, ceil_div}
use Rattle.gic_model.specs.Sharp.{millivolt}
use Rattle.gic_model.specs.Sums.{Placed}
use Rattle.gic_cert.specs.Written.{Certificate, interval_of}
use Rattle.gic_stand.specs.Needs.{Nothing}
use Rattle.gic_stand.specs.Serves.{Shown, Serves}
use Rattle.gic_stand.specs.Standing.{standing_of}
use Rattle.gic_inputs.specs.declared.inputs.Inputs.{Inputs}
use Rattle.gic_text.specs.Lines.{lines_text}
use Rattle.gic_recheck.specs.Accepted.{IsAccepted, IsRefused}
use Rattle.gic_recheck.specs.RecheckText.{recheck_report}
use Rattle.gic_recheck.specs.declared.fault.RecheckFault.{RecheckFault}
use Rattle.gic_recheck.specs.declared.fault.RecheckFault.TheVariants.{Refused, Report}

-- an interval in grains, in mV outward
abbrev pub in_millivolts : Ends → Ends
in_millivolts ends = record { low = floor_div ends.low (pos millivolt); high = ceil_div ends.high (pos millivolt) }

-- the interval in mV of the potential of the node k, none where it is dead
abbrev pub potential_of : Certificate → ℕ → Option Ends
potential_of c k = option_map in_millivolts (interval_of c k)

-- the same of each node, in node order
abbrev pub potentials_of : Certificate → List (Option Ends)
potentials_of c = map (potential_of c) (range_with_len 0 (length c.nodes))

-- the text of the report
abbrev pub recheck_text : Lists → Certificate → List ℕ
recheck_text case c = lines_text (recheck_report case c.north c.east (potentials_of c))

-- the text is that of a certificate that is accepted, whoever made it
pub record ShowsAccepted (case : Lists) (standing : List Placed) (bytes : List ℕ) (text : List ℕ) : Type 0 where
  pub certificate : Certificate
  pub accepted : IsAccepted case standing bytes certificate
  pub text_is : text ≡ recheck_text case certificate

-- with all switchings in force
abbrev pub IsRightRecheck : Inputs (Unit {0}) → (bytes : List ℕ) → List ℕ → Type 0
IsRightRecheck inputs bytes = ShowsAccepted inputs.case (standing_of inputs.case inputs.switchings) bytes

-- how the call ends over this standing network: as a mode that needs nothing of it, or with the refusal of the certificate and nothing written
abbrev pub ServesCertificate : Lists → List Placed → (bytes : List ℕ) → (before now : Shown) → Result (Unit {0}) RecheckFault → Type 0
ServesCertificate case standing bytes before now (Ok done) = Serves Nothing case (standing ∷ []) (ShowsAccepted case standing bytes) before now (Ok done)
ServesCertificate case standing bytes before now (Err (Report fault)) = Serves Nothing case (standing ∷ []) (ShowsAccepted case standing bytes) before now (Err fault)
ServesCertificate case standing bytes before now (Err (Refused refusal)) = IsRefused case standing bytes refusal × Keeps before.bytes now.bytes

-- how it ends with all switchings in force
abbrev pub ServesRecheck : Inputs (Unit {0}) → (bytes : List ℕ) → (before now : Shown) → Result (Unit {0}) RecheckFault → Type 0
ServesRecheck inputs = ServesCertificate inputs.case (standing_of inputs.case inputs.switchings)
