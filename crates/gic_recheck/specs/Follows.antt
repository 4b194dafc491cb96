-- What follows of a right report of a certificate, whoever made it.
use Rattle.std.specs.Prelude.{ℕ, ◌<◌, List, length, ℤ}
use Rattle.gic_case.specs.Lists.{Lists, node_names}
use Rattle.gic_case.specs.Sound.{IsSound}
use Rattle.gic_cert.specs.Written.{Certificate}
use Rattle.gic_effective.specs.RightView.{IsRightNode}
use Rattle.gic_exists.specs.Exists.{HasSolution}
use Rattle.gic_inputs.specs.declared.inputs.Inputs.{Inputs}
use Rattle.gic_stand.specs.Standing.{standing_of}
use Rattle.gic_uniform.specs.Uniform.{uniform_volts}
use Rattle.gic_recheck.specs.RightRecheck.{IsRightRecheck, potential_of}

-- the voltages of a certificate's own field, in nanovolts
abbrev pub certificate_volts : Lists → Certificate → ℕ → ℤ
certificate_volts case c = uniform_volts case c.north c.east

-- of a sound case, each interval holds its node's potential in every solution
abbrev pub AcceptedIntervalsHold : Type 0
AcceptedIntervalsHold = (inputs : Inputs (Unit {0})) (bytes text : List ℕ) → IsSound inputs.case → (report : IsRightRecheck inputs bytes text) →
    (k : ℕ) → k < length (node_names inputs.case) →
    IsRightNode (standing_of inputs.case inputs.switchings) (certificate_volts inputs.case report.certificate) k (potential_of report.certificate k)

-- and there is a solution
abbrev pub AcceptedCertificatesAreSolved : Type 0
AcceptedCertificatesAreSolved = (inputs : Inputs (Unit {0})) (bytes text : List ℕ) → IsSound inputs.case → (report : IsRightRecheck inputs bytes text) →
    HasSolution (standing_of inputs.case inputs.switchings) (certificate_volts inputs.case report.certificate)
