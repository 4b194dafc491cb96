-- What follows of a right certificate.
use Rattle.std.specs.Prelude.{ℕ, ◌^◌, List, ℤ, pos, ◌+ℤ◌, ◌-ℤ◌, ◌*ℤ◌}
use Rattle.gic_case.specs.Sound.{IsSound}
use Rattle.gic_fixed.specs.Encloses.{Encloses}
use Rattle.gic_model.specs.Solution.{Solution, IsSolution}
use Rattle.gic_model.specs.Standing.{IsLive}
use Rattle.gic_model.specs.Sums.{Placed}
use Rattle.gic_cert.specs.Written.{Certificate, guess_of, radius_of}
use Rattle.gic_criteria.specs.declared.asked.UniformField.{UniformField}
use Rattle.gic_inputs.specs.declared.inputs.Inputs.{Inputs}
use Rattle.gic_stand.specs.Standing.{standing_of}
use Rattle.gic_uniform.specs.Uniform.{uniform_volts}
use Rattle.gic_certify.specs.RightCertify.{IsRightCertify}

-- the potential of each live node in every solution, in grains of 2^-36 nV, lies within the radius of the guess
abbrev pub HoldsSolutions : List Placed → (ℕ → ℤ) → Certificate → Type 0
HoldsSolutions standing volts c = (s : Solution) → IsSolution standing volts s → (k : ℕ) → IsLive standing k →
    Encloses (guess_of c k -ℤ pos (radius_of c k)) (guess_of c k +ℤ pos (radius_of c k)) (pos (2 ^ 36) *ℤ s.potential k) s.denominator

-- of a sound case, a right certificate holds them
abbrev pub RightCertificatesHold : Type 0
RightCertificatesHold = (inputs : Inputs UniformField) (text : List ℕ) → IsSound inputs.case → (report : IsRightCertify inputs text) →
    HoldsSolutions (standing_of inputs.case inputs.switchings) (uniform_volts inputs.case inputs.question.north inputs.question.east) report.certificate
