-- What the certificate of a field has to be.
use Rattle.std.specs.Prelude.{◌≡◌, ℕ, ◌*◌, ◌≤◌, List, ℤ}
use Rattle.gic_case.specs.Lists.{Lists, node_names}
use Rattle.gic_model.specs.Sums.{Placed}
use Rattle.gic_winding.specs.ElementList.{elements_of}
use Rattle.gic_cert.specs.Written.{Certificate, IsWritten, entry_of, guess_of, radius_of}
use Rattle.gic_cert.specs.Step.{checked_step}
use Rattle.gic_cert.specs.Passing.{IsPassing}
use Rattle.gic_cert.specs.Text.{cert_text}
use Rattle.gic_cert.specs.declared.limits.TheConstants.{MOST_MADE_RADIUS}
use Rattle.gic_criteria.specs.declared.asked.UniformField.{UniformField}
use Rattle.gic_inputs.specs.declared.inputs.Inputs.{Inputs}
use Rattle.gic_stand.specs.Standing.{standing_of}
use Rattle.gic_uniform.specs.Uniform.{uniform_volts}

-- the text is that of a certificate for this field, which passes; each radius is just what is asked for, and none is above 2^31 grains, `MOST_MADE_RADIUS`
pub record ShowsPassing (case : Lists) (standing : List Placed) (volts : ℕ → ℤ) (north east : ℤ) (text : List ℕ) : Type 0 where
  pub certificate : Certificate
  pub written : IsWritten certificate
  pub field : (certificate.north ≡ north) × (certificate.east ≡ east)
  pub passes : IsPassing (elements_of case).nodes standing volts certificate
  pub exact : (k : ℕ) → radius_of certificate k ≡ entry_of certificate k * checked_step standing volts (guess_of certificate) (elements_of case).nodes
  pub small : (k : ℕ) → radius_of certificate k ≤ MOST_MADE_RADIUS
  pub text_is : text ≡ cert_text (node_names case) certificate

-- with all switchings in force, in the field that is asked for
abbrev pub IsRightCertify : Inputs UniformField → List ℕ → Type 0
IsRightCertify inputs = ShowsPassing inputs.case (standing_of inputs.case inputs.switchings)
    (uniform_volts inputs.case inputs.question.north inputs.question.east) inputs.question.north inputs.question.east
