-- That the text of the mode determines what it shows, that no certificate is both accepted and refused, and that the text of one that passes is accepted.
use Rattle.std.specs.Prelude.{◌≡◌, ℕ, List, Option, IfSome, All, ℤ, FitsSigned, length}
use mir.Syntax.{w32}
use Rattle.gic_case.specs.Lists.{Lists, node_names}
use Rattle.gic_fixed.specs.Ends.{Ends}
use Rattle.gic_model.specs.Sums.{Placed}
use Rattle.gic_case.specs.Sound.{IsSound}
use Rattle.gic_cert.specs.Passing.{IsPassing}
use Rattle.gic_cert.specs.Text.{cert_text}
use Rattle.gic_cert.specs.Written.{Certificate, IsWritten}
use Rattle.gic_uniform.specs.Uniform.{uniform_volts}
use Rattle.gic_winding.specs.ElementList.{elements_of}
use Rattle.gic_report.specs.Fits.{AreInRange}
use Rattle.gic_text.specs.Lines.{lines_text}
use Rattle.gic_recheck.specs.Accepted.{IsAccepted, IsRefused}
use Rattle.gic_recheck.specs.RecheckText.{recheck_report}
use Rattle.gic_recheck.specs.declared.fault.CertificateRefusal.{CertificateRefusal}

-- a field and intervals that can be shown of a case: numbers of their types, and a place for each node
pub record AreShownOf (case : Lists) (north east : ℤ) (intervals : List (Option Ends)) : Type 0 where
  pub count : length intervals ≡ length (node_names case)
  pub north_fits : FitsSigned w32 north
  pub east_fits : FitsSigned w32 east
  pub ends_fit : All (λ interval. IfSome interval AreInRange) intervals

-- equal texts on one sound case show the same: the names of the lines tell which nodes are live
abbrev pub TextDeterminesPotentials : Type 0
TextDeterminesPotentials = (case : Lists) → IsSound case → (north east : ℤ) (intervals : List (Option Ends)) (north' east' : ℤ) (intervals' : List (Option Ends)) →
    AreShownOf case north east intervals → AreShownOf case north' east' intervals' →
    lines_text (recheck_report case north east intervals) ≡ lines_text (recheck_report case north' east' intervals') →
    (north ≡ north') × (east ≡ east') × (intervals ≡ intervals')

-- what is accepted is not refused
abbrev pub AcceptedIsNotRefused : Type 0
AcceptedIsNotRefused = (case : Lists) (standing : List Placed) (bytes : List ℕ) (c : Certificate) (refusal : CertificateRefusal) →
    IsAccepted case standing bytes c → ¬ IsRefused case standing bytes refusal

-- the text of a certificate of a sound case that passes for its own field is read as this certificate, so it is accepted
abbrev pub PassingTextIsAccepted : Type 0
PassingTextIsAccepted = (case : Lists) (standing : List Placed) (c : Certificate) → IsSound case → IsWritten c →
    IsPassing (elements_of case).nodes standing (uniform_volts case c.north c.east) c →
    IsAccepted case standing (cert_text (node_names case) c) c
