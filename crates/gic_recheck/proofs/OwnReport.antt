-- The report that shows a certificate's own field.
use Rattle.std.proofs.Common.{◌≡◌, ◌∙◌, ℤ, List, Option, w32, to_z, of_z, ap}
use Rattle.gic_case.specs.Lists.{Lists}
use Rattle.gic_fixed.specs.Ends.{Ends}
use Rattle.gic_induce.specs.Voltage.{IsFieldWithin}
use Rattle.gic_text.specs.Lines.{lines_text}
use Rattle.gic_recheck.specs.RecheckText.{recheck_report}
use Rattle.gic_uniform.proofs.UniformFields.{same_part}

-- that of the field that is handed on
pub own_report : (case : Lists) (north east : ℤ) (intervals : List (Option Ends)) → IsFieldWithin north → IsFieldWithin east
    → lines_text (recheck_report case (to_z w32 (of_z w32 north)) (to_z w32 (of_z w32 east)) intervals) ≡ lines_text (recheck_report case north east intervals)
own_report case north east intervals n e =
    ap (λ (z : ℤ). lines_text (recheck_report case z (to_z w32 (of_z w32 east)) intervals)) (same_part north n)
    ∙ ap (λ (z : ℤ). lines_text (recheck_report case north z intervals)) (same_part east e)
