-- The text of the outages that were taken is right.
use Rattle.std.proofs.Common.{◌≡◌, ℕ, ◌<◌, List, length, map, Option, None, sym, ap, ◌∙◌, arith}
use Rattle.std.proofs.Math.ListN.{get_or-map}
use Rattle.std.proofs.lemmas.List.{ext_get_or, length-map}
use Rattle.std.proofs.lemmas.List.FromFn.{length-map-range_with_len, get_or-map-range_with_len}
use Rattle.gic_fixed.specs.Ends.{Ends}
use Rattle.gic_outage.specs.Plan.{plan_of}
use Rattle.gic_criteria.specs.declared.asked.Criteria.{Criteria}
use Rattle.gic_inputs.specs.declared.inputs.Inputs.{Inputs}
use Rattle.gic_outage.specs.declared.outcome.OutageOutcome.{OutageOutcome}
use Rattle.gic_outage.specs.declared.outcome.OutageOutcome.TheVariants.{Idle}
use Rattle.gic_outage.specs.Outages.{Outage, no_outage, worsts_of, greatest_worst}
use Rattle.gic_outage.specs.OutageText.{outage_text}
use Rattle.gic_outage.specs.RightOutage.{greatest_over, IsRightOutage}
use Rattle.gic_outage.specs.Taking.{HasTaken}

-- the text of what was taken is right
pub right_outages : (inputs : Inputs Criteria) (outcomes : List OutageOutcome) (greatest : List (Option Ends)) → length outcomes ≡ length (plan_of inputs.case)
    → HasTaken inputs (length (plan_of inputs.case)) outcomes greatest → IsRightOutage inputs (outage_text inputs.case inputs.question outcomes greatest)
right_outages inputs outcomes greatest count taken =
    let outages = taken.outages in
    let ended : Outage → OutageOutcome = λ o. o.outcome in
    let over : ℕ → Option Ends = λ t. greatest_worst (worsts_of outages t) in
    let many = length inputs.case.transformers in
    let outcomes_are : outcomes ≡ map ended outages =
    ext_get_or Idle outcomes (map ended outages) (omega (arith, count, taken.one_each, length-map outages ended))
    (λ place before. taken.outcomes_are place (omega (arith, before, count)) ∙ sym (get_or-map ended outages place no_outage)) in
    let greatest_are : greatest ≡ greatest_over inputs.case outages =
    ext_get_or None greatest (greatest_over inputs.case outages) (taken.greatest_count ∙ sym (length-map-range_with_len over 0 many))
    (λ t before.
    let within : t < many = omega (arith, before, taken.greatest_count) in
    taken.greatest_are t within ∙ sym (get_or-map-range_with_len over 0 many t t None within (omega arith))) in
    record {
      outages = outages;
      answer = record { count = taken.one_each; ends = taken.ends };
      text_is = ap (λ (xs : List OutageOutcome). outage_text inputs.case inputs.question xs greatest) outcomes_are
          ∙ ap (outage_text inputs.case inputs.question (map ended outages)) greatest_are;
    }
