-- Outages, one after the other.
use Rattle.std.proofs.Common.{◌≡◌, ◌≢◌, ℕ, ◌+◌, ◌<◌, List, [], ◌∷◌, ◌++◌, length, get_or, set, replicate, Option, None, refl, sym, ap, subst, ◌∙◌, arith, below_more, length-append}
use Rattle.std.proofs.lemmas.List.{length-replicate, get_or-replicate, get_or-set_same, get_or-set_other, get_or_push, get_or_append_left}
use Rattle.std.specs.Prelude.{slice_get}
use Rattle.gic_fixed.specs.Ends.{Ends}
use Rattle.gic_model.specs.declared.parts.Item.{Item}
use Rattle.gic_view.specs.Peaks.{greater}
use Rattle.gic_criteria.specs.declared.asked.Criteria.{Criteria}
use Rattle.gic_inputs.specs.declared.inputs.Inputs.{Inputs}
use Rattle.gic_outage.specs.declared.outcome.OutageOutcome.{OutageOutcome}
use Rattle.gic_outage.specs.declared.outcome.OutageOutcome.TheVariants.{Idle}
use Rattle.gic_outage.specs.Outages.{Outage, no_outage, item_at, outage_at}
use Rattle.gic_outage.specs.RightOutage.{EndsAs}
use Rattle.gic_outage.specs.Taking.{AreRaisedBy, HasEnded, HasTaken}
use Rattle.gic_outage.proofs.Greatest.{greatest-push_shown}
use Rattle.gic_view.proofs.PeakSteps.{greater-none}

-- an outage that shows nothing raises nothing
pub not_raised : (greatest : List (Option Ends)) → AreRaisedBy [] greatest greatest
not_raised greatest = record { count = refl; each = λ t within. sym (greater-none (get_or greatest t None)) }

-- none was taken
pub none_taken : (inputs : Inputs Criteria) (outcomes : List OutageOutcome) (greatest : List (Option Ends)) → greatest ≡ replicate (length inputs.case.transformers) None → HasTaken inputs 0 outcomes greatest
none_taken inputs outcomes greatest blank =
    let count = length inputs.case.transformers in
    record {
      outages = [];
      one_each = refl;
      ends = λ place before. absurd (omega (arith, before));
      outcomes_are = λ place before. absurd (omega (arith, before));
      greatest_count = ap length blank ∙ length-replicate count None;
      greatest_are = λ t within. ap (λ (cells : List (Option Ends)). get_or cells t None) blank ∙ get_or-replicate count t None None within;
    }

-- the outage behind the others is the last one
module _ (outages : List Outage) (outage : Outage) (count : ℕ) (many : length outages ≡ count) where
  before_last : (place : ℕ) → place < count → outage_at (outages ++ outage ∷ []) place ≡ outage_at outages place
  before_last place before = get_or_append_left outages (outage ∷ []) no_outage place (omega (arith, before, many))

  at_last : outage_at (outages ++ outage ∷ []) count ≡ outage
  at_last = get_or_push outages outage no_outage count many

-- one item more was taken
pub next_taken : (inputs : Inputs Criteria) (count : ℕ) (item : Item) (outcome : OutageOutcome) (outcomes : List OutageOutcome) (old new : List (Option Ends)) → count < length outcomes → item ≡ item_at inputs.case count
    → HasEnded inputs item outcome old new → HasTaken inputs count outcomes old → HasTaken inputs (count + 1) (set outcomes count outcome) new
next_taken inputs count item outcome outcomes old new within own ended taken =
    let outage : Outage = record { outcome = outcome; worsts = ended.worsts } in
    let outages = taken.outages in
    let many = taken.one_each in
    let later = before_last outages outage count many in
    let last = at_last outages outage count many in
    record {
      outages = outages ++ outage ∷ [];
      one_each = omega (arith, length-append outages (outage ∷ []), many);
      ends = below_more _ _
          (λ place before. subst (λ (o : Outage). EndsAs inputs (item_at inputs.case place) o.worsts o.outcome) (sym (later place before)) (taken.ends place before))
          (subst (λ (o : Outage). EndsAs inputs (item_at inputs.case count) o.worsts o.outcome) (sym last) (subst (λ (i : Item). EndsAs inputs i ended.worsts outcome) own ended.ends));
      outcomes_are = below_more _ _
          (λ place before. let other : place ≢ count = omega (arith, before) in
          get_or-set_other outcomes count place outcome Idle other ∙ taken.outcomes_are place before ∙ ap (λ (o : Outage). o.outcome) (sym (later place before)))
          (get_or-set_same outcomes count outcome Idle within ∙ ap (λ (o : Outage). o.outcome) (sym last));
      greatest_count = ended.raised.count ∙ taken.greatest_count;
      greatest_are = λ t inside.
          let there : t < length old = omega (arith, inside, taken.greatest_count) in
          ended.raised.each t there ∙ ap (λ cell. greater cell (slice_get ended.worsts t)) (taken.greatest_are t inside)
          ∙ sym (greatest-push_shown (λ (o : Outage). slice_get o.worsts t) outages outage);
    }
