-- What right outages show of a transformer: right worst intervals of the networks that are solved, and each of these.
use Rattle.std.proofs.Common.{◌≡◌, ℕ, ◌<◌, ◌≤◌, List, [], length, Option, None, Some, ◌⊎◌, inl, inr, sym, ap, subst, ◌∙◌, arith}
use Rattle.std.specs.Prelude.{slice_get}
use Rattle.std.proofs.Math.ListN.{get_or-map}
use Rattle.std.proofs.lemmas.Bool.{cases_lt}
use Rattle.std.proofs.lemmas.List.{get_or_default, get_or_past}
use Rattle.std.proofs.lemmas.List.Elements.{Contains-get_or}
use Rattle.std.proofs.lemmas.Option.{slice_get-get_or, get_or_from_slice_get}
use Rattle.gic_case.specs.Lists.{Lists}
use Rattle.gic_fixed.specs.Ends.{Ends, zero_ends}
use Rattle.gic_model.specs.declared.parts.Item.{Item}
use Rattle.gic_model.specs.declared.parts.Item.TheVariants.{Line}
use Rattle.gic_model.specs.Bound.{IsCappedVector}
use Rattle.gic_model.specs.Sums.{Placed}
use Rattle.gic_outage.specs.Plan.{plan_of}
use Rattle.gic_report.specs.declared.counts.Counts.{Counts}
use Rattle.gic_worst.specs.RightRows.{IsRightWorst, IsThirdOfRight}
use Rattle.gic_worst.proofs.RightRows.{third_right}
use Rattle.gic_criteria.specs.declared.asked.Criteria.{Criteria}
use Rattle.gic_inputs.specs.declared.inputs.Inputs.{Inputs}
use Rattle.gic_stand.specs.Standing.{IsSolvable, IsNameOfUnearthed, IsNameOfUnresolved}
use Rattle.gic_outage.specs.declared.outcome.OutageOutcome.{OutageOutcome}
use Rattle.gic_outage.specs.declared.outcome.OutageOutcome.TheVariants.{Idle, Unearthed, Unresolved, Solved}
use Rattle.gic_outage.specs.Outages.{Outage, no_outage, standing_in_outage, item_at, outage_at, worst_at, worsts_of, greatest_at}
use Rattle.gic_outage.specs.RightOutage.{northward_volts, eastward_volts, IsTakenOut, AreRightWorsts, EndsAs, AreRightOutages}
use Rattle.gic_outage.specs.Follows.{IsSolvedOutage}

-- where the network can be solved, it has no first node that is unearthed or unresolved
not_unearthed : (case : Lists) (standing : List Placed) (node : List ℕ) → IsSolvable standing → IsNameOfUnearthed case standing node → ⊥
not_unearthed case standing node solvable named = named.1.0.unearthed (solvable.earthed named.0 named.1.0.live)

not_unresolved : (case : Lists) (standing : List Placed) (node : List ℕ) → IsSolvable standing → IsNameOfUnresolved case standing node → ⊥
not_unresolved case standing node solvable named =
    let v = solvable.within.entries in
    let few = solvable.within.none_above in
    let capped : IsCappedVector standing v = record {
      live_above_0 = solvable.within.bound.live_above_0;
      capped = λ k. let most = few k in omega (arith, most);
      dead_0 = solvable.within.bound.dead_0;
      rows = λ k live space. solvable.within.bound.rows k live;
    } in
    let least = named.unresolved.least.least v capped named.node in
    let most = few named.node in
    omega (arith, least, most, named.unresolved.full)

-- the outage of an item that is taken out, where the network without it can be solved, shows right worst intervals
record SolvedAs (inputs : Inputs Criteria) (item : Item) (worsts : List Ends) : Type 0 where
  counts : Counts
  right : AreRightWorsts inputs item worsts counts

solved_as : (inputs : Inputs Criteria) (item : Item) (worsts : List Ends) (outcome : OutageOutcome) → IsTakenOut inputs item → IsSolvable (standing_in_outage inputs item) → EndsAs inputs item worsts outcome → SolvedAs inputs item worsts
solved_as inputs item worsts Idle out solvable ends = absurd (grind (arith, out, ends.0))
solved_as inputs item worsts (Unearthed node) out solvable ends = absurd (not_unearthed inputs.case (standing_in_outage inputs item) node solvable ends.1)
solved_as inputs item worsts (Unresolved node) out solvable ends = absurd (not_unresolved inputs.case (standing_in_outage inputs item) node solvable ends.1)
solved_as inputs item worsts (Solved counts) out solvable ends = record { counts = counts; right = ends.1 }

-- so does one that shows a worst interval, and its network can be solved
record ShownAs (inputs : Inputs Criteria) (item : Item) (worsts : List Ends) : Type 0 where
  taken_out : IsTakenOut inputs item
  counts : Counts
  right : AreRightWorsts inputs item worsts counts

none_shown : {C : Type 0} (worsts : List Ends) (t : ℕ) (e : Ends) → worsts ≡ [] → slice_get worsts t ≡ Some e → C
none_shown worsts t e none shown = let nothing : None ≡ Some e = sym (ap (λ (xs : List Ends). slice_get xs t) none) ∙ shown in absurd (cc)

shown_as : (inputs : Inputs Criteria) (item : Item) (worsts : List Ends) (outcome : OutageOutcome) (t : ℕ) (e : Ends) → slice_get worsts t ≡ Some e → EndsAs inputs item worsts outcome → ShownAs inputs item worsts
shown_as inputs item worsts Idle t e shown ends = none_shown worsts t e ends.1 shown
shown_as inputs item worsts (Unearthed node) t e shown ends = none_shown worsts t e ends.2 shown
shown_as inputs item worsts (Unresolved node) t e shown ends = none_shown worsts t e ends.2 shown
shown_as inputs item worsts (Solved counts) t e shown ends = record { taken_out = ends.0; counts = counts; right = ends.1 }

-- what the outage at a place shows of a transformer
cell_of : (outages : List Outage) (t place : ℕ) → greatest_at (worsts_of outages t) place ≡ slice_get (outage_at outages place).worsts t
cell_of outages t place = get_or-map (λ (o : Outage). slice_get o.worsts t) outages place no_outage

-- an interval is a right worst interval of the network without an item
abbrev pub IsRightOne : Inputs Criteria → Item → (t : ℕ) → Ends → Type 0
IsRightOne inputs item t w = IsRightWorst inputs.case (standing_in_outage inputs item) (northward_volts inputs) (eastward_volts inputs) inputs.question.width t w

pub as_worst : (inputs : Inputs Criteria) (item : Item) (t : ℕ) (w : Ends) → IsThirdOfRight inputs.case (standing_in_outage inputs item) (northward_volts inputs) (eastward_volts inputs) inputs.question.width t w → IsRightOne inputs item t w
as_worst inputs item t w third = third_right inputs.case (standing_in_outage inputs item) (northward_volts inputs) (eastward_volts inputs) inputs.question.width t w third

-- it is so of the network of one solved outage
pub record ShownThere (inputs : Inputs Criteria) (t : ℕ) (w : Ends) : Type 0 where
  pub item : Item
  pub solved : IsSolvedOutage inputs item
  pub right : IsRightOne inputs item t w

-- the outage of an item is at one place of those that are shown of a transformer
pub record Shows (inputs : Inputs Criteria) (cells : List (Option Ends)) (t : ℕ) (item : Item) : Type 0 where
  pub place : ℕ
  pub w : Ends
  pub shown : greatest_at cells place ≡ Some w
  pub right : IsRightOne inputs item t w

module _ (inputs : Inputs Criteria) (outages : List Outage) (are_right : AreRightOutages inputs outages) where
  in_plan : (place t : ℕ) (w : Ends) → slice_get (outage_at outages place).worsts t ≡ Some w → place < length (plan_of inputs.case)
  in_plan place t w shown = by (cases_lt place (length (plan_of inputs.case)))
    where
      by : (place < length (plan_of inputs.case)) ⊎ (length (plan_of inputs.case) ≤ place) → place < length (plan_of inputs.case)
      by (inl here) = here
      by (inr past) = none_shown (outage_at outages place).worsts t w (ap (λ (o : Outage). o.worsts) (get_or_past outages place no_outage (omega (arith, are_right.count, past)))) shown

  -- what the outages show of a transformer at a place is right there, and the item at that place is a solved outage
  pub shown_there : (t place : ℕ) (w : Ends) → t < length inputs.case.transformers → greatest_at (worsts_of outages t) place ≡ Some w → ShownThere inputs t w
  shown_there t place w within is =
      let worsts = (outage_at outages place).worsts in
      let shown : slice_get worsts t ≡ Some w = sym (cell_of outages t place) ∙ is in
      let here : place < length (plan_of inputs.case) = in_plan place t w shown in
      let item = item_at inputs.case place in
      let ended = shown_as inputs item worsts (outage_at outages place).outcome t w shown (are_right.ends place here) in
      record {
        item = item;
        solved = record { planned = Contains-get_or (plan_of inputs.case) place (Line 0) here; taken_out = ended.taken_out; solvable = ended.right.solvable };
        right = subst (IsRightOne inputs item t) (get_or_from_slice_get worsts t w zero_ends shown) (as_worst inputs item t (worst_at worsts t) (ended.right.right t within));
      }

  -- each solved outage shows it
  pub shows : (t : ℕ) → t < length inputs.case.transformers → (item : Item) → IsSolvedOutage inputs item → Shows inputs (worsts_of outages t) t item
  shows t within item solved =
      let place = solved.planned.0 in
      let here = solved.planned.1 in
      let same : item_at inputs.case place ≡ item = get_or_default (plan_of inputs.case) place (Line 0) item here ∙ solved.planned.2 in
      let worsts = (outage_at outages place).worsts in
      let own : EndsAs inputs item worsts (outage_at outages place).outcome = subst (λ (i : Item). EndsAs inputs i worsts (outage_at outages place).outcome) same (are_right.ends place here) in
      let right = (solved_as inputs item worsts (outage_at outages place).outcome solved.taken_out solved.solvable own).right in
      let there : t < length worsts = omega (arith, within, right.count) in
      record {
        place = place;
        w = worst_at worsts t;
        shown = cell_of outages t place ∙ slice_get-get_or worsts t zero_ends there;
        right = as_worst inputs item t (worst_at worsts t) (right.right t within);
      }
