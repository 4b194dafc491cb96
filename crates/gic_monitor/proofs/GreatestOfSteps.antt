-- The greatest ends of the totals of steps bound the exact totals.
use Rattle.std.proofs.Common.{ℕ, suc, List, [], ◌∷◌, map, length, ◌⊎◌, inl, inr, ℤ, ◌≤ℤ◌, refl, arith}
use Rattle.std.specs.Prelude.{fold, All, Any}
use Rattle.std.specs.Int.{int_max}
use Rattle.std.specs.List.{AllByRecursion}
use Rattle.std.proofs.lemmas.Int.{ints, clamps, by_lt_z, fold-int_max_bounds}
use Rattle.std.proofs.lemmas.List.Elements.{All-from_recursion, recursion_from_All}
use Rattle.gic_fixed.proofs.Enclosures.{≤ℤ-times}
use Rattle.gic_fixed.proofs.Integers.{linear}
use Rattle.gic_view.specs.View.{View}
use Rattle.gic_monitor.specs.LossText.{Total, loss_total_of, most_loss, least_loss, greatest_among, loss_text}
use Rattle.gic_monitor.specs.LossBounds.{Currents, ShowsUnits, IsTotalAtMost, IsTotalAtLeast, BoundsLosses, LossesAreBounded}
use Rattle.gic_monitor.proofs.ExactTotals.{total_encloses}
use Rattle.gic_monitor.proofs.NamedSteps.{greatest_named}

abbrev Step : Type 0
Step = View × Currents

abbrev totals_of : (factors : List ℕ) → List Step → List Total
totals_of factors steps = map (loss_total_of factors) (map (λ step. step.0) steps)

-- the exact total of a step is at most a number that its high end is at most
at_most : (factors : List ℕ) (high : ℤ) (step : Step) → ShowsUnits (length factors) step.0 step.1 → most_loss factors step.0 ≤ℤ high → IsTotalAtMost factors high step.1
at_most factors high step shows more =
    let here = total_encloses factors step.0 step.1 shows in
    let times = ≤ℤ-times (most_loss factors step.0) high step.1.denominator more in
    omega (arith, linear, here.below_hi)

-- so at each of some steps
each_at_most : (factors : List ℕ) (high : ℤ) (steps : List Step) → AllByRecursion (λ step. ShowsUnits (length factors) step.0 step.1) steps →
    AllByRecursion (λ z. z ≤ℤ high) (map (λ total. total.high) (totals_of factors steps)) → AllByRecursion (λ step. IsTotalAtMost factors high step.1) steps
each_at_most factors high [] shows more = tt
each_at_most factors high (step ∷ steps) shows more = (at_most factors high step shows.0 more.0, each_at_most factors high steps shows.1 more.1)

-- and at least a number that is at most its low end
at_least : (factors : List ℕ) (low : ℤ) (step : Step) → ShowsUnits (length factors) step.0 step.1 → low ≤ℤ least_loss factors step.0 → IsTotalAtLeast factors low step.1
at_least factors low step shows less =
    let here = total_encloses factors step.0 step.1 shows in
    let times = ≤ℤ-times low (least_loss factors step.0) step.1.denominator less in
    omega (arith, linear, here.above_lo)

-- a step of some
any_here : (P : Step → Type 0) (step : Step) (steps : List Step) → P step → Any P (step ∷ steps)
any_here P step steps h = (0, step, omega arith, refl, h)

any_later : (P : Step → Type 0) (step : Step) (steps : List Step) → Any P steps → Any P (step ∷ steps)
any_later P step steps any = (suc any.0, any.1, omega (arith, any.2), any.3, any.4)

under_one : (r a b : ℤ) → r ≤ℤ int_max a b → (r ≤ℤ a) ⊎ (r ≤ℤ b)
under_one r a b h =
    by_lt_z a b
    (λ under. inr (omega (arith, ints, clamps)))
    (λ over. inl (omega (arith, ints, clamps)))

-- the greatest of a number and of the low ends of steps is at most the number, or one exact total is at least as great
one_at_least : (factors : List ℕ) (a r : ℤ) (steps : List Step) → AllByRecursion (λ step. ShowsUnits (length factors) step.0 step.1) steps →
    r ≤ℤ fold int_max a (map (λ total. total.low) (totals_of factors steps)) → (r ≤ℤ a) ⊎ Any (λ step. IsTotalAtLeast factors r step.1) steps
one_at_least factors a r [] shows h = inl h
one_at_least factors a r (step ∷ steps) shows h =
    elim (one_at_least factors (int_max a (least_loss factors step.0)) r steps shows.1 h) [
      | inl among ↦
          elim (under_one r a (least_loss factors step.0) among) [
            | inl before ↦ inl before
            | inr own ↦ inr (any_here (λ s. IsTotalAtLeast factors r s.1) step steps (at_least factors r step shows.0 own))
          ]
      | inr any ↦ inr (any_later (λ s. IsTotalAtLeast factors r s.1) step steps any)
    ]

-- the greatest ends of the totals of a step and others bound the exact totals
greatest_bounds : (factors : List ℕ) (first : Step) (others : List Step) → All (λ step. ShowsUnits (length factors) step.0 step.1) (first ∷ others) →
    BoundsLosses factors (first ∷ others) (greatest_among (loss_total_of factors first.0) (totals_of factors others))
greatest_bounds factors first others h =
    let shows = recursion_from_All (λ step. ShowsUnits (length factors) step.0 step.1) (first ∷ others) h in
    let high = fold int_max (most_loss factors first.0) (map (λ total. total.high) (totals_of factors others)) in
    let low = fold int_max (least_loss factors first.0) (map (λ total. total.low) (totals_of factors others)) in
    let highs = fold-int_max_bounds (most_loss factors first.0) (map (λ total. total.high) (totals_of factors others)) high refl in
    let first_most = at_most factors high first shows.0 highs.0 in
    let others_most = each_at_most factors high others shows.1 (recursion_from_All _ _ highs.1) in
    record {
      most = All-from_recursion (λ step. IsTotalAtMost factors high step.1) (first ∷ others) (first_most, others_most);
      least = elim (one_at_least factors (least_loss factors first.0) low others shows.1 (omega (arith, ints))) [
        | inl own ↦ any_here (λ s. IsTotalAtLeast factors low s.1) first others (at_least factors low first shows.0 own)
        | inr any ↦ any_later (λ s. IsTotalAtLeast factors low s.1) first others any
      ];
      named = greatest_named factors first others shows;
    }

-- losses are bounded
pub losses_bounded : (word : List ℕ) (factors : List ℕ) → LossesAreBounded word factors (loss_text word factors)
losses_bounded word factors [] some h = absurd (omega (arith, some))
losses_bounded word factors (first ∷ others) some h = record {
  total = greatest_among (loss_total_of factors first.0) (totals_of factors others);
  line = refl;
  bounds = greatest_bounds factors first others h;
}
