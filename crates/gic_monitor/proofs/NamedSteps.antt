-- The step whose number the greatest ends of totals tell.
use Rattle.std.proofs.Common.{◌≡◌, ℕ, List, [], ◌∷◌, ◌++◌, map, length, ◌⊎◌, inl, inr, ℤ, pos, ◌+ℤ◌, ◌-ℤ◌, ◌*ℤ◌, ◌≤ℤ◌, ◌<ℤ◌, refl, ap, arith}
use Rattle.std.specs.Prelude.{fold}
use Rattle.std.specs.Int.{int_max}
use Rattle.std.specs.List.{AllByRecursion}
use Rattle.std.proofs.lemmas.Int.{ints, clamps, by_lt_z, fold-int_max_bounds}
use Rattle.std.proofs.lemmas.List.Elements.{All-from_recursion, recursion_from_All}
use Rattle.gic_fixed.proofs.Enclosures.{≤ℤ-times}
use Rattle.gic_fixed.proofs.Integers.{linear, +ℤ-*ℤ}
use Rattle.gic_view.specs.View.{View}
use Rattle.gic_monitor.specs.LossText.{Total, loss_total_of, most_loss, least_loss, first_reaching, greatest_among}
use Rattle.gic_monitor.specs.LossBounds.{Currents, ShowsUnits, IsTotalUnder, AreNarrowUnits, total_width, NamesStep}
use Rattle.gic_monitor.proofs.ExactTotals.{total_encloses}
use Rattle.gic_monitor.proofs.FirstReaching.{not_above, above}
use Rattle.gic_monitor.proofs.TotalWidths.{total_narrow}

abbrev Step : Type 0
Step = View × Currents

abbrev totals_of : (factors : List ℕ) → List Step → List Total
totals_of factors steps = map (loss_total_of factors) (map (λ step. step.0) steps)

abbrev AreShown : (factors : List ℕ) → List Step → Type 0
AreShown factors steps = AllByRecursion (λ step. ShowsUnits (length factors) step.0 step.1) steps

-- the exact total of a step is under a number that its high end is under
under_high : (factors : List ℕ) (high : ℤ) (step : Step) → ShowsUnits (length factors) step.0 step.1 → most_loss factors step.0 <ℤ high → IsTotalUnder factors high step.1
under_high factors high step shows less =
    let here = total_encloses factors step.0 step.1 shows in
    let times = ≤ℤ-times (most_loss factors step.0 +ℤ pos 1) high step.1.denominator (omega (arith, ints)) in
    let split = +ℤ-*ℤ (most_loss factors step.0) (pos 1) (pos step.1.denominator) in
    let one : pos 1 *ℤ pos step.1.denominator ≡ pos step.1.denominator = ap (λ (n : ℕ). pos n) (omega arith) in
    omega (arith, linear, here.below_hi, times, split, one, shows.above_zero)

-- the first of some steps whose high end is as great as a number, and its low end, which is at most another
record Reaches (factors : List ℕ) (high low : ℤ) (steps : List Step) : Type 0 where
  pub before : List Step
  pub step : Step
  pub behind : List Step
  pub are : steps ≡ before ++ step ∷ behind
  pub number_is : first_reaching high (totals_of factors steps) ≡ step.0.number
  pub under : AllByRecursion (λ earlier. IsTotalUnder factors high earlier.1) before
  pub shows : ShowsUnits (length factors) step.0 step.1
  pub reaches : high ≤ℤ most_loss factors step.0
  pub least : least_loss factors step.0 ≤ℤ low

module _ (factors : List ℕ) (high low : ℤ) where
  here : (step : Step) (steps : List Step) → ShowsUnits (length factors) step.0 step.1 → high ≤ℤ most_loss factors step.0 → least_loss factors step.0 ≤ℤ low → Reaches factors high low (step ∷ steps)
  here step steps shows reaches least = record {
    before = [];
    step = step;
    behind = steps;
    are = refl;
    number_is = rw (not_above high (most_loss factors step.0) reaches) refl;
    under = tt;
    shows = shows;
    reaches = reaches;
    least = least;
  }

  later : (step : Step) (steps : List Step) → ShowsUnits (length factors) step.0 step.1 → most_loss factors step.0 <ℤ high → Reaches factors high low steps → Reaches factors high low (step ∷ steps)
  later step steps shows less r = record {
    before = step ∷ r.before;
    step = r.step;
    behind = r.behind;
    are = ap (λ others. step ∷ others) r.are;
    number_is = rw (above high (most_loss factors step.0) less) r.number_is;
    under = (under_high factors high step shows less, r.under);
    shows = r.shows;
    reaches = r.reaches;
    least = r.least;
  }

  -- this is at most a number, or some step reaches it
  reached : (a : ℤ) (steps : List Step) → AreShown factors steps → AllByRecursion (λ z. z ≤ℤ low) (map (λ total. total.low) (totals_of factors steps)) →
      high ≤ℤ fold int_max a (map (λ total. total.high) (totals_of factors steps)) → (high ≤ℤ a) ⊎ Reaches factors high low steps
  reached a [] shows lows h = inl h
  reached a (step ∷ steps) shows lows h =
      by_lt_z (most_loss factors step.0) high
      (λ less. elim (reached (int_max a (most_loss factors step.0)) steps shows.1 lows.1 h) [
        | inl among ↦ inl (omega (arith, ints, clamps))
        | inr r ↦ inr (later step steps shows.0 less r)
      ])
      (λ over. inr (here step steps shows.0 over lows.0))

  named_by : (steps : List Step) → Reaches factors high low steps → NamesStep factors steps (record { number = first_reaching high (totals_of factors steps); low = low; high = high })
  named_by steps r =
      let near : (width : ℕ) → AreNarrowUnits width (length factors) r.step.0 → (high -ℤ pos (total_width width factors)) ≤ℤ least_loss factors r.step.0 = λ width narrow.
      let wide = total_narrow factors width r.step.0 narrow in
      let reaches = r.reaches in
      omega (arith, linear, wide, reaches) in
      record {
        before = r.before;
        step = r.step;
        behind = r.behind;
        are = r.are;
        number_is = r.number_is;
        under = All-from_recursion (λ earlier. IsTotalUnder factors high earlier.1) r.before r.under;
        near = λ width narrow.
            let own = total_encloses factors r.step.0 r.step.1 r.shows in
            let times = ≤ℤ-times (high -ℤ pos (total_width width factors)) (least_loss factors r.step.0) r.step.1.denominator (near width narrow) in
            omega (arith, linear, own.above_lo, times);
        narrow = λ width narrow. let less = near width narrow in let least = r.least in omega (arith, linear, less, least);
      }

-- the greatest ends of the totals of a step and others name one of them
pub greatest_named : (factors : List ℕ) (first : Step) (others : List Step) → AreShown factors (first ∷ others) →
    NamesStep factors (first ∷ others) (greatest_among (loss_total_of factors first.0) (totals_of factors others))
greatest_named factors first others shows =
    let high = fold int_max (most_loss factors first.0) (map (λ total. total.high) (totals_of factors others)) in
    let low = fold int_max (least_loss factors first.0) (map (λ total. total.low) (totals_of factors others)) in
    let lows = fold-int_max_bounds (least_loss factors first.0) (map (λ total. total.low) (totals_of factors others)) low refl in
    let reaches : Reaches factors high low (first ∷ others) =
    by_lt_z (most_loss factors first.0) high
    (λ less. elim (reached factors high low (most_loss factors first.0) others shows.1 (recursion_from_All _ _ lows.1) (omega (arith, ints))) [
      | inl among ↦ absurd (omega (arith, ints, less, among))
      | inr r ↦ later factors high low first others shows.0 less r
    ])
    (λ over. here factors high low first others shows.0 over lows.0) in
    named_by factors high low (first ∷ others) reaches
