-- The intervals of a right row end at most ten milliamperes beyond the reference enclosure in exact numbers.
use Rattle.std.proofs.Common.{◌≡◌, ℕ, ◌-◌, ◌*◌, ◌^◌, ◌<◌, ◌≤◌, ◌⊎◌, inl, inr, ⊎_elim, Bool, true, List, length, ℤ, pos, neg_ℤ, ◌+ℤ◌, ◌*ℤ◌, ◌-ℤ◌, ◌≤ℤ◌, unsigned_abs, arith, ap, sym, subst}
use Rattle.std.specs.List.{AllByRecursion}
use Rattle.std.proofs.Math.Path.{fun_ext}
use Rattle.std.proofs.Math.Nat.{mul-le-mul_right}
use Rattle.std.proofs.lemmas.Bool.{cases_lt}
use Rattle.std.proofs.lemmas.List.Elements.{recursion_from_All}
use Rattle.gic_effective.specs.RightView.{HasNoEffect}
use Rattle.gic_effective.specs.Weighted.{effective_numerator}
use Rattle.gic_enclose.specs.Certain.{AreCertain, AreTight}
use Rattle.gic_fixed.specs.Ends.{Ends}
use Rattle.gic_fixed.proofs.Divisions.{positive_product}
use Rattle.gic_fixed.proofs.Enclosures.{≤ℤ-times}
use Rattle.gic_fixed.proofs.Integers.{linear}
use Rattle.gic_model.specs.declared.parts.Item.{Item}
use Rattle.gic_model.specs.Limits.{IsWithinLimits}
use Rattle.gic_model.specs.Network.{Network}
use Rattle.gic_model.specs.Solution.{IsSolution}
use Rattle.gic_model.specs.Standing.{standing_elements, stands_after}
use Rattle.gic_model.specs.Sums.{Placed, sum_of}
use Rattle.gic_model.proofs.Members.{kept, both}
use Rattle.gic_varied.specs.Bounds.{AreModest}
use Rattle.gic_varied.specs.Certified.{Units, certified_enclosure}
use Rattle.gic_varied.specs.Corners.{all_least}
use Rattle.gic_varied.specs.Grounds.{is_ground, grounds_among, HaveNoGroundVolts}
use Rattle.gic_varied.specs.Lifts.{with_least, with_most}
use Rattle.gic_varied.specs.Near.{ExactSolutions, AreExact, IsExactPart, exact_enclosure, exact_product, Sizes, AreSizes, AreDrivenAtMost, AreAllNear, current_unit, slack, micro_paths, CertifiedEnclosuresAreNear}
use Rattle.gic_varied.specs.GroundLaws.{OtherGroundsEarthToo}
use Rattle.gic_varied.specs.Reach.{ListedWeightsAddUp}
use Rattle.gic_varied.specs.Sizes.{SumsGiveSizes, sizes_of_sums}
use Rattle.gic_exists.specs.Exists.{EarthedNetworksAreSolved}
use Rattle.gic_model.specs.SolutionLaws.{PotentialsAreBounded}
use Rattle.gic_varied.specs.Ranges.{Ranges, IsInRange, AreInRanges}
use Rattle.gic_varied.specs.Reciprocal.{current_by_weights}
use Rattle.gic_varied.specs.Varied.{IsVaried}
use Rattle.gic_varied.specs.VariedLaws.{SolutionsAreVaried}
use Rattle.gic_winding.specs.ElementList.{elements_of}
use Rattle.gic_winding.specs.Weights.{transformer_at, weighted_windings}
use Rattle.gic_grounds.specs.Scale.{weight_times}
use Rattle.gic_grounds.specs.Tolerances.{tolerance_at}
use Rattle.gic_grounds.specs.Tolerated.{Tolerated, ranges_in, own_in, least_in}
use Rattle.gic_grounds.specs.VariedCurrent.{IsOfReference, IsVariedCurrent, milli_cut}
use Rattle.gic_grounds.proofs.Certifying.{scales}
use Rattle.gic_grounds.proofs.Earthings.{least_in_range}
use Rattle.gic_grounds.proofs.Extremes.{few_percent}
use Rattle.gic_grounds.proofs.Holding.{Laws, current_bounded}
use Rattle.gic_robust.specs.Resolution.{weights_in, units_in, IsStudiedIn, AreExactOf, IsWithinTen, IsNearReference, RowsAreNearReference}
use Rattle.gic_robust.proofs.CutEnds.{low_within_ten, high_within_ten, low_of_nothing, high_of_nothing, part_low, part_high, sum_not_above, sum_not_below, own_most, own_least}
use Rattle.gic_robust.proofs.CaseSlack.{case_slack}
use Rattle.gic_robust.proofs.FewUnits.{few_units}
use Rattle.gic_robust.proofs.TightNear.{near_of_tight}

-- the low end of a ground's part is not above 0
low_part : (ranges : Ranges) (exact : ExactSolutions) (p : Placed) (part : Ends) → IsInRange (ranges p.1) (ranges p.1).least → IsExactPart ranges exact p part → part.low ≤ℤ pos 0
low_part ranges exact p part inside is =
    let range = ranges p.1 in
    let least = inside.above_0 in
    let more = inside.at_most in
    part_low (range.most * range.least) (micro_paths p * (range.most - range.least)) part.low (exact_product exact p).high
    (positive_product range.most range.least (omega arith) least) is.low

-- and its high end not below
high_part : (ranges : Ranges) (exact : ExactSolutions) (p : Placed) (part : Ends) → IsInRange (ranges p.1) (ranges p.1).least → IsExactPart ranges exact p part → pos 0 ≤ℤ part.high
high_part ranges exact p part inside is =
    let range = ranges p.1 in
    let least = inside.above_0 in
    let more = inside.at_most in
    part_high (range.most * range.least) (micro_paths p * (range.most - range.least)) part.high (exact_product exact p).low
    (positive_product range.most range.least (omega arith) least) is.high

-- so the sum of the low ends is not above 0
parts_not_above : (ranges : Ranges) (exact : ExactSolutions) (parts : Placed → Ends) (ps : List Placed) →
    AllByRecursion (λ p. is_ground p.1 ≡ true → IsInRange (ranges p.1) (ranges p.1).least) ps → AllByRecursion (λ p. is_ground p.1 ≡ true → IsExactPart ranges exact p (parts p)) ps →
    sum_of (λ p. (parts p).low) (grounds_among ps) ≤ℤ pos 0
parts_not_above ranges exact parts ps inside are =
    sum_not_above (λ p. (parts p).low) (grounds_among ps)
    (kept (λ p. is_ground p.1) (λ p. (is_ground p.1 ≡ true → IsInRange (ranges p.1) (ranges p.1).least) × (is_ground p.1 ≡ true → IsExactPart ranges exact p (parts p)))
    (λ p. (parts p).low ≤ℤ pos 0) (λ p its h. low_part ranges exact p (parts p) (h.0 its) (h.1 its)) ps
    (both (λ p. is_ground p.1 ≡ true → IsInRange (ranges p.1) (ranges p.1).least) (λ p. is_ground p.1 ≡ true → IsExactPart ranges exact p (parts p)) ps inside are))

-- and that of the high ends not below
parts_not_below : (ranges : Ranges) (exact : ExactSolutions) (parts : Placed → Ends) (ps : List Placed) →
    AllByRecursion (λ p. is_ground p.1 ≡ true → IsInRange (ranges p.1) (ranges p.1).least) ps → AllByRecursion (λ p. is_ground p.1 ≡ true → IsExactPart ranges exact p (parts p)) ps →
    pos 0 ≤ℤ sum_of (λ p. (parts p).high) (grounds_among ps)
parts_not_below ranges exact parts ps inside are =
    sum_not_below (λ p. (parts p).high) (grounds_among ps)
    (kept (λ p. is_ground p.1) (λ p. (is_ground p.1 ≡ true → IsInRange (ranges p.1) (ranges p.1).least) × (is_ground p.1 ≡ true → IsExactPart ranges exact p (parts p)))
    (λ p. pos 0 ≤ℤ (parts p).high) (λ p its h. high_part ranges exact p (parts p) (h.0 its) (h.1 its)) ps
    (both (λ p. is_ground p.1 ≡ true → IsInRange (ranges p.1) (ranges p.1).least) (λ p. is_ground p.1 ≡ true → IsExactPart ranges exact p (parts p)) ps inside are))

-- a slack of at most nine milliamperes, times the denominator twice
slack_most : (slacked unit n : ℕ) → slacked ≤ 9000000 * unit → slacked * n ≤ 9 * (1000000 * (unit * n))
slack_most slacked unit n h = let times : slacked * n ≤ 9000000 * unit * n = mul-le-mul_right n h in omega (arith, times)

-- where no unit makes a nanoampere a milliampere is nothing
none_made : (stray adjoint potential n : ℕ) → stray ≤ 0 → 1000000 * (stray * (adjoint * potential) * n) ≡ 0
none_made stray adjoint potential n none =
    let is : stray ≡ 0 = omega (arith, none) in
    let made : 1000000 * (stray * (adjoint * potential) * n) ≡ 1000000 * (0 * (adjoint * potential) * n) = ap (λ (k : ℕ). 1000000 * (k * (adjoint * potential) * n)) is in
    omega (arith, made)

-- a slack may be taken greater
low_slack : (all z : ℤ) (slacked most : ℕ) → slacked ≤ most → all ≤ℤ (z +ℤ pos slacked) → all ≤ℤ (z +ℤ pos most)
low_slack all z slacked most few h = omega (arith, linear)

-- what is near an end is near one further inside
further_up : (all low other : ℤ) (one : ℕ) → low ≤ℤ other → all ≤ℤ ((low +ℤ pos 10) *ℤ pos one) → all ≤ℤ ((other +ℤ pos 10) *ℤ pos one)
further_up all low other one inside h =
    let times = ≤ℤ-times (low +ℤ pos 10) (other +ℤ pos 10) one (omega (arith, linear)) in
    omega (arith, linear)

further_down : (all high other : ℤ) (one : ℕ) → other ≤ℤ high → ((high -ℤ pos 10) *ℤ pos one) ≤ℤ all → ((other -ℤ pos 10) *ℤ pos one) ≤ℤ all
further_down all high other one inside h =
    let times = ≤ℤ-times (other -ℤ pos 10) (high -ℤ pos 10) one (omega (arith, linear)) in
    omega (arith, linear)

module _ (near : CertifiedEnclosuresAreNear) (others : SolutionsAreVaried) (laws : Laws) (v : Tolerated) (volts : ℕ → ℤ) (unit t : ℕ) (grains : List Ends) (ends : Ends)
    (inside : t < length v.case.transformers) (some : 0 < unit) (certain : AreCertain (least_in v) volts grains) (tight : AreTight grains) (of : IsOfReference v all_least volts unit grains t ends)
    (studied : IsStudiedIn v volts) (exact : ExactSolutions) (parts : Placed → Ends) (is : AreExactOf v volts unit t exact parts)
    (sizes : Sizes) (sized : AreSizes (own_in v) (ranges_in v) volts (weights_in v unit t) sizes) (small : slack (units_in v unit t) sizes ≤ 9000000 * current_unit (units_in v unit t)) where
  -- the case's network, what stands of it, the transformer's high voltage and its units
  abbrev network : Network
  network = elements_of v.case

  abbrev stands : Item → Bool
  stands = stands_after v.rows

  abbrev high : ℕ
  high = (transformer_at v.case t).high_volts

  abbrev units : Units
  units = units_in v unit t

  -- the denominator of the exact solutions, and a nanoampere over it twice
  abbrev d : ℕ
  d = exact.reference.denominator

  abbrev one : ℕ
  one = current_unit units * (d * d)

  -- both enclosures
  abbrev certified : Ends
  certified = certified_enclosure (own_in v) (ranges_in v) all_least units of.intervals

  abbrev all : Ends
  all = exact_enclosure (own_in v) (weights_in v unit t) exact parts

  -- what is known of the network and of its ranges
  both_limits : IsWithinLimits (with_least (ranges_in v) network) × IsWithinLimits (with_most (ranges_in v) network)
  both_limits = laws.limits network (tolerance_at v.case v.percent) studied.limits

  in_range : AreInRanges (ranges_in v) (λ e. (ranges_in v e).least) (own_in v)
  in_range = least_in_range network stands (tolerance_at v.case v.percent) studied.limits

  modest : AreModest (ranges_in v) (own_in v)
  modest = laws.modest network stands (tolerance_at v.case v.percent) studied.limits (few_percent v.case v.percent studied.sound studied.percent)

  no_ground : HaveNoGroundVolts (own_in v) volts
  no_ground = subst (λ (f : ℕ → ℤ). HaveNoGroundVolts (own_in v) f) of.in_field of.certified.field

  -- the exact reference is a varied solution, so its current is no greater than the greatest that is told
  varies : IsVaried (own_in v) (ranges_in v) volts exact.reference
  varies = others network stands (ranges_in v) (λ e. (ranges_in v e).least) volts exact.reference in_range no_ground is.solve.refers

  abbrev number : ℤ
  number = effective_numerator v.case exact.reference t

  bounded : unsigned_abs number ≤ 2 ^ 61 * (3000000 * high * d)
  bounded = current_bounded laws v (record { sound = studied.sound; limits = studied.limits; earthed = studied.earthed; within = studied.within }) studied.percent volts exact.reference varies
      (laws.bounded network stands (ranges_in v) volts exact.reference studied.limits both_limits.0 studied.earthed studied.within in_range modest studied.volts_limit no_ground varies) t inside

  -- its weighted current
  weighed : current_by_weights (own_in v) (weights_in v unit t) exact.reference ≡ pos (weight_times high unit) *ℤ number
  weighed = laws.listed network stands (weighted_windings v.case t) (weight_times high unit) exact.reference varies.none_if_open

  own_is : pos d *ℤ current_by_weights (own_in v) (weights_in v unit t) exact.reference ≡ pos d *ℤ (pos (weight_times high unit) *ℤ number)
  own_is = ap (λ z. pos d *ℤ z) weighed

  -- the exact enclosure is not beyond the greatest current, either way
  all_low_most : all.low ≤ℤ pos (2 ^ 61 * (1000000 * one))
  all_low_most =
      let own = own_most (2 ^ 61) (weight_times high unit) high d (current_unit units) number bounded (scales high unit d) in
      let below = parts_not_above (ranges_in v) exact parts (own_in v)
      (recursion_from_All (λ p. is_ground p.1 ≡ true → IsInRange (ranges_in v p.1) (ranges_in v p.1).least) (own_in v) in_range)
      (recursion_from_All (λ p. is_ground p.1 ≡ true → IsExactPart (ranges_in v) exact p (parts p)) (own_in v) is.parts_are) in
      added (pos d *ℤ current_by_weights (own_in v) (weights_in v unit t) exact.reference) (pos d *ℤ (pos (weight_times high unit) *ℤ number))
      (sum_of (λ p. (parts p).low) (grounds_among (own_in v))) (pos (2 ^ 61 * (1000000 * one))) own_is own below
    where
      added : (a b c m : ℤ) → a ≡ b → b ≤ℤ m → c ≤ℤ pos 0 → (a +ℤ c) ≤ℤ m
      added a b c m same most less = omega (arith, linear)

  all_high_least : neg_ℤ (pos (2 ^ 61 * (1000000 * one))) ≤ℤ all.high
  all_high_least =
      let own = own_least (2 ^ 61) (weight_times high unit) high d (current_unit units) number bounded (scales high unit d) in
      let above = parts_not_below (ranges_in v) exact parts (own_in v)
      (recursion_from_All (λ p. is_ground p.1 ≡ true → IsInRange (ranges_in v p.1) (ranges_in v p.1).least) (own_in v) in_range)
      (recursion_from_All (λ p. is_ground p.1 ≡ true → IsExactPart (ranges_in v) exact p (parts p)) (own_in v) is.parts_are) in
      added (pos d *ℤ current_by_weights (own_in v) (weights_in v unit t) exact.reference) (pos d *ℤ (pos (weight_times high unit) *ℤ number))
      (sum_of (λ p. (parts p).high) (grounds_among (own_in v))) (neg_ℤ (pos (2 ^ 61 * (1000000 * one)))) own_is own above
    where
      added : (a b c m : ℤ) → a ≡ b → m ≤ℤ b → pos 0 ≤ℤ c → m ≤ℤ (a +ℤ c)
      added a b c m same most less = omega (arith, linear)

  -- the weights that were given are the transformer's
  weights_are : of.given.weights ≡ weights_in v unit t
  weights_are = fun_ext of.by_weights

  -- all intervals are near what they hold
  all_near : AreAllNear network stands (ranges_in v) of.given units of.intervals
  all_near = record {
    reference = near_of_tight (least_in v) of.given.field unit of.intervals.reference some (record {
      grains = grains;
      certain = subst (λ (f : ℕ → ℤ). AreCertain (least_in v) f grains) (sym of.in_field) certain;
      tight = tight;
      rounded = of.of_reference;
    });
    adjoint = near_of_tight (least_in v) of.given.weights 2 of.intervals.adjoint (omega arith) of.tight_adjoint;
    lowering = near_of_tight (standing_elements (with_most (ranges_in v) network) stands) of.given.lowering 1 of.intervals.lowering (omega arith) of.tight_lowering;
    raising = near_of_tight (standing_elements (with_most (ranges_in v) network) stands) of.given.raising 1 of.intervals.raising (omega arith) of.tight_raising;
    own = of.tight_own;
  }

  -- the exact numbers and the sizes are those of what was given
  exact_given : AreExact network stands (ranges_in v) of.given.field of.given.weights exact
  exact_given = record {
    refers = subst (λ (f : ℕ → ℤ). IsSolution (least_in v) f exact.reference) (sym of.in_field) is.solve.refers;
    adjoins = subst (λ (f : ℕ → ℤ). IsSolution (least_in v) f exact.adjoint) (sym weights_are) is.solve.adjoins;
    lowers = is.solve.lowers;
    raises = is.solve.raises;
    adjoint_over = is.solve.adjoint_over;
    lowering_over = is.solve.lowering_over;
    raising_over = is.solve.raising_over;
  }

  sizes_given : AreSizes (own_in v) (ranges_in v) of.given.field of.given.weights sizes
  sizes_given = record {
    driven_field = sized.driven_field;
    driven_weights = sized.driven_weights;
    by_field = subst (λ (f : ℕ → ℤ). AreDrivenAtMost (own_in v) f sized.driven_field) (sym of.in_field) sized.by_field;
    by_weights = subst (λ (f : ℕ → ℤ). AreDrivenAtMost (own_in v) f sized.driven_weights) (sym weights_are) sized.by_weights;
    field_sum = sized.field_sum;
    weights_sum = sized.weights_sum;
    conducting = sized.conducting;
    count = sized.count;
  }

  -- so the certified enclosure is near the exact one
  both_near : 0 < units.stray →
      (all.low ≤ℤ (certified.low *ℤ pos one +ℤ pos (slack units sizes * (d * d)))) ×
      ((certified.high *ℤ pos one) ≤ℤ (all.high +ℤ pos (slack units sizes * (d * d))))
  both_near enough =
      subst (λ (w : ℕ → ℤ). ((exact_enclosure (own_in v) w exact parts).low ≤ℤ (certified.low *ℤ pos one +ℤ pos (slack units sizes * (d * d)))) ×
      ((certified.high *ℤ pos one) ≤ℤ ((exact_enclosure (own_in v) w exact parts).high +ℤ pos (slack units sizes * (d * d))))) weights_are
      (near network stands (ranges_in v) of.given units of.intervals exact parts sizes studied.limits both_limits.0 both_limits.1 studied.earthed in_range modest
      enough (omega arith) some of.certified all_near exact_given is.parts_are sizes_given)

  -- the slack is at most nine milliamperes
  few : slack units sizes * (d * d) ≤ 9 * (1000000 * one)
  few = slack_most (slack units sizes) (current_unit units) (d * d) small

  -- so both ends are within ten milliamperes
  low_ten : all.low ≤ℤ ((ends.low +ℤ pos 10) *ℤ pos (1000000 * one))
  low_ten = ⊎_elim
      (λ enough. further_up all.low (milli_cut certified).low ends.low (1000000 * one) of.inside.from
      (low_within_ten all.low certified.low one all_low_most (low_slack all.low (certified.low *ℤ pos one) (slack units sizes * (d * d)) (9 * (1000000 * one)) few (both_near enough).0)))
      (λ none. low_of_nothing all.low (ends.low +ℤ pos 10) (2 ^ 61) (1000000 * one) (none_made units.stray units.adjoint units.potential (d * d) none) all_low_most)
      (cases_lt 0 units.stray)

  high_ten : ((ends.high -ℤ pos 10) *ℤ pos (1000000 * one)) ≤ℤ all.high
  high_ten = ⊎_elim
      (λ enough. further_down all.high (milli_cut certified).high ends.high (1000000 * one) of.inside.to
      (high_within_ten all.high certified.high one all_high_least (low_slack (certified.high *ℤ pos one) all.high (slack units sizes * (d * d)) (9 * (1000000 * one)) few (both_near enough).1)))
      (λ none. high_of_nothing all.high (ends.high -ℤ pos 10) (2 ^ 61) (1000000 * one) (none_made units.stray units.adjoint units.potential (d * d) none) all_high_least)
      (cases_lt 0 units.stray)

  pub within_ten : IsWithinTen one all ends
  within_ten = record { low = low_ten; high = high_ten }

-- what is proved elsewhere of solutions and sums
pub record Sums : Type 0 where
  pub sizes : SumsGiveSizes
  pub listed : ListedWeightsAddUp

-- a transformer's interval in a field is near the reference enclosure, where a winding that stands has a weight
pub near_reference : CertifiedEnclosuresAreNear → SolutionsAreVaried → Laws → Sums → (v : Tolerated) (volts : ℕ → ℤ) (unit t : ℕ) (grains : List Ends) (ends : Ends) →
    t < length v.case.transformers → 0 < unit → unit ≤ 20 → AreCertain (least_in v) volts grains → AreTight grains → IsStudiedIn v volts → (HasNoEffect v.case (own_in v) t → ⊥) →
    IsVariedCurrent v volts unit grains t ends → IsNearReference v volts unit t ends
near_reference near others laws sums v volts unit t grains ends inside some few certain tight studied effect varied = by varied.pinned
  where
    limits : IsWithinLimits (with_least (ranges_in v) (elements_of v.case))
    limits = (laws.limits (elements_of v.case) (tolerance_at v.case v.percent) studied.limits).0

    slack_is : slack (units_in v unit t) (sizes_of_sums (own_in v) volts (weights_in v unit t)) ≤ 9000000 * current_unit (units_in v unit t)
    slack_is = case_slack sums.listed v volts unit t inside some few studied

    by : HasNoEffect v.case (own_in v) t ⊎ IsOfReference v all_least volts unit grains t ends → IsNearReference v volts unit t ends
    by (inl none) = absurd (effect none)
    by (inr of) = λ exact parts is. within_ten near others laws v volts unit t grains ends inside some certain tight of studied exact parts is
        (sizes_of_sums (own_in v) volts (weights_in v unit t))
        (sums.sizes (elements_of v.case) (stands_after v.rows) (ranges_in v) volts (weights_in v unit t) studied.limits limits) slack_is

-- so are the first two intervals of each row
pub rows_near : CertifiedEnclosuresAreNear → SolutionsAreVaried → Laws → Sums → OtherGroundsEarthToo → EarthedNetworksAreSolved → PotentialsAreBounded → RowsAreNearReference
rows_near near others laws sums earthed solved bounded v north east t row inside in_north in_east right effect =
    let few = few_units laws.limits earthed solved bounded v north east right.references in_north in_east right.of_case in
    record {
      to_north = near_reference near others laws sums v north right.references.unit t right.references.north row.north inside right.of_case.least_unit.above_0 few
          right.of_case.north_certain right.of_case.north_tight in_north effect right.to_north;
      to_east = near_reference near others laws sums v east right.references.unit t right.references.east row.east inside right.of_case.least_unit.above_0 few
          right.of_case.east_certain right.of_case.east_tight in_east effect right.to_east;
    }
