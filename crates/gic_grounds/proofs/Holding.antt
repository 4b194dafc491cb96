-- The interval of a transformer's current holds that of every varied solution.
use Rattle.std.proofs.Common.{◌≡◌, ℕ, ◌*◌, ◌^◌, ◌<◌, ◌≤◌, zero, suc, false, List, length, get_or, ℤ, pos, ◌*ℤ◌, unsigned_abs, arith, ap, sym, subst, ◌∙◌, inl, inr}
use Rattle.std.specs.List.{All, enumerate_from}
use Rattle.std.proofs.lemmas.Bool.{cases_Bool}
use Rattle.std.proofs.lemmas.Int.{ints}
use Rattle.std.proofs.lemmas.List.{get_or_default}
use Rattle.std.proofs.lemmas.List.Elements.{All-from_recursion, recursion_from_All, All-get_or}
use Rattle.gic_base.specs.declared.limits.TheConstants.{MOST_WALK}
use Rattle.gic_base.specs.declared.id.ElementId.{ElementId}
use Rattle.gic_base.proofs.Each.{weaker}
use Rattle.gic_case.specs.declared.item.Transformer.{Transformer}
use Rattle.gic_case.specs.Lists.{Lists}
use Rattle.gic_case.specs.Sound.{IsSound, IsSoundTransformer}
use Rattle.gic_effective.specs.RightView.{HasNoEffect}
use Rattle.gic_effective.specs.Weighted.{effective_numerator, effective_denominator}
use Rattle.gic_enclose.specs.Ends.{potential_ends}
use Rattle.gic_fixed.specs.Encloses.{Encloses}
use Rattle.gic_fixed.specs.Ends.{Ends, zero_ends}
use Rattle.gic_model.specs.Bound.{IsEarthedWithin}
use Rattle.gic_model.specs.Earthing.{AreEarthed}
use Rattle.gic_model.specs.Limits.{IsWithinLimits}
use Rattle.gic_model.specs.Solution.{Solution}
use Rattle.gic_model.specs.Standing.{stands_after, is_standing}
use Rattle.gic_model.specs.Sums.{Placed}
use Rattle.gic_model.proofs.Members.{kept, both}
use Rattle.gic_net.proofs.Kept.{IsIn, each_in}
use Rattle.gic_net.specs.Net.{NetView, standing, no_element}
use Rattle.gic_varied.specs.Bounds.{TolerancesAreModest, VariedCurrentsAreBounded}
use Rattle.gic_varied.specs.Certified.{CertifiedEnclosuresHold, GrainsHoldInUnits, certified_enclosure}
use Rattle.gic_varied.specs.Corners.{Corner, all_least, IsCornerOfRanges}
use Rattle.gic_varied.specs.Grounds.{is_ground}
use Rattle.gic_varied.specs.GroundLaws.{RangesStayWithinLimits}
use Rattle.gic_varied.specs.Reciprocal.{ListedWeightsCount}
use Rattle.gic_varied.specs.Varied.{IsVaried}
use Rattle.gic_winding.specs.ElementList.{elements_of}
use Rattle.gic_winding.specs.Weights.{transformer_at, no_transformer, weighted_windings}
use Rattle.gic_grounds.specs.declared.nets.GroundNets.{GroundNets}
use Rattle.gic_grounds.specs.declared.reference.Reference.{Reference}
use Rattle.gic_grounds.specs.declared.unit.TheConstants.{ADJOINT_UNIT}
use Rattle.gic_grounds.specs.Effect.{HasNoPart}
use Rattle.gic_grounds.specs.Scale.{multiple, weight_times, stray_unit, units_of}
use Rattle.gic_grounds.specs.Tolerances.{tolerance_at}
use Rattle.gic_grounds.specs.Tolerated.{Tolerated, AreNetsOf, ranges_in, own_in, least_in, corner_in}
use Rattle.gic_enclose.specs.Certain.{AreCertain}
use Rattle.gic_grounds.specs.declared.workspace.VariedWorkspace.{VariedWorkspace}
use Rattle.gic_grounds.specs.Varied.{IsReferredTo, AreAdjoined, AreReferred}
use Rattle.gic_grounds.specs.VariedCurrent.{References, AreReferences, HoldsVaried, IsVariedCurrent, milli_cut}
use Rattle.gic_grounds.specs.Varying.{intervals_of}
use Rattle.gic_grounds.proofs.Certifying.{given, certified, of_reference, by_listed, scales}
use Rattle.gic_grounds.proofs.CutCurrents.{milli_cut_holds}
use Rattle.gic_grounds.proofs.Earthings.{lesser, least_in_range, stands_with}
use Rattle.gic_grounds.proofs.Extremes.{few_percent}
use Rattle.gic_grounds.proofs.Weighing.{multiple_enough}
use Rattle.gic_grounds.proofs.WindingBounds.{bounded_at, numerator_bounded, nothing_summed}

-- the laws on which it rests
pub record Laws : Type 0 where
  pub enclosures : CertifiedEnclosuresHold
  pub grains : GrainsHoldInUnits
  pub listed : ListedWeightsCount
  pub modest : TolerancesAreModest
  pub bounded : VariedCurrentsAreBounded
  pub limits : RangesStayWithinLimits

-- what is known of the case
pub record IsStudied (v : Tolerated) : Type 0 where
  pub sound : IsSound v.case
  pub limits : IsWithinLimits (elements_of v.case)
  pub earthed : AreEarthed (own_in v)
  pub within : IsEarthedWithin (least_in v) MOST_WALK

-- the same has no effect, whatever the grounds
effect_moved : (one other : List Placed) (ws : List (ElementId × ℕ)) → ((place : ℕ) → is_standing other place ≡ is_standing one place) →
    All (HasNoPart one) ws → All (HasNoPart other) ws
effect_moved one other ws same h =
    All-from_recursion (HasNoPart other) ws
    (weaker (HasNoPart one) (HasNoPart other) (λ w none stands. none (sym (same w.0.0) ∙ stands)) ws (recursion_from_All (HasNoPart one) ws h))

module _ (v : Tolerated) (nets : GroundNets) (of_nets : AreNetsOf v nets) where
  -- the same places stand with the least grounds
  same_places : (place : ℕ) → is_standing (standing nets.least) place ≡ is_standing (own_in v) place
  same_places place =
      ap (λ (ps : List Placed). is_standing ps place) of_nets.extremes.least_standing ∙
      stands_with (elements_of v.case) (stands_after v.rows) (λ e. (ranges_in v e).least) place

  -- without an effect with the least grounds there is none with the case's own, and the other way round
  pub effect_of_own : (t : ℕ) → HasNoEffect v.case (standing nets.least) t → HasNoEffect v.case (own_in v) t
  effect_of_own t = effect_moved (standing nets.least) (own_in v) (weighted_windings v.case t) (λ place. sym (same_places place))

  -- and the other way round
  pub effect_of_least : (t : ℕ) → HasNoEffect v.case (own_in v) t → HasNoEffect v.case (standing nets.least) t
  effect_of_least t = effect_moved (own_in v) (standing nets.least) (weighted_windings v.case t) same_places

-- where nothing has an effect
pub without_effect : (v : Tolerated) (volts : ℕ → ℤ) (unit : ℕ) (reference : List Ends) (t : ℕ) (ends : Ends) →
    HasNoEffect v.case (own_in v) t → ends ≡ zero_ends →
    IsVariedCurrent v volts unit reference t ends
without_effect v volts unit reference t ends none is = record {
  holds = λ s varies.
      let nothing = nothing_summed (own_in v) s varies.none_if_open (weighted_windings v.case t)
      (recursion_from_All (HasNoPart (own_in v)) (weighted_windings v.case t) none) in
      subst (λ (e : Ends). Encloses e.low e.high (effective_numerator v.case s t) (effective_denominator v.case t s)) (sym is)
      (subst (λ (n : ℤ). Encloses (pos 0) (pos 0) n (effective_denominator v.case t s)) (sym nothing)
      (record { above_lo = omega (arith, ints); below_hi = omega (arith, ints) }));
  zeroed = λ again. is;
  pinned = inl none;
}

module _ (laws : Laws) (v : Tolerated) (studied : IsStudied v) (few : v.percent ≤ 90) (volts : ℕ → ℤ) where
  -- the row of a transformer, which is sound
  abbrev row : ℕ → Transformer
  row t = transformer_at v.case t

  -- it is the one that the list has there
  row_at : (t : ℕ) → t < length v.case.transformers → row t ≡ get_or v.case.transformers t (row t)
  row_at t inside = get_or_default v.case.transformers t no_transformer (row t) inside

  -- it is sound
  row_sound : (t : ℕ) → t < length v.case.transformers → IsSoundTransformer v.case (row t)
  row_sound t inside = All-get_or (IsSoundTransformer v.case) v.case.transformers t no_transformer inside studied.sound.transformers_sound

  module _ (s : Solution) (varies : IsVaried (own_in v) (ranges_in v) volts s)
      (bounded : All (λ p. is_ground p.1 ≡ false → unsigned_abs (s.current p.0) ≤ 2 ^ 80 * s.denominator) (own_in v)) where
    -- no element but a ground carries more, at whatever place
    at_place : (place : ℕ) → is_ground (get_or (elements_of v.case).list place no_element) ≡ false →
        unsigned_abs (s.current place) ≤ 2 ^ 80 * s.denominator
    at_place place none = elim (cases_Bool (is_standing (own_in v) place)) [
      | inl stands ↦
          bounded_at (elements_of v.case).list s (2 ^ 80 * s.denominator) (own_in v)
          (both (IsIn (elements_of v.case).list) (λ p. is_ground p.1 ≡ false → unsigned_abs (s.current p.0) ≤ 2 ^ 80 * s.denominator) (own_in v)
          (kept (λ p. stands_after v.rows p.1.item) (IsIn (elements_of v.case).list) (IsIn (elements_of v.case).list) (λ p is h. h) (enumerate_from 0 (elements_of v.case).list) (each_in (elements_of v.case).list))
          (recursion_from_All (λ p. is_ground p.1 ≡ false → unsigned_abs (s.current p.0) ≤ 2 ^ 80 * s.denominator) (own_in v) bounded)) place none stands
      | inr out ↦ subst (λ (z : ℤ). unsigned_abs z ≤ 2 ^ 80 * s.denominator) (sym (varies.none_if_open place out)) (omega arith)
    ]

    -- nor does a transformer have a greater effective current
    pub current_bounded : (t : ℕ) → t < length v.case.transformers →
        unsigned_abs (effective_numerator v.case s t) ≤ 2 ^ 61 * (3000000 * (row t).high_volts * s.denominator)
    current_bounded t inside =
        let most = numerator_bounded v.case t (row t) s (2 ^ 80 * s.denominator) inside (row_at t inside) (row_sound t inside) at_place in
        plain (unsigned_abs (effective_numerator v.case s t)) (row t).high_volts s.denominator most
      where
        plain : (n high d : ℕ) → n ≤ 3 * (high * (2 ^ 80 * d)) → n ≤ 2 ^ 61 * (3000000 * high * d)
        plain n high d h = omega (arith, h)

  -- what is known of the corner with all grounds at their least
  least_of_ranges : IsCornerOfRanges (elements_of v.case) (stands_after v.rows) (ranges_in v) all_least
  least_of_ranges = record {
    within = (laws.limits (elements_of v.case) (tolerance_at v.case v.percent) studied.limits).0;
    in_ranges = least_in_range (elements_of v.case) (stands_after v.rows) (tolerance_at v.case v.percent) studied.limits;
    lesser = lesser (elements_of v.case) (tolerance_at v.case v.percent) studied.limits;
  }

  module _ (nets : GroundNets) (of_nets : AreNetsOf v nets) (corner : Corner) (net : NetView) (there : standing net ≡ corner_in v corner)
      (of_ranges : IsCornerOfRanges (elements_of v.case) (stands_after v.rows) (ranges_in v) corner) (t unit : ℕ) (adjoint : List Ends) (reference : Reference)
      (grains : List Ends) (some : 0 < unit) (small : unit < 2 ^ 7)
      (refers : IsReferredTo v.case nets corner net volts unit grains reference) (adjoins : AreAdjoined v.case net t unit adjoint) (inside : t < length reference.own) (place : t < length v.case.transformers) where
    -- the transformer's high voltage and its enclosure, in units of which enough make a nanoampere
    abbrev high : ℕ
    high = (row t).high_volts

    -- the enclosure that is made for it
    abbrev enclosure : Ends
    enclosure = certified_enclosure (own_in v) (ranges_in v) corner (units_of high unit)
        (intervals_of adjoint reference.potentials (potential_ends reference.own t))

    -- its stray unit isn't small
    enough : 2 ^ 22 ≤ stray_unit high unit
    enough = multiple_enough high unit (row_sound t place).rated some small

    -- a volt of a weight isn't 0 nanovolts
    some_times : 0 < weight_times high unit
    some_times = positive (multiple high unit) high unit some enough
      where
        positive : (m h u : ℕ) → 0 < u → 2 ^ 22 ≤ 3 * h * m → 0 < m * (ADJOINT_UNIT * u)
        positive zero h u above many = absurd (omega (arith, many))
        positive (suc m) h u above many = omega (arith, above)

    -- the enclosure, in milliamperes and cut, holds the current of every varied solution
    enclosed : (s : Solution) → IsVaried (own_in v) (ranges_in v) volts s →
        Encloses (milli_cut enclosure).low (milli_cut enclosure).high (effective_numerator v.case s t) (effective_denominator v.case t s)
    enclosed s varies =
        let network = elements_of v.case in
        let stands = stands_after v.rows in
        let both_limits = laws.limits network (tolerance_at v.case v.percent) studied.limits in
        let in_range = least_in_range network stands (tolerance_at v.case v.percent) studied.limits in
        let modest = laws.modest network stands (tolerance_at v.case v.percent) studied.limits
        (few_percent v.case v.percent studied.sound few) in
        let bounded = laws.bounded network stands (ranges_in v) volts s studied.limits both_limits.0 studied.earthed studied.within in_range
        modest refers.limit (refers.no_ground stands) varies in
        let whole = laws.enclosures network stands (ranges_in v) corner
        (given laws.grains laws.listed v nets of_nets corner net there t unit adjoint reference volts grains some refers adjoins inside)
        (units_of high unit)
        (intervals_of adjoint reference.potentials (potential_ends reference.own t)) s
        studied.limits of_ranges.within both_limits.1 studied.earthed of_ranges.in_ranges (omega (arith, enough))
        (certified laws.grains laws.listed v nets of_nets corner net there t unit adjoint reference volts grains some refers adjoins inside) varies in
        let number = by_listed laws.listed network stands (weight_times high unit) v.case t adjoins.weights s adjoins.by_weights
        varies.none_if_open in
        let nano = subst (λ (n : ℤ). Encloses enclosure.low enclosure.high n (stray_unit high unit * (ADJOINT_UNIT * unit) * s.denominator)) number
        whole in
        milli_cut_holds enclosure (effective_numerator v.case s t) (weight_times high unit) high s.denominator some_times
        (current_bounded s varies bounded t place)
        (subst (λ (n : ℕ). Encloses enclosure.low enclosure.high (pos (weight_times high unit) *ℤ effective_numerator v.case s t) n) (sym (scales high unit s.denominator)) nano)

    -- so does the interval that is made of it
    pub held_at_corner : (ends : Ends) → ends ≡ milli_cut enclosure → HoldsVaried v volts t ends
    held_at_corner ends is s varies =
        subst (λ (e : Ends). Encloses e.low e.high (effective_numerator v.case s t) (effective_denominator v.case t s)) (sym is)
        (enclosed s varies)

  module _ (nets : GroundNets) (of_nets : AreNetsOf v nets) (t unit : ℕ) (adjoint : List Ends) (reference : Reference)
      (grains : List Ends) (some : 0 < unit) (small : unit < 2 ^ 7)
      (refers : IsReferredTo v.case nets all_least nets.least volts unit grains reference) (adjoins : AreAdjoined v.case nets.least t unit adjoint) (inside : t < length reference.own) (place : t < length v.case.transformers) where
    -- the interval that is made with all grounds at their least, where something has an effect
    pub varied_current_is : (ends : Ends) → (HasNoEffect v.case (own_in v) t → ⊥) →
        ends ≡ milli_cut (certified_enclosure (own_in v) (ranges_in v) all_least (units_of (row t).high_volts unit)
        (intervals_of adjoint reference.potentials (potential_ends reference.own t))) →
        IsVariedCurrent v volts unit grains t ends
    varied_current_is ends effect is = record {
      holds = held_at_corner nets of_nets all_least nets.least of_nets.extremes.least_standing least_of_ranges t unit adjoint reference
          grains some small refers adjoins inside place ends is;
      zeroed = λ none. absurd (effect none);
      pinned = inr
          (of_reference laws.grains laws.listed v nets of_nets all_least nets.least of_nets.extremes.least_standing t unit adjoint reference
          volts grains some refers adjoins inside ends is);
    }

-- the references of a workspace
abbrev pub references_in : (case : Lists) (north east : ℕ → ℤ) (workspace : VariedWorkspace) → AreReferred case north east workspace →
    References
references_in case north east workspace referred = record { north = referred.north_grains; east = referred.east_grains; unit = workspace.unit }

-- they are those of the case
pub references_of : (v : Tolerated) (north east : ℕ → ℤ) (workspace : VariedWorkspace) → AreNetsOf v workspace.nets →
    (referred : AreReferred v.case north east workspace) →
    AreReferences v north east (references_in v.case north east workspace referred)
references_of v north east workspace of_nets referred = record {
  north_certain = subst (λ (ps : List Placed). AreCertain ps north referred.north_grains) of_nets.extremes.least_standing
      referred.in_north.certain;
  north_tight = referred.in_north.tight;
  east_certain = subst (λ (ps : List Placed). AreCertain ps east referred.east_grains) of_nets.extremes.least_standing
      referred.in_east.certain;
  east_tight = referred.in_east.tight;
  least_unit = referred.least_unit;
}
