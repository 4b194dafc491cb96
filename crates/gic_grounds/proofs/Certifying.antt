-- What solves left makes a certified enclosure of a transformer's current, and it holds that of every varied solution.
use Rattle.std.proofs.Common.{◌≡◌, ℕ, ◌*◌, ◌<◌, Bool, false, List, [], ◌∷◌, length, ℤ, pos, ◌*ℤ◌, arith, refl, ap, sym, subst, ◌∙◌}
use Rattle.std.specs.List.{AllByRecursion}
use Rattle.std.proofs.lemmas.Int.{ints}
use Rattle.gic_case.specs.Lists.{Lists}
use Rattle.gic_effective.specs.Weighted.{effective_numerator}
use Rattle.gic_enclose.specs.Certain.{AreCertain}
use Rattle.gic_enclose.specs.Ends.{potential_ends}
use Rattle.gic_fixed.specs.Encloses.{Encloses}
use Rattle.gic_fixed.specs.Ends.{Ends}
use Rattle.gic_fixed.proofs.Enclosures.{Encloses-common}
use Rattle.gic_fixed.proofs.Sums.{sum_of-same}
use Rattle.gic_model.specs.declared.parts.Item.{Item}
use Rattle.gic_model.specs.Network.{Network}
use Rattle.gic_model.specs.Solution.{Solution, IsSolution}
use Rattle.gic_model.specs.Standing.{standing_elements, stands_after, is_standing}
use Rattle.gic_model.specs.Sums.{Placed}
use Rattle.gic_net.specs.Net.{NetView, standing}
use Rattle.gic_varied.specs.Certified.{Voltages, Intervals, AreCertified, GrainsHoldInUnits, in_units, certified_enclosure}
use Rattle.gic_varied.specs.Corners.{Corner, corner_ohm}
use Rattle.gic_varied.specs.Reciprocal.{current_by_weights, weights_from, ListedWeightsCount}
use Rattle.gic_varied.proofs.Regrounded.{solves_with}
use Rattle.gic_winding.specs.ElementList.{elements_of}
use Rattle.gic_winding.specs.Weights.{transformer_at, weighted_windings}
use Rattle.gic_grounds.specs.declared.nets.GroundNets.{GroundNets}
use Rattle.gic_grounds.specs.declared.reference.Reference.{Reference}
use Rattle.gic_grounds.specs.declared.unit.TheConstants.{ADJOINT_UNIT}
use Rattle.gic_grounds.specs.Scale.{multiple, weight_times, stray_unit, units_of}
use Rattle.gic_grounds.specs.Tolerated.{Tolerated, AreNetsOf, ranges_in, own_in, most_in, corner_in}
use Rattle.gic_grounds.specs.Varied.{IsReferredTo, AreAdjoined}
use Rattle.gic_grounds.specs.VariedCurrent.{IsOfReference, IsInside, milli_cut}
use Rattle.gic_grounds.specs.Varying.{intervals_of}
use Rattle.gic_grounds.proofs.Rounded.{rounded_at, held_in_units}

-- a weighted current by weights that are listed
pub by_listed : ListedWeightsCount → (network : Network) (stands : Item → Bool) (times : ℕ) (case : Lists) (t : ℕ)
    (weights : ℕ → ℤ) (s : Solution) →
    ((place : ℕ) → weights place ≡ weights_from times (weighted_windings case t) place) →
    ((place : ℕ) → is_standing (standing_elements network stands) place ≡ false → s.current place ≡ pos 0) →
    current_by_weights (standing_elements network stands) weights s ≡ pos times *ℤ effective_numerator case s t
by_listed law network stands times case t weights s are none =
    sum_of-same (λ p. weights p.0 *ℤ s.current p.0) (λ p. weights_from times (weighted_windings case t) p.0 *ℤ s.current p.0) (standing_elements network stands)
    (everywhere (standing_elements network stands)) ∙
    law network stands (weighted_windings case t) times s none
  where
    everywhere : (ps : List Placed) →
        AllByRecursion (λ p. weights p.0 *ℤ s.current p.0 ≡ weights_from times (weighted_windings case t) p.0 *ℤ s.current p.0) ps
    everywhere [] = tt
    everywhere (p ∷ ps) = (ap (λ z. z *ℤ s.current p.0) (are p.0), everywhere ps)

-- an interval ends nowhere beyond itself
pub same_inside : (all ends : Ends) → ends ≡ all → IsInside all ends
same_inside all ends is = subst (λ (e : Ends). IsInside all e) (sym is) (record { from = omega (arith, ints); to = omega (arith, ints) })

-- the scales fit: so many products of both units make 3 V nanoamperes of the weights' multiple
pub scales : (high unit d : ℕ) → weight_times high unit * (3 * high * d) ≡ stray_unit high unit * (ADJOINT_UNIT * unit) * d
scales high unit d = plain (multiple high unit) high unit d
  where
    plain : (m h u n : ℕ) → m * (ADJOINT_UNIT * u) * (3 * h * n) ≡ 3 * h * m * (ADJOINT_UNIT * u) * n
    plain m h u n = omega arith

module _ (grains_law : GrainsHoldInUnits) (listed : ListedWeightsCount) (v : Tolerated) (nets : GroundNets) (of_nets : AreNetsOf v nets)
    (corner : Corner) (net : NetView) (there : standing net ≡ corner_in v corner)
    (t unit : ℕ) (adjoint : List Ends) (reference : Reference) (volts : ℕ → ℤ) (grains : List Ends) (some : 0 < unit)
    (refers : IsReferredTo v.case nets corner net volts unit grains reference) (adjoins : AreAdjoined v.case net t unit adjoint) (inside : t < length reference.own) where
  -- the case's network, what stands of it, and the transformer's high voltage
  abbrev network : Network
  network = elements_of v.case

  abbrev stands : Item → Bool
  stands = stands_after v.rows

  abbrev high : ℕ
  high = (transformer_at v.case t).high_volts

  -- the voltages of the field, of the weights and of the lifts, and the intervals of their solutions
  abbrev pub given : Voltages
  given = record { field = volts; weights = adjoins.weights; lowering = refers.lifted.lowered.volts; raising = refers.lifted.raised.volts }

  abbrev pub intervals : Intervals
  intervals = intervals_of adjoint reference.potentials (potential_ends reference.own t)

  -- what is certain in the nets is so in the case's networks
  reference_certain : AreCertain (corner_in v corner) volts grains
  reference_certain = subst (λ (ps : List Placed). AreCertain ps volts grains) there refers.certain

  adjoint_certain : AreCertain (corner_in v corner) adjoins.weights adjoins.grains
  adjoint_certain = subst (λ (ps : List Placed). AreCertain ps adjoins.weights adjoins.grains) there adjoins.certain

  lowered_certain : AreCertain (most_in v) refers.lifted.lowered.volts refers.lifted.lowered.grains
  lowered_certain = subst (λ (ps : List Placed). AreCertain ps refers.lifted.lowered.volts refers.lifted.lowered.grains) of_nets.extremes.most_standing refers.lifted.lowered.certain

  raised_certain : AreCertain (most_in v) refers.lifted.raised.volts refers.lifted.raised.grains
  raised_certain = subst (λ (ps : List Placed). AreCertain ps refers.lifted.raised.volts refers.lifted.raised.grains) of_nets.extremes.most_standing refers.lifted.raised.certain

  -- each interval is that in grains, in its unit
  pub reference_rounded : (k : ℕ) → intervals.reference k ≡ in_units unit (potential_ends grains k)
  reference_rounded = rounded_at unit grains reference.potentials.reference some refers.rounded

  adjoint_rounded : (k : ℕ) → intervals.adjoint k ≡ in_units ADJOINT_UNIT (potential_ends adjoins.grains k)
  adjoint_rounded = rounded_at ADJOINT_UNIT adjoins.grains adjoint (omega arith) adjoins.rounded

  lowering_rounded : (k : ℕ) → intervals.lowering k ≡ in_units 1 (potential_ends refers.lifted.lowered.grains k)
  lowering_rounded = rounded_at 1 refers.lifted.lowered.grains reference.potentials.lowering (omega arith) refers.lifted.lowered.rounded

  raising_rounded : (k : ℕ) → intervals.raising k ≡ in_units 1 (potential_ends refers.lifted.raised.grains k)
  raising_rounded = rounded_at 1 refers.lifted.raised.grains reference.potentials.raising (omega arith) refers.lifted.raised.rounded

  -- a solution of the reference has no current where nothing stands
  quiet_places : (s : Solution) → IsSolution (corner_in v corner) volts s → (place : ℕ) → is_standing (own_in v) place ≡ false →
      s.current place ≡ pos 0
  quiet_places s solves = (solves_with network stands (corner_ohm (ranges_in v) corner) volts s solves).none_if_open

  -- the reference's own current, as a weighted current
  own_holds : (s : Solution) → IsSolution (corner_in v corner) volts s →
      Encloses intervals.own.low intervals.own.high (current_by_weights (own_in v) adjoins.weights s) (stray_unit high unit * (ADJOINT_UNIT * unit) * s.denominator)
  own_holds s solves =
      let in_net = subst (λ (ps : List Placed). IsSolution ps volts s) (sym there) solves in
      let own = (refers.own t inside).holds s in_net (λ k live. (refers.certain k).live live s in_net) in
      let times = Encloses-common intervals.own.low intervals.own.high (effective_numerator v.case s t) (3 * high * s.denominator) (weight_times high unit) own in
      let number = by_listed listed network stands (weight_times high unit) v.case t adjoins.weights s adjoins.by_weights (quiet_places s solves) in
      subst (λ (n : ℤ). Encloses intervals.own.low intervals.own.high n (stray_unit high unit * (ADJOINT_UNIT * unit) * s.denominator)) (sym number)
      (subst (λ (n : ℕ). Encloses intervals.own.low intervals.own.high (pos (weight_times high unit) *ℤ effective_numerator v.case s t) n) (scales high unit s.denominator) times)

  -- all of it is certified
  pub certified : AreCertified network stands (ranges_in v) corner given (units_of high unit) intervals
  certified = record {
    field = refers.no_ground stands;
    weights = adjoins.no_ground stands;
    lowering_volts = refers.lifted.lowered.lifts network stands (ranges_in v) of_nets.extremes;
    raising_volts = refers.lifted.raised.lifts network stands (ranges_in v) of_nets.extremes;
    reference = held_in_units grains_law (corner_in v corner) volts unit grains intervals.reference some reference_certain reference_rounded;
    adjoint = held_in_units grains_law (corner_in v corner) adjoins.weights ADJOINT_UNIT adjoins.grains intervals.adjoint (omega arith) adjoint_certain adjoint_rounded;
    lowering = held_in_units grains_law (most_in v) refers.lifted.lowered.volts 1 refers.lifted.lowered.grains intervals.lowering (omega arith) lowered_certain lowering_rounded;
    raising = held_in_units grains_law (most_in v) refers.lifted.raised.volts 1 refers.lifted.raised.grains intervals.raising (omega arith) raised_certain raising_rounded;
    own = own_holds;
  }

  -- so the ends that are made of them are of the reference
  pub of_reference : (ends : Ends) → ends ≡ milli_cut (certified_enclosure (own_in v) (ranges_in v) corner (units_of high unit) intervals) →
      IsOfReference v corner volts unit grains t ends
  of_reference ends is = record {
    given = given;
    intervals = intervals;
    in_field = refl;
    by_weights = adjoins.by_weights;
    certified = certified;
    of_reference = reference_rounded;
    tight_adjoint = record { grains = adjoins.grains; certain = adjoint_certain; tight = adjoins.tight; rounded = adjoint_rounded };
    tight_lowering = record { grains = refers.lifted.lowered.grains; certain = lowered_certain; tight = refers.lifted.lowered.tight; rounded = lowering_rounded };
    tight_raising = record { grains = refers.lifted.raised.grains; certain = raised_certain; tight = refers.lifted.raised.tight; rounded = raising_rounded };
    tight_own = (refers.own t inside).tight refers.tight;
    inside = same_inside (milli_cut (certified_enclosure (own_in v) (ranges_in v) corner (units_of high unit) intervals)) ends is;
  }
