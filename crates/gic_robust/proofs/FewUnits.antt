-- A unit of potentials is at most 20 nanovolts, since no potential with all grounds at their least is beyond 2^58.
use Rattle.std.proofs.Common.{ℕ, ◌+◌, ◌*◌, ◌^◌, ◌≤◌, List, ℤ, arith}
use Rattle.gic_base.specs.declared.limits.TheConstants.{MOST_WALK}
use Rattle.gic_enclose.specs.Certain.{AreCertain, AreTight}
use Rattle.gic_exists.specs.Exists.{EarthedNetworksAreSolved}
use Rattle.gic_fixed.specs.Ends.{Ends}
use Rattle.gic_model.specs.Limits.{most_volts}
use Rattle.gic_model.specs.SolutionLaws.{PotentialsAreBounded}
use Rattle.gic_model.specs.Standing.{stands_after}
use Rattle.gic_varied.specs.GroundLaws.{OtherGroundsEarthToo, RangesStayWithinLimits}
use Rattle.gic_varied.specs.Lifts.{with_least}
use Rattle.gic_winding.specs.ElementList.{elements_of}
use Rattle.gic_grounds.specs.declared.unit.TheConstants.{MOST_UNITS}
use Rattle.gic_grounds.specs.Tolerances.{tolerance_at}
use Rattle.gic_grounds.specs.Tolerated.{Tolerated, ranges_in, least_in}
use Rattle.gic_grounds.specs.Unit.{AreWithinUnits}
use Rattle.gic_grounds.specs.VariedCurrent.{References, AreReferences}
use Rattle.gic_grounds.proofs.ReachedEnds.{reached_ends, within_more}
use Rattle.gic_robust.specs.Resolution.{IsStudiedIn}

module _ (limits : RangesStayWithinLimits) (earthed : OtherGroundsEarthToo) (exists : EarthedNetworksAreSolved) (bounded : PotentialsAreBounded) (v : Tolerated) where
  -- 20 nanovolts serve a reference
  reference_within : (volts : ℕ → ℤ) (grains : List Ends) → IsStudiedIn v volts → AreCertain (least_in v) volts grains → AreTight grains → AreWithinUnits 20 grains
  reference_within volts grains studied certain tight =
      let network = with_least (ranges_in v) (elements_of v.case) in
      let within = (limits (elements_of v.case) (tolerance_at v.case v.percent) studied.limits).0 in
      let found = exists network (stands_after v.rows) volts within (earthed (elements_of v.case) (stands_after v.rows) (λ e. (ranges_in v e).least) studied.earthed) in
      within_more (2 ^ 36 * (MOST_WALK * most_volts) + 2 ^ 32) (2 ^ 36 * 20 * MOST_UNITS) grains (omega arith)
      (reached_ends (least_in v) volts grains found.solution (MOST_WALK * most_volts) certain tight found.solves
      (λ k live. bounded network (stands_after v.rows) volts found.solution k within studied.within studied.volts_limit found.solves live))

  -- so the least unit is no greater
  pub few_units : (north east : ℕ → ℤ) (references : References) → IsStudiedIn v north → IsStudiedIn v east → AreReferences v north east references → references.unit ≤ 20
  few_units north east references in_north in_east are =
      are.least_unit.least 20 (omega arith)
      (reference_within north references.north in_north are.north_certain are.north_tight)
      (reference_within east references.east in_east are.east_certain are.east_tight)
