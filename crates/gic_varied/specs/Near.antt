-- How near the certified enclosure comes to the reference enclosure in exact numbers, where each interval that it is made of ends near all that it holds.
use Rattle.std.specs.Prelude.{ℕ, ◌≡◌, ◌+◌, ◌-◌, ◌*◌, ◌≤◌, ◌<◌, Bool, List, length, IsTrue, IsFalse, ℤ, pos, neg_ℤ, ◌+ℤ◌, ◌-ℤ◌, ◌*ℤ◌, ◌≤ℤ◌}
use Rattle.std.specs.List.{All}
use Rattle.std.specs.Int.{int_min, int_max}
use Rattle.gic_fixed.specs.Ends.{Ends, IsAtMostWide}
use Rattle.gic_model.specs.declared.parts.Item.{Item}
use Rattle.gic_model.specs.Earthing.{AreEarthed}
use Rattle.gic_model.specs.Limits.{IsWithinLimits}
use Rattle.gic_model.specs.Network.{Network}
use Rattle.gic_model.specs.Solution.{Solution, IsSolution, IsOhm, IsKirchhoff}
use Rattle.gic_model.specs.Standing.{IsLive, standing_elements}
use Rattle.gic_model.specs.Sums.{Placed, sum_of}
use Rattle.gic_varied.specs.Bounds.{AreModest}
use Rattle.gic_varied.specs.Corners.{all_least}
use Rattle.gic_varied.specs.Certified.{Voltages, Units, Intervals, AreCertified, certified_enclosure}
use Rattle.gic_varied.specs.Grounds.{is_ground, grounds_among}
use Rattle.gic_varied.specs.Lifts.{with_least, with_most}
use Rattle.gic_varied.specs.Ranges.{Ranges, AreInRanges}
use Rattle.gic_varied.specs.Reciprocal.{current_by_weights}

-- over an element's resistance in micro-ohm, its conductance in siemens
abbrev pub micro_paths : Placed → ℕ
micro_paths p = p.1.times * 1000000

-- how far above 0 these potentials are, 0 where they are below
abbrev pub heights : (potential : ℕ → ℤ) → ℕ → ℤ
heights potential k = int_max (potential k) (pos 0)

-- how far below
abbrev pub depths : (potential : ℕ → ℤ) → ℕ → ℤ
depths potential k = int_max (neg_ℤ (potential k)) (pos 0)

-- Ohm's law at a ground of the greatest resistance whose voltage takes (most - least) / least of the height away, whole or not: so the current (1/least - 1/most) times the height is injected
abbrev pub IsLiftedGround : Ranges → (height : ℕ → ℤ) → (lift : Solution) → Placed → Type 0
IsLiftedGround ranges height lift p =
    let range = ranges p.1 in
    pos (range.least * range.most) *ℤ lift.current p.0 ≡
    pos (micro_paths p) *ℤ (pos range.least *ℤ lift.potential p.1.from.0 -ℤ pos (range.most - range.least) *ℤ height p.1.from.0)

-- the lift over heights, in exact numbers, which are over the lift's denominator: as a solution of the network with its grounds at their greatest, where no element but a ground has a voltage
pub record IsExactLift (standing : List Placed) (ranges : Ranges) (height : ℕ → ℤ) (lift : Solution) : Type 0 where
  pub denominator_above_0 : 0 < lift.denominator
  pub ohm : All (λ p. IsFalse (is_ground p.1) → IsOhm (λ place. pos 0) lift p) standing
  pub grounds : All (λ p. IsTrue (is_ground p.1) → IsLiftedGround ranges height lift p) standing
  pub kirchhoff : (k : ℕ) → IsLive standing k → IsKirchhoff standing lift k

-- the reference, its two lifts and the adjoint solution in exact numbers, all over one denominator
pub record ExactSolutions : Type 0 where
  pub reference : Solution
  pub adjoint : Solution
  pub lowering : Solution
  pub raising : Solution

pub record AreExact (network : Network) (stands : Item → Bool) (ranges : Ranges) (field weights : ℕ → ℤ) (exact : ExactSolutions) : Type 0 where
  pub refers : IsSolution (standing_elements (with_least ranges network) stands) field exact.reference
  pub adjoins : IsSolution (standing_elements (with_least ranges network) stands) weights exact.adjoint
  pub lowers : IsExactLift (standing_elements network stands) ranges (depths exact.reference.potential) exact.lowering
  pub raises : IsExactLift (standing_elements network stands) ranges (heights exact.reference.potential) exact.raising
  pub adjoint_over : exact.adjoint.denominator ≡ exact.reference.denominator
  pub lowering_over : exact.lowering.denominator ≡ exact.reference.denominator
  pub raising_over : exact.raising.denominator ≡ exact.reference.denominator

-- P - x⁻ and P + x⁺ at a node
abbrev pub exact_ends : ExactSolutions → (k : ℕ) → Ends
exact_ends exact k = record { low = exact.reference.potential k -ℤ exact.lowering.potential k; high = exact.reference.potential k +ℤ exact.raising.potential k }

-- the least and the greatest of Y p for p between these, over the denominator twice
abbrev pub exact_product : ExactSolutions → Placed → Ends
exact_product exact p =
    let k = p.1.from.0 in
    let y = exact.adjoint.potential k in
    record {
      low = int_min (y *ℤ (exact_ends exact k).low) (y *ℤ (exact_ends exact k).high);
      high = int_max (y *ℤ (exact_ends exact k).low) (y *ℤ (exact_ends exact k).high);
    }

-- the least and the greatest of d Y p, with d from the conductance of the ground's greatest resistance less that of its least, up to 0
pub record IsExactPart (ranges : Ranges) (exact : ExactSolutions) (p : Placed) (part : Ends) : Type 0 where
  pub low : pos ((ranges p.1).most * (ranges p.1).least) *ℤ part.low ≡
      neg_ℤ (pos (micro_paths p * ((ranges p.1).most - (ranges p.1).least)) *ℤ int_max (exact_product exact p).high (pos 0))
  pub high : pos ((ranges p.1).most * (ranges p.1).least) *ℤ part.high ≡
      neg_ℤ (pos (micro_paths p * ((ranges p.1).most - (ranges p.1).least)) *ℤ int_min (exact_product exact p).low (pos 0))

-- of each ground; the denominator is one over which they are whole
abbrev pub AreExactParts : List Placed → Ranges → ExactSolutions → (parts : Placed → Ends) → Type 0
AreExactParts standing ranges exact parts = All (λ p. IsTrue (is_ground p.1) → IsExactPart ranges exact p (parts p)) standing

-- the reference enclosure in exact numbers, over the denominator twice: the reference's own weighted current, and the parts of all grounds
abbrev pub exact_enclosure : List Placed → (weights : ℕ → ℤ) → ExactSolutions → (parts : Placed → Ends) → Ends
exact_enclosure standing weights exact parts =
    let own = pos exact.reference.denominator *ℤ current_by_weights standing weights exact.reference in
    record {
      low = own +ℤ sum_of (λ p. (parts p).low) (grounds_among standing);
      high = own +ℤ sum_of (λ p. (parts p).high) (grounds_among standing);
    }

-- in units of so many nanovolts no end of the interval is more than two units beyond this solution's potential
pub record IsNearAt (s : Solution) (unit : ℕ) (k : ℕ) (ends : Ends) : Type 0 where
  pub low : (s.potential k -ℤ pos (2 * unit * s.denominator)) ≤ℤ (ends.low *ℤ pos (unit * s.denominator))
  pub high : (ends.high *ℤ pos (unit * s.denominator)) ≤ℤ (s.potential k +ℤ pos (2 * unit * s.denominator))

-- so it is at each live node in every solution for these voltages
abbrev pub AreNear : List Placed → (volts : ℕ → ℤ) → (unit : ℕ) → (ends : ℕ → Ends) → Type 0
AreNear standing volts unit ends = (s : Solution) → IsSolution standing volts s → (k : ℕ) → IsLive standing k → IsNearAt s unit k (ends k)

-- of all that an enclosure is made of
pub record AreAllNear (network : Network) (stands : Item → Bool) (ranges : Ranges) (given : Voltages) (units : Units) (ends : Intervals) : Type 0 where
  pub reference : AreNear (standing_elements (with_least ranges network) stands) given.field units.potential ends.reference
  pub adjoint : AreNear (standing_elements (with_least ranges network) stands) given.weights units.adjoint ends.adjoint
  pub lowering : AreNear (standing_elements (with_most ranges network) stands) given.lowering 1 ends.lowering
  pub raising : AreNear (standing_elements (with_most ranges network) stands) given.raising 1 ends.raising
  pub own : IsAtMostWide 401 ends.own.low ends.own.high

-- no element's voltage over its own resistance is more nanoamperes than these, either way
pub record AreDrivenAtMost (standing : List Placed) (volts : ℕ → ℤ) (driven : ℕ → ℕ) : Type 0 where
  pub above : All (λ p. (pos (micro_paths p) *ℤ volts p.0) ≤ℤ pos (p.1.micro_ohm * driven p.0)) standing
  pub below : All (λ p. neg_ℤ (pos (micro_paths p) *ℤ volts p.0) ≤ℤ pos (p.1.micro_ohm * driven p.0)) standing

-- no standing ground's conductance is above so many siemens
abbrev pub ConductAtMost : List Placed → Ranges → (conductance : ℕ) → Type 0
ConductAtMost standing ranges conductance = All (λ p. IsTrue (is_ground p.1) → micro_paths p ≤ (ranges p.1).least * conductance) standing

-- bounds of what moves an enclosure away from the exact one: of the sums of what the field and the weights drive, in nanoamperes, the greatest conductance of a ground in siemens, and how many grounds there are
pub record Sizes : Type 0 where
  pub field : ℕ
  pub weights : ℕ
  pub conductance : ℕ
  pub grounds : ℕ

pub record AreSizes (standing : List Placed) (ranges : Ranges) (field weights : ℕ → ℤ) (sizes : Sizes) : Type 0 where
  pub driven_field : ℕ → ℕ
  pub driven_weights : ℕ → ℕ
  pub by_field : AreDrivenAtMost standing field driven_field
  pub by_weights : AreDrivenAtMost standing weights driven_weights
  pub field_sum : sum_of (λ p. pos (driven_field p.0)) standing ≤ℤ pos sizes.field
  pub weights_sum : sum_of (λ p. pos (driven_weights p.0)) standing ≤ℤ pos sizes.weights
  pub conducting : ConductAtMost standing ranges sizes.conductance
  pub count : length (grounds_among standing) ≤ sizes.grounds

-- a unit of the weighted current in these units, in nanovolts times nanoamperes
abbrev pub current_unit : Units → ℕ
current_unit units = units.stray * (units.adjoint * units.potential)

-- how far, in nanovolts times nanoamperes: a unit of the current for each ground and 401 for the reference's own current; 43 units of potential times the adjoint solution's currents to earth, which add up to at most twice what the weights drive; two units of adjoint potential times the greatest varied currents, which add up to at most 42 times what the field drives; and the product of both
abbrev pub slack : Units → Sizes → ℕ
slack units sizes =
    units.stray * (units.adjoint * units.potential) * (sizes.grounds + 401) +
    (86 * units.potential * sizes.weights +
    (84 * units.adjoint * sizes.field + 86 * units.adjoint * units.potential * (sizes.conductance * sizes.grounds)))

-- the certified enclosure is at most this much wider at each end
abbrev pub CertifiedEnclosuresAreNear : Type 0
CertifiedEnclosuresAreNear = (network : Network) (stands : Item → Bool) (ranges : Ranges) (given : Voltages) (units : Units) (ends : Intervals)
    (exact : ExactSolutions) (parts : Placed → Ends) (sizes : Sizes) →
    let standing = standing_elements network stands in
    let d = exact.reference.denominator in
    IsWithinLimits network → IsWithinLimits (with_least ranges network) → IsWithinLimits (with_most ranges network) → AreEarthed standing →
    AreInRanges ranges (λ e. (ranges e).least) standing → AreModest ranges standing → 0 < units.stray → 0 < units.adjoint → 0 < units.potential →
    AreCertified network stands ranges all_least given units ends → AreAllNear network stands ranges given units ends →
    AreExact network stands ranges given.field given.weights exact → AreExactParts standing ranges exact parts → AreSizes standing ranges given.field given.weights sizes →
    let certified = certified_enclosure standing ranges all_least units ends in
    let all = exact_enclosure standing given.weights exact parts in
    let one = units.stray * (units.adjoint * units.potential) * (d * d) in
    (all.low ≤ℤ (certified.low *ℤ pos one +ℤ pos (slack units sizes * (d * d)))) ×
    ((certified.high *ℤ pos one) ≤ℤ (all.high +ℤ pos (slack units sizes * (d * d))))
