-- How great the currents of varied solutions can be, whatever the grounds of their ranges.
use Rattle.std.specs.Prelude.{ℕ, ◌*◌, ◌^◌, ◌≤◌, Bool, List, IsTrue, IsFalse, ℤ, unsigned_abs}
use Rattle.std.specs.List.{All}
use Rattle.gic_base.specs.declared.limits.TheConstants.{MOST_WALK}
use Rattle.gic_model.specs.declared.parts.Item.{Item}
use Rattle.gic_model.specs.Bound.{IsEarthedWithin}
use Rattle.gic_model.specs.Earthing.{AreEarthed}
use Rattle.gic_model.specs.Limits.{IsWithinLimits, AreVolts}
use Rattle.gic_model.specs.Network.{Network}
use Rattle.gic_model.specs.Solution.{Solution}
use Rattle.gic_model.specs.Standing.{standing_elements}
use Rattle.gic_model.specs.Sums.{Placed}
use Rattle.gic_varied.specs.Grounds.{is_ground, HaveNoGroundVolts}
use Rattle.gic_varied.specs.Lifts.{with_least}
use Rattle.gic_varied.specs.Ranges.{Ranges, ranges_of, AreInRanges}
use Rattle.gic_varied.specs.Varied.{IsVaried}

-- no standing ground's greatest resistance is above 20 times its least
abbrev pub AreModest : Ranges → List Placed → Type 0
AreModest ranges standing = All (λ p. IsTrue (is_ground p.1) → (ranges p.1).most ≤ 20 * (ranges p.1).least) standing

-- so it is with tolerances up to 90 per cent
abbrev pub TolerancesAreModest : Type 0
TolerancesAreModest = (network : Network) (stands : Item → Bool) (percent : Item → ℕ) →
    IsWithinLimits network → ((item : Item) → percent item ≤ 90) → AreModest (ranges_of percent) (standing_elements network stands)

-- then no standing element but a ground carries more than 2^80 nanoamperes in a varied solution, either way
abbrev pub VariedCurrentsAreBounded : Type 0
VariedCurrentsAreBounded = (network : Network) (stands : Item → Bool) (ranges : Ranges) (volts : ℕ → ℤ) (varied : Solution) →
    let standing = standing_elements network stands in
    IsWithinLimits network → IsWithinLimits (with_least ranges network) → AreEarthed standing →
    IsEarthedWithin (standing_elements (with_least ranges network) stands) MOST_WALK →
    AreInRanges ranges (λ e. (ranges e).least) standing → AreModest ranges standing →
    AreVolts volts → HaveNoGroundVolts standing volts → IsVaried standing ranges volts varied →
    All (λ p. IsFalse (is_ground p.1) → unsigned_abs (varied.current p.0) ≤ 2 ^ 80 * varied.denominator) standing
