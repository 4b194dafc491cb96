-- The network of a made case can be solved, and one that can is not refused.
use Rattle.std.proofs.Common.{ℕ, ◌<◌, ◌≤◌, ◌^◌, true, None, List, arith}
use Rattle.gic_base.specs.declared.limits.TheConstants.{MOST_WALK}
use Rattle.gic_case.specs.Lists.{Lists}
use Rattle.gic_model.specs.Bound.{IsCappedVector, IsEarthedWithin}
use Rattle.gic_model.specs.Sums.{Placed}
use Rattle.gic_model.proofs.Ends.{live_within, standing_within}
use Rattle.gic_winding.specs.Degrees.{ElementsAreWithinLimits}
use Rattle.gic_winding.specs.ElementList.{elements_of}
use Rattle.gic_stand.specs.declared.fault.NetworkRefusal.{NetworkRefusal}
use Rattle.gic_stand.specs.declared.fault.NetworkRefusal.TheVariants.{Unearthed, Unresolved}
use Rattle.gic_stand.specs.Needs.{Solved, Fails}
use Rattle.gic_stand.specs.Standing.{IsSolvable, standing_of}
use Rattle.gic_make.specs.declared.making.TheConstants.{LEAST_SIZE, MOST_SIZE}
use Rattle.gic_make.specs.Accepted.{MadeCasesAreSound, MadeNodesAreEarthed, MadeCasesAreNearEarth}
use Rattle.gic_make.specs.MadeCase.{made_case}

-- a bound vector within 4096 is a capped vector
capped : (standing : List Placed) → (within : IsEarthedWithin standing MOST_WALK) → IsCappedVector standing within.entries
capped standing within = record {
  live_above_0 = within.bound.live_above_0;
  capped = λ k. omega (arith, within.none_above k);
  dead_0 = within.bound.dead_0;
  rows = λ k live below. within.bound.rows k live;
}

pub never_fails : (case : Lists) (standing : List Placed) (number : ℕ) (refusal : NetworkRefusal) → IsSolvable standing → Fails Solved case number standing refusal → ⊥
never_fails case standing number (Unearthed step node) can fails =
    let first = fails.1.1.0 in
    first.unearthed (can.earthed fails.1.0 first.live)
never_fails case standing number (Unresolved step node) can fails =
    let told = fails.1 in
    let below = told.unresolved.least.least can.within.entries (capped standing can.within) told.node in
    omega (arith, told.unresolved.full, below, can.within.none_above told.node)

-- all elements of a made case stand, and it can be solved
pub made_solvable : ElementsAreWithinLimits → MadeCasesAreSound → MadeNodesAreEarthed → MadeCasesAreNearEarth → (seed size : ℕ) → seed < 2 ^ 32 → LEAST_SIZE ≤ size → size ≤ MOST_SIZE
    → IsSolvable (standing_of (made_case seed size) None)
made_solvable limits sound earthed near seed size small least most =
    let network = elements_of (made_case seed size) in
    let within = near seed size small least most in
    record {
      earthed = λ k live. earthed seed size small least most k (live_within network.nodes _ k (standing_within network (λ item. true) (limits (made_case seed size) (sound seed size small least most))) live);
      within = record {
        entries = within.entries;
        bound = within.bound;
        none_above = λ k. omega (arith, within.none_above k);
      };
    }
