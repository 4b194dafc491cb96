-- That both nets can be solved, over a solve and with their nodes and elements counted otherwise; the net with the least grounds is at a corner.
use Rattle.std.proofs.Common.{◌≡◌, ℕ, refl, ap, sym, subst}
use Rattle.std.specs.Coded.{le_prop}
use Rattle.gic_model.specs.Network.{Network}
use Rattle.gic_net.specs.Net.{NetView}
use Rattle.gic_uniform.specs.declared.solve_workspace.SolveWorkspace.{SolveWorkspace}
use Rattle.gic_varied.specs.Corners.{all_least}
use Rattle.gic_grounds.specs.declared.nets.GroundNets.{GroundNets}
use Rattle.gic_grounds.specs.Corner.{IsSomeCornerNet}
use Rattle.gic_grounds.specs.Lifted.{CanSolveBoth, StillSolves}
use Rattle.gic_grounds.specs.Modest.{AreModestNetworks}
use Rattle.gic_grounds.specs.Nets.{AreSomeExtremes}

-- what can be solved of so many nodes and elements, of as many that are counted otherwise
pub recounted_both : (nodes count n m : ℕ) (nets : GroundNets) (solving : SolveWorkspace) → n ≡ nodes → m ≡ count →
    CanSolveBoth nodes count nets solving → CanSolveBoth n m nets solving
recounted_both nodes count n m nets solving e f h =
    subst (λ (k : ℕ). CanSolveBoth k m nets solving) (sym e) (subst (λ (k : ℕ). CanSolveBoth nodes k nets solving) (sym f) h)

-- where each net that could be solved still can, both can
pub both_still : (nodes count n m : ℕ) (nets : GroundNets) (before after : SolveWorkspace) → n ≡ nodes → m ≡ count →
    StillSolves n m before after → CanSolveBoth nodes count nets before → CanSolveBoth nodes count nets after
both_still nodes count n m nets before after e f still can =
    let counted = recounted_both nodes count n m nets before e f can in
    recounted_both n m nodes count nets after (sym e) (sym f)
    (record { extremes = counted.extremes; least = still nets.least counted.least; most = still nets.most counted.most })

-- a net that is the one with the least grounds is at some corner
pub least_at_corner : (nets : GroundNets) (net : NetView) → net ≡ nets.least → IsSomeCornerNet nets net
least_at_corner nets net same =
    subst (λ (n : NetView). IsSomeCornerNet nets n) (sym same) (record {
      corner = all_least;
      at_corner = record { same_nodes = refl; same_count = refl; each = λ place inside. refl; same_items = refl };
    })

-- the nets of both
abbrev pub the_nets : (least most : NetView) → AreModestNetworks least.network most.network → GroundNets
the_nets least most modest = record { least = least; most = most; modest = modest }

-- that two networks are modest has one proof at most, so nets that are put together again of both are the same
modest_once : (least most : Network) → IsProp (AreModestNetworks least most)
modest_once least most = hlevel le_prop

pub together_again : (least most : NetView) (one other : AreModestNetworks least.network most.network) →
    the_nets least most one ≡ the_nets least most other
together_again least most one other =
    ap (λ (m : AreModestNetworks least.network most.network). the_nets least most m) (modest_once least.network most.network one other)

-- they are nets of the same network
pub extremes_again : (nets : GroundNets) (modest : AreModestNetworks nets.least.network nets.most.network) → AreSomeExtremes nets → AreSomeExtremes (the_nets nets.least nets.most modest)
extremes_again nets modest h = record {
  network = h.network;
  stands = h.stands;
  ranges = h.ranges;
  are = record {
    least_network = h.are.least_network;
    most_network = h.are.most_network;
    least_standing = h.are.least_standing;
    most_standing = h.are.most_standing;
  };
}

-- and can be solved as well
pub solved_again : (nodes count : ℕ) (nets : GroundNets) (modest : AreModestNetworks nets.least.network nets.most.network) (solving : SolveWorkspace) →
    CanSolveBoth nodes count nets solving → CanSolveBoth nodes count (the_nets nets.least nets.most modest) solving
solved_again nodes count nets modest solving can = record { extremes = extremes_again nets modest can.extremes; least = can.least; most = can.most }
