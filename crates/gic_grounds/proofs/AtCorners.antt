-- What is done at a corner of the ranges: its net is solved, and a current is enclosed by a reference there.
use Rattle.std.proofs.Common.{◌≡◌, ℕ, ◌<◌, List, length, ℤ, ap, sym, subst, ◌∙◌}
use Rattle.gic_case.specs.Lists.{Lists}
use Rattle.gic_enclose.specs.Certain.{AreCertain}
use Rattle.gic_enclose.specs.Ends.{potential_ends}
use Rattle.gic_fixed.specs.Ends.{Ends}
use Rattle.gic_model.specs.Limits.{IsWithinLimits}
use Rattle.gic_model.specs.Network.{Network}
use Rattle.gic_model.specs.Standing.{stands_after}
use Rattle.gic_model.specs.Sums.{Placed}
use Rattle.gic_net.specs.Net.{NetView}
use Rattle.gic_uniform.specs.declared.solve_workspace.SolveWorkspace.{SolveWorkspace}
use Rattle.gic_varied.specs.Certified.{certified_enclosure}
use Rattle.gic_varied.specs.Corners.{Corner, IsCornerOfRanges, CornersAreOfRanges}
use Rattle.gic_varied.specs.GroundLaws.{BoundVectorsServeLesserGrounds}
use Rattle.gic_winding.specs.ElementList.{elements_of}
use Rattle.gic_winding.specs.Weights.{transformer_at}
use Rattle.gic_grounds.specs.declared.at_corner.CornerWorkspace.{CornerWorkspace}
use Rattle.gic_grounds.specs.declared.nets.GroundNets.{GroundNets}
use Rattle.gic_grounds.specs.declared.workspace.VariedWorkspace.{VariedWorkspace}
use Rattle.gic_grounds.specs.Corner.{IsCornerNet, IsSomeCornerNet}
use Rattle.gic_grounds.specs.Lifted.{CanSolve, CanSolveBoth, StillSolves, IsSmallUnit}
use Rattle.gic_grounds.specs.Scale.{units_of}
use Rattle.gic_grounds.specs.Tolerances.{tolerance_at}
use Rattle.gic_grounds.specs.Tolerated.{Tolerated, tolerated, AreNetsOf, AreNetsFor, ranges_in, own_in}
use Rattle.gic_grounds.specs.Varied.{IsReadyToVary, IsReferredAtCorner, AreAdjoined}
use Rattle.gic_grounds.specs.VariedCurrent.{IsAtCorner, milli_cut}
use Rattle.gic_grounds.specs.Varying.{intervals_of}
use Rattle.gic_grounds.proofs.BothNets.{both_still}
use Rattle.gic_grounds.proofs.Certifying.{of_reference}
use Rattle.gic_grounds.proofs.CornerNets.{corner_standing, corner_solves}
use Rattle.gic_grounds.proofs.Holding.{Laws, IsStudied, held_at_corner}

-- the net at a corner can be solved where that with the greatest grounds can
pub corner_can : (case : Lists) (nets : GroundNets) (corner : Corner) (net : NetView) (nodes count : ℕ) (solving : SolveWorkspace) →
    AreNetsFor case nets → IsWithinLimits (elements_of case) → CornersAreOfRanges → BoundVectorsServeLesserGrounds → IsCornerNet nets corner net →
    CanSolveBoth nodes count nets solving → CanSolve nodes count net solving
corner_can case nets corner net nodes count solving of_case limits corners serves at_corner can =
    corner_solves (tolerated case of_case.rows of_case.percent) nets corner net nodes count solving of_case.of_case at_corner serves
    (corners (elements_of case) (stands_after of_case.rows) (tolerance_at case of_case.percent) corner limits) can.most

-- so it is of a net at some corner
pub some_corner_can : (case : Lists) (nets : GroundNets) (net : NetView) (nodes count : ℕ) (solving : SolveWorkspace) →
    AreNetsFor case nets → IsWithinLimits (elements_of case) → CornersAreOfRanges → BoundVectorsServeLesserGrounds → IsSomeCornerNet nets net →
    CanSolveBoth nodes count nets solving → CanSolve nodes count net solving
some_corner_can case nets net nodes count solving of_case limits corners serves some can =
    corner_can case nets some.corner net nodes count solving of_case limits corners serves some.at_corner can

-- behind a solve of a workspace that is ready both still can
pub ready_still : (case : Lists) (workspace : VariedWorkspace) (after : SolveWorkspace) → IsReadyToVary case workspace →
    StillSolves workspace.elements.nodes (length workspace.elements.list) workspace.solving after →
    CanSolveBoth (elements_of case).nodes (length (elements_of case).list) workspace.nets after
ready_still case workspace after ready still =
    both_still (elements_of case).nodes (length (elements_of case).list) workspace.elements.nodes (length workspace.elements.list)
    workspace.nets workspace.solving after (ap (λ (n : Network). n.nodes) ready.has_space.elements)
    (ap (λ (n : Network). length n.list) ready.has_space.elements) still ready.can_solve

-- the workspace is ready with other marks of the corner, as many as there were
pub ready_elsewhere : (case : Lists) (before now : VariedWorkspace) →
    now ≡ record before { at_corner = record before.at_corner { corner = now.at_corner.corner } } →
    length now.at_corner.corner ≡ length before.at_corner.corner → IsReadyToVary case before → IsReadyToVary case now
ready_elsewhere case before now rest same_count ready =
    let space = ready.has_space in
    subst (IsReadyToVary case) (sym rest) (record {
      has_space = record {
        elements = space.elements;
        nets = space.nets;
        solving = space.solving;
        adjoint_space = space.adjoint_space;
        north_space = space.north_space;
        east_space = space.east_space;
        least_corner = space.least_corner;
        corner_space = record {
          some_corner = space.corner_space.some_corner;
          mark_count = same_count ∙ space.corner_space.mark_count;
          reference_space = space.corner_space.reference_space;
          adjoint_count = space.corner_space.adjoint_count;
        };
      };
      solvable = ready.solvable;
      can_solve = ready.can_solve;
    })

-- the interval that is made of a reference at a corner is one that is made there
pub at_corner_is : (laws : Laws) (v : Tolerated) → IsStudied v → (nets : GroundNets) → AreNetsOf v nets → (corner : Corner) (volts : ℕ → ℤ)
    (at_corner : CornerWorkspace) → IsCornerOfRanges (elements_of v.case) (stands_after v.rows) (ranges_in v) corner →
    (t unit : ℕ) (adjoint : List Ends) → IsSmallUnit unit → IsReferredAtCorner v.case nets corner volts unit at_corner →
    AreAdjoined v.case at_corner.net t unit adjoint → t < length at_corner.reference.own → t < length v.case.transformers → (ends : Ends) →
    ends ≡ milli_cut (certified_enclosure (own_in v) (ranges_in v) corner (units_of (transformer_at v.case t).high_volts unit)
    (intervals_of adjoint at_corner.reference.potentials (potential_ends at_corner.reference.own t))) →
    IsAtCorner v corner volts t ends
at_corner_is laws v studied nets of_nets corner volts at_corner of_ranges t unit adjoint small referred adjoins inside place ends is =
    let there = corner_standing v nets corner at_corner.net of_nets referred.net_there in
    record {
      reference = referred.grains;
      unit = unit;
      certain = subst (λ (ps : List Placed). AreCertain ps volts referred.grains) there referred.refers.certain;
      tight = referred.refers.tight;
      least_unit = referred.least_unit;
      of_reference = of_reference laws.grains laws.listed v nets of_nets corner at_corner.net there t unit adjoint at_corner.reference volts
          referred.grains small.some referred.refers adjoins inside ends is;
      holds = held_at_corner laws v studied of_nets.most_percent volts nets of_nets corner at_corner.net there of_ranges t unit adjoint
          at_corner.reference referred.grains small.some small.small referred.refers adjoins inside place ends is;
    }
