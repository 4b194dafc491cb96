use Rattle.std.proofs.Common.{List, length, slice_index, ap, subst, ◌∙◌}
use Rattle.std.specs.Prelude.{IfErr, OnOk}
use Rattle.std.proofs.lemmas.List.{length-map}
use Rattle.gic_base.specs.declared.limits.TheConstants.{MOST_WALK}
use Rattle.gic_model.specs.Earthing.{AreEarthed}
use Rattle.gic_model.specs.Limits.{IsWithinLimits}
use Rattle.gic_model.specs.Network.{Network}
use Rattle.gic_model.specs.Standing.{stands_after}
use Rattle.gic_model.specs.Sums.{Placed}
use Rattle.gic_net.specs.Net.{NetView, standing}
use Rattle.gic_stand.specs.Needs.{Solved, Fails}
use Rattle.gic_uniform.specs.Ready.{IsReadyFor}
use Rattle.gic_varied.specs.Grounds.{regrounded}
use Rattle.gic_winding.specs.ElementList.{elements_of}
use Rattle.gic_grounds.specs.Tolerated.{ranges_in, tolerated, own_in}
use Rattle.gic_grounds.specs.Varied.{IsReadyToVary}
use Rattle.gic_grounds.proofs.Answered.{on_ok}
use Rattle.gic_grounds.proofs.Earthings.{least_bound, least_earthed, own_earthed}
use Rattle.gic_grounds.proofs.workspace.VariedWorkspace.look.Goals as goal

pub look-requires-clause-nodes : goal.look-requires-clause-nodes
look-requires-clause-nodes c =
    ap (λ (n : NetView). n.network.nodes) c.most.ensures ∙ ap (λ (n : Network). n.nodes) c.requires.space.nets.of_case.extremes.most_network

-- the look was at the net with the grounds at their greatest
ready_of : (c : goal.After-look) → OnOk c.look.result (IsReadyFor c.args.case.now (standing c.args.self.now.nets.most) c.look.new.self)
ready_of c =
    subst (λ (n : NetView). OnOk c.look.result (IsReadyFor c.args.case.now (standing n) c.look.new.self)) c.most.ensures c.look.ensures.ready

pub returns-clause-ready : goal.returns-clause-ready
returns-clause-ready c =
    let case = c.args.case.now in
    let nets = c.args.self.now.nets in
    let space = c.requires.space in
    let of_case = space.nets.of_case in
    let v = tolerated case space.nets.rows space.nets.percent in
    let network = elements_of case in
    let limits = subst IsWithinLimits space.elements c.within_limits.ensures in
    let looked = record c.args.self.now { solving = c.look.new.self } in
    on_ok (IsReadyFor case (standing nets.most) c.look.new.self) (IsReadyToVary case looked) c.look.result
    (λ ready. record {
      has_space = record {
        elements = space.elements;
        nets = space.nets;
        solving = ready.has_workspace;
        adjoint_space = space.adjoint_space;
        north_space = space.north_space;
        east_space = space.east_space;
        least_corner = space.least_corner;
        corner_space = space.corner_space;
      };
      solvable = ready.solvable;
      can_solve = record {
        extremes = record { network = network; stands = stands_after v.rows; ranges = ranges_in v; are = of_case.extremes };
        least = record {
          node_count = ap (λ (n : Network). n.nodes) of_case.extremes.least_network;
          element_count = ap (λ (n : Network). length n.list) of_case.extremes.least_network
              ∙ length-map network.list (regrounded (λ e. (ranges_in v e).least));
          earthed = least_earthed v nets of_case ready.solvable.earthed;
          has_space = ready.has_workspace;
          bound = least_bound v nets of_case c.other_grounds_law.ensures.bound limits MOST_WALK (slice_index c.look.new.self.vector)
              ready.bound;
        };
        most = record {
          node_count = ap (λ (n : Network). n.nodes) of_case.extremes.most_network;
          element_count = ap (λ (n : Network). length n.list) of_case.extremes.most_network
              ∙ length-map network.list (regrounded (λ e. (ranges_in v e).most));
          earthed = ready.solvable.earthed;
          has_space = ready.has_workspace;
          bound = ready.bound;
        };
      };
    }) (ready_of c)

pub returns-clause-earthed : goal.returns-clause-earthed
returns-clause-earthed c v of_nets =
    on_ok (IsReadyFor c.args.case.now (standing c.args.self.now.nets.most) c.look.new.self) (AreEarthed (own_in v)) c.look.result
    (λ ready. own_earthed v c.args.self.now.nets of_nets ready.solvable.earthed) (ready_of c)

pub returns-clause-err : goal.returns-clause-err
returns-clause-err c v of_nets =
    subst (λ (ps : List Placed). IfErr c.look.result (Fails Solved c.args.case.now 1 ps))
    (ap (λ (n : NetView). standing n) c.most.ensures ∙ of_nets.extremes.most_standing) c.look.ensures.err
