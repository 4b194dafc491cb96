use Rattle.std.proofs.Common.{◌≡◌, ◌<◌, ℕ, Bool, List, length, slice_index, ap, sym, subst, ◌∙◌}
use Rattle.gic_base.specs.declared.limits.TheConstants.{MOST_WALK}
use Rattle.gic_case.specs.declared.item.Transformer.{Transformer}
use Rattle.gic_case.specs.Lists.{Lists}
use Rattle.gic_enclose.specs.Ends.{potential_ends}
use Rattle.gic_fixed.specs.Ends.{Ends, ends_of}
use Rattle.gic_model.specs.Bound.{IsEarthedWithin}
use Rattle.gic_model.specs.Limits.{IsWithinLimits}
use Rattle.gic_model.specs.Network.{Network}
use Rattle.gic_model.specs.Sums.{Placed}
use Rattle.gic_varied.specs.Certified.{Units, certified_enclosure}
use Rattle.gic_varied.specs.Corners.{all_least}
use Rattle.gic_winding.specs.ElementList.{elements_of}
use Rattle.gic_winding.specs.Weights.{transformer_at}
use Rattle.gic_grounds.specs.declared.nets.GroundNets.{GroundNets}
use Rattle.gic_grounds.specs.declared.reference.Reference.{Reference}
use Rattle.gic_grounds.specs.declared.workspace.VariedWorkspace.{VariedWorkspace}
use Rattle.gic_grounds.specs.Corner.{is_most_at}
use Rattle.gic_grounds.specs.Lifted.{CanSolve, HasAdjointSpace}
use Rattle.gic_grounds.specs.Varying.{intervals_of}
use Rattle.gic_grounds.specs.Scale.{stray_unit, units_of}
use Rattle.gic_grounds.specs.Tolerated.{Tolerated, AreNetsOf, AreNetsFor, tolerated, own_in, ranges_in}
use Rattle.gic_grounds.specs.Varied.{IsReadyToVary, HasCornerSpace}
use Rattle.gic_grounds.specs.VariedCurrent.{milli_cut}
use Rattle.gic_grounds.proofs.BothNets.{both_still, together_again, solved_again}
use Rattle.gic_grounds.proofs.Earthings.{own_earthed}
use Rattle.gic_grounds.proofs.Holding.{Laws, IsStudied, varied_current_is, references_in, references_of}
use Rattle.gic_grounds.proofs.RowParts.{row_read, row_rated, can_enclose}
use Rattle.gic_grounds.proofs.workspace.VariedWorkspace.enclose.Goals as goal

-- the theorems that the calls bring
laws_of : (c : goal.After-varied_current-east) → Laws
laws_of c = record {
  enclosures = c.certified_enclosure_law.ensures.holds;
  grains = c.certified_enclosure_law.ensures.grains;
  listed = c.reciprocity_law.ensures.listed;
  modest = c.varied_bound_law.ensures.modest;
  bounded = c.varied_bound_law.ensures.bounded;
  limits = c.other_grounds_law.ensures.limits;
}

pub stray_unit-unit-requires-clause-volts : goal.stray_unit-unit-requires-clause-volts
stray_unit-unit-requires-clause-volts c =
    let row = c.index-transformers-transformer.result in
    row_rated c.args.case.now c.args.transformer row c.requires.place c.transformers.ensures.sound
    (row_read c.args.case.now c.args.transformer c.transformers.result.now row c.requires.place
    c.index-transformers-transformer.is c.transformers.ensures.value)

-- the row that is read, and the unit of stray powers that it gives
row_is : (c : goal.After-varied_current-east) → transformer_at c.args.case.now c.args.transformer ≡ c.index-transformers-transformer.result
row_is c =
    row_read c.args.case.now c.args.transformer c.transformers.result.now c.index-transformers-transformer.result c.requires.place
    c.index-transformers-transformer.is c.transformers.ensures.value

unit_is : (c : goal.After-varied_current-east) →
    stray_unit (transformer_at c.args.case.now c.args.transformer).high_volts c.args.self.now.unit ≡ c.stray_unit-unit.result
unit_is c = ap (λ (t : Transformer). stray_unit t.high_volts c.args.self.now.unit) (row_is c) ∙ sym c.stray_unit-unit.ensures.value

-- the workspace's own corner is the one with all grounds at their least
at_least : (v : Tolerated) (case : Lists) (w : VariedWorkspace) (units : Units) (adjoint : List Ends) (reference : Reference) (t : ℕ) (ends : Ends) →
    IsReadyToVary case w →
    ends ≡ milli_cut (certified_enclosure (own_in v) (ranges_in v) (is_most_at w.all_least) units (intervals_of adjoint reference.potentials (potential_ends reference.own t))) →
    ends ≡ milli_cut (certified_enclosure (own_in v) (ranges_in v) all_least units (intervals_of adjoint reference.potentials (potential_ends reference.own t)))
at_least v case w units adjoint reference t ends ready =
    subst (λ (marks : List Bool). ends ≡ milli_cut (certified_enclosure (own_in v) (ranges_in v) (is_most_at marks) units (intervals_of adjoint reference.potentials (potential_ends reference.own t))))
    ready.has_space.least_corner

pub returns-clause-right : goal.returns-clause-right
returns-clause-right c rows percent north east of_nets referred effect =
    let v = tolerated c.args.case.now rows percent in
    let t = c.args.transformer in
    let w = c.args.self.now in
    let space = c.requires.ready.has_space in
    let can = c.requires.ready.can_solve in
    let within = subst (λ (ps : List Placed). IsEarthedWithin ps MOST_WALK) of_nets.extremes.least_standing
    (record { entries = slice_index w.solving.vector; bound = can.least.bound.bound; none_above = can.least.bound.none_above }) in
    let studied : IsStudied v = record {
      sound = c.transformers.ensures.sound;
      limits = subst IsWithinLimits space.elements c.within_limits.ensures;
      earthed = own_earthed v w.nets of_nets c.requires.ready.solvable.earthed;
      within = within;
    } in
    let inside_north : t < length w.north.own = subst (λ n. t < n) (sym space.north_space.own_count) c.requires.place in
    let inside_east : t < length w.east.own = subst (λ n. t < n) (sym space.east_space.own_count) c.requires.place in
    let some = c.requires.references.small_unit.some in
    let small = c.requires.references.small_unit.small in
    let units = units_of (transformer_at c.args.case.now t).high_volts w.unit in
    record {
      references = references_in c.args.case.now north east w referred;
      of_case = references_of v north east w of_nets referred;
      to_north = varied_current_is (laws_of c) v studied of_nets.most_percent north w.nets of_nets t w.unit c.adjoin.new.out w.north
          referred.north_grains some small referred.in_north c.adjoin.ensures.adjoined inside_north c.requires.place
          (ends_of c.varied_current-north.result) effect
          (at_least v c.args.case.now w units c.adjoin.new.out w.north t (ends_of c.varied_current-north.result) c.requires.ready
          (c.varied_current-north.ensures.enclosure v units (subst (λ (n : GroundNets). AreNetsOf v n) (together_again _ _ w.nets.modest _) of_nets)
          (unit_is c)));
      to_east = varied_current_is (laws_of c) v studied of_nets.most_percent east w.nets of_nets t w.unit c.adjoin.new.out w.east
          referred.east_grains some small referred.in_east c.adjoin.ensures.adjoined inside_east c.requires.place
          (ends_of c.varied_current-east.result) effect
          (at_least v c.args.case.now w units c.adjoin.new.out w.east t (ends_of c.varied_current-east.result) c.requires.ready
          (c.varied_current-east.ensures.enclosure v units (subst (λ (n : GroundNets). AreNetsOf v n) (together_again _ _ w.nets.modest _) of_nets)
          (unit_is c)));
    }

pub adjoin-requires-clause-ready : goal.adjoin-requires-clause-ready
adjoin-requires-clause-ready c =
    subst (λ (n : Network). CanSolve n.nodes (length n.list) c.args.self.now.nets.least c.args.self.now.solving)
    (sym c.requires.ready.has_space.elements) c.requires.ready.can_solve.least

pub adjoin-requires-clause-space : goal.adjoin-requires-clause-space
adjoin-requires-clause-space c =
    subst (λ (n : Network). HasAdjointSpace n.nodes (length n.list) c.args.self.now.volts c.args.self.now.adjoint)
    (sym c.requires.ready.has_space.elements) c.requires.ready.has_space.adjoint_space

pub varied_current-north-requires-clause-space : goal.varied_current-north-requires-clause-space
varied_current-north-requires-clause-space c =
    let w = c.args.self.now in
    let space = c.requires.ready.has_space in
    let network = elements_of c.args.case.now in
    let adjoined = c.adjoin.ensures.space.adjoint_count ∙ ap (λ (n : Network). n.nodes) space.elements in
    can_enclose network.nodes (length network.list) (length c.args.case.now.transformers) c.args.transformer
    _ w.solving c.adjoin.new.out w.north c.requires.ready.can_solve.least c.requires.ready.can_solve.most adjoined
    c.adjoin.ensures.adjoined.within
    space.north_space c.requires.references.north_within c.requires.references.own_north c.requires.place

pub varied_current-east-requires-clause-space : goal.varied_current-east-requires-clause-space
varied_current-east-requires-clause-space c =
    let w = c.args.self.now in
    let space = c.requires.ready.has_space in
    let network = elements_of c.args.case.now in
    let adjoined = c.adjoin.ensures.space.adjoint_count ∙ ap (λ (n : Network). n.nodes) space.elements in
    can_enclose network.nodes (length network.list) (length c.args.case.now.transformers) c.args.transformer
    _ w.solving c.adjoin.new.out w.east c.requires.ready.can_solve.least c.requires.ready.can_solve.most adjoined
    c.adjoin.ensures.adjoined.within
    space.east_space c.requires.references.east_within c.requires.references.own_east c.requires.place

pub returns-clause-ready : goal.returns-clause-ready
returns-clause-ready c =
    let w = c.args.self.now in
    let space = c.requires.ready.has_space in
    let network = elements_of c.args.case.now in
    let can = both_still _ _ _ _ w.nets w.solving c.adjoin.new.solving (ap (λ (n : Network). n.nodes) space.elements)
    (ap (λ (n : Network). length n.list) space.elements) c.adjoin.ensures.still c.requires.ready.can_solve in
    record {
      has_space = record {
        elements = space.elements;
        nets = subst (λ (n : GroundNets). AreNetsFor c.args.case.now n) (together_again _ _ w.nets.modest _) space.nets;
        solving = can.most.has_space;
        adjoint_space = subst (λ (n : Network). HasAdjointSpace n.nodes (length n.list) c.adjoin.new.volts c.adjoin.new.out)
            space.elements c.adjoin.ensures.space;
        north_space = space.north_space;
        east_space = space.east_space;
        least_corner = space.least_corner;
        corner_space = subst (λ (n : GroundNets). HasCornerSpace network.nodes (length c.args.case.now.transformers) n w.at_corner)
            (together_again _ _ w.nets.modest _) space.corner_space;
      };
      solvable = c.requires.ready.solvable;
      can_solve = solved_again _ _ w.nets _ _ can;
    }

pub returns-clause-rest : goal.returns-clause-rest
returns-clause-rest c =
    ap (λ (n : GroundNets). record c.args.self.now { nets = n; solving = c.adjoin.new.solving; volts = c.adjoin.new.volts; adjoint = c.adjoin.new.out })
    (together_again _ _ _ c.args.self.now.nets.modest)
