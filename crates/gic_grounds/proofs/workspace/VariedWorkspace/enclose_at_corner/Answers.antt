use Rattle.std.proofs.Common.{◌≡◌, ◌<◌, Bool, List, length, slice_index, ap, sym, subst, ◌∙◌}
use Rattle.gic_base.specs.declared.limits.TheConstants.{MOST_WALK}
use Rattle.gic_case.specs.declared.item.Transformer.{Transformer}
use Rattle.gic_enclose.specs.Ends.{potential_ends}
use Rattle.gic_fixed.specs.Ends.{ends_of}
use Rattle.gic_model.specs.Bound.{IsEarthedWithin}
use Rattle.gic_model.specs.Limits.{IsWithinLimits}
use Rattle.gic_model.specs.Network.{Network}
use Rattle.gic_model.specs.Standing.{stands_after}
use Rattle.gic_model.specs.Sums.{Placed}
use Rattle.gic_model.specs.Voltages.{number_at}
use Rattle.gic_varied.specs.Certified.{certified_enclosure}
use Rattle.gic_winding.specs.ElementList.{elements_of}
use Rattle.gic_winding.specs.Weights.{transformer_at}
use Rattle.gic_grounds.specs.declared.nets.GroundNets.{GroundNets}
use Rattle.gic_grounds.specs.declared.workspace.VariedWorkspace.{VariedWorkspace}
use Rattle.gic_grounds.specs.Corner.{is_most_at}
use Rattle.gic_grounds.specs.Lifted.{CanSolve, HasAdjointSpace}
use Rattle.gic_grounds.specs.Scale.{stray_unit, units_of}
use Rattle.gic_grounds.specs.Tolerances.{tolerance_at}
use Rattle.gic_grounds.specs.Tolerated.{tolerated, AreNetsOf, own_in, ranges_in}
use Rattle.gic_grounds.specs.VariedCurrent.{milli_cut}
use Rattle.gic_grounds.specs.Varying.{intervals_of}
use Rattle.gic_grounds.proofs.AtCorners.{some_corner_can, ready_still, at_corner_is}
use Rattle.gic_grounds.proofs.Earthings.{own_earthed}
use Rattle.gic_grounds.proofs.Holding.{Laws, IsStudied}
use Rattle.gic_grounds.proofs.RowParts.{row_read, row_rated, can_enclose}
use Rattle.gic_grounds.proofs.workspace.VariedWorkspace.enclose_at_corner.Goals as goal

-- the theorems that the calls bring
laws_of : (c : goal.After-varied_current) → Laws
laws_of c = record {
  enclosures = c.certified_enclosure_law.ensures.holds;
  grains = c.certified_enclosure_law.ensures.grains;
  listed = c.reciprocity_law.ensures.listed;
  modest = c.varied_bound_law.ensures.modest;
  bounded = c.varied_bound_law.ensures.bounded;
  limits = c.other_grounds_law.ensures.limits;
}

pub adjoin-requires-clause-ready : goal.adjoin-requires-clause-ready
adjoin-requires-clause-ready c =
    let case = c.args.case.now in
    let w = c.refer_at_corner-unit.new.self in
    let ready = c.refer_at_corner-unit.ensures.ready in
    let space = ready.has_space in
    let old_space = c.requires.ready.has_space in
    subst (λ (n : Network). CanSolve n.nodes (length n.list) w.at_corner.net w.solving) (sym space.elements)
    (some_corner_can case w.nets w.at_corner.net (elements_of case).nodes (length (elements_of case).list) w.solving space.nets
    (subst IsWithinLimits old_space.elements c.within_limits.ensures) c.corner_law.ensures c.other_grounds_law.ensures.bound
    space.corner_space.some_corner ready.can_solve)

pub adjoin-requires-clause-space : goal.adjoin-requires-clause-space
adjoin-requires-clause-space c =
    let w = c.refer_at_corner-unit.new.self in
    let space = c.refer_at_corner-unit.ensures.ready.has_space in
    subst (λ (n : Network). HasAdjointSpace n.nodes (length n.list) w.volts w.at_corner.adjoint) (sym space.elements)
    (record { volt_count = space.adjoint_space.volt_count; adjoint_count = space.corner_space.adjoint_count })

pub stray_unit-stray_unit-requires-clause-volts : goal.stray_unit-stray_unit-requires-clause-volts
stray_unit-stray_unit-requires-clause-volts c =
    let row = c.index-transformers-transformer.result in
    row_rated c.args.case.now c.args.transformer row c.requires.place c.transformers.ensures.sound
    (row_read c.args.case.now c.args.transformer c.transformers.result.now row c.requires.place
    c.index-transformers-transformer.is c.transformers.ensures.value)

pub varied_current-requires-clause-space : goal.varied_current-requires-clause-space
varied_current-requires-clause-space c =
    let w = c.refer_at_corner-unit.new.self in
    let ready = c.refer_at_corner-unit.ensures.ready in
    let network = elements_of c.args.case.now in
    let nodes = c.adjoin.ensures.space.adjoint_count ∙ ap (λ (n : Network). n.nodes) ready.has_space.elements in
    can_enclose network.nodes (length network.list) (length c.args.case.now.transformers) c.args.transformer
    w.nets w.solving c.adjoin.new.out w.at_corner.reference ready.can_solve.least ready.can_solve.most nodes c.adjoin.ensures.adjoined.within
    ready.has_space.corner_space.reference_space c.refer_at_corner-unit.ensures.reference.varied_within
    c.refer_at_corner-unit.ensures.reference.own_within c.requires.place

-- the row that is read, and the unit of stray powers that it gives
row_is : (c : goal.After-varied_current) → transformer_at c.args.case.now c.args.transformer ≡ c.index-transformers-transformer.result
row_is c =
    row_read c.args.case.now c.args.transformer c.transformers.result.now c.index-transformers-transformer.result c.requires.place
    c.index-transformers-transformer.is c.transformers.ensures.value

unit_is : (c : goal.After-varied_current) →
    stray_unit (transformer_at c.args.case.now c.args.transformer).high_volts c.refer_at_corner-unit.result ≡ c.stray_unit-stray_unit.result
unit_is c =
    ap (λ (t : Transformer). stray_unit t.high_volts c.refer_at_corner-unit.result) (row_is c) ∙ sym c.stray_unit-stray_unit.ensures.value

-- the nets are as they were
same_nets : (c : goal.After-varied_current) → c.refer_at_corner-unit.new.self.nets ≡ c.args.self.now.nets
same_nets c = ap (λ (w : VariedWorkspace). w.nets) c.refer_at_corner-unit.ensures.rest

pub returns-clause-right : goal.returns-clause-right
returns-clause-right c rows percent of_nets quiet effect =
    let case = c.args.case.now in
    let v = tolerated case rows percent in
    let t = c.args.transformer in
    let w = c.args.self.now in
    let corner = is_most_at w.at_corner.corner in
    let limits = subst IsWithinLimits c.requires.ready.has_space.elements c.within_limits.ensures in
    let bound = c.requires.ready.can_solve.least.bound in
    let within = subst (λ (ps : List Placed). IsEarthedWithin ps MOST_WALK) of_nets.extremes.least_standing
    (record { entries = slice_index w.solving.vector; bound = bound.bound; none_above = bound.none_above }) in
    let studied : IsStudied v = record {
      sound = c.transformers.ensures.sound;
      limits = limits;
      earthed = own_earthed v w.nets of_nets c.requires.ready.solvable.earthed;
      within = within;
    } in
    let unit = c.refer_at_corner-unit.result in
    let units = units_of (transformer_at case t).high_volts unit in
    let after = c.refer_at_corner-unit.new.self.at_corner in
    let inside : t < length after.reference.own =
    subst (λ n. t < n) (sym c.refer_at_corner-unit.ensures.ready.has_space.corner_space.reference_space.own_count) c.requires.place in
    at_corner_is (laws_of c) v studied w.nets of_nets corner (number_at c.args.field.now) after
    (c.corner_law.ensures (elements_of case) (stands_after rows) (tolerance_at case percent) corner limits)
    t unit c.adjoin.new.out c.refer_at_corner-unit.ensures.reference.small_unit (c.refer_at_corner-unit.ensures.referred quiet)
    c.adjoin.ensures.adjoined inside c.requires.place (ends_of c.varied_current.result)
    (c.varied_current.ensures.enclosure v units (subst (λ (n : GroundNets). AreNetsOf v n) (sym (same_nets c)) of_nets) (unit_is c) ∙
    ap (λ (marks : List Bool). milli_cut (certified_enclosure (own_in v) (ranges_in v) (is_most_at marks) units
    (intervals_of c.adjoin.new.out after.reference.potentials (potential_ends after.reference.own t)))) c.refer_at_corner-unit.ensures.same_corner)

pub returns-clause-ready : goal.returns-clause-ready
returns-clause-ready c =
    let w = c.refer_at_corner-unit.new.self in
    let ready = c.refer_at_corner-unit.ensures.ready in
    let space = ready.has_space in
    let can = ready_still c.args.case.now w c.adjoin.new.solving ready c.adjoin.ensures.still in
    record {
      has_space = record {
        elements = space.elements;
        nets = space.nets;
        solving = can.least.has_space;
        adjoint_space = record {
          volt_count = c.adjoin.ensures.space.volt_count ∙ ap (λ (n : Network). length n.list) space.elements;
          adjoint_count = space.adjoint_space.adjoint_count;
        };
        north_space = space.north_space;
        east_space = space.east_space;
        least_corner = space.least_corner;
        corner_space = record {
          some_corner = space.corner_space.some_corner;
          mark_count = space.corner_space.mark_count;
          reference_space = space.corner_space.reference_space;
          adjoint_count = c.adjoin.ensures.space.adjoint_count ∙ ap (λ (n : Network). n.nodes) space.elements;
        };
      };
      solvable = ready.solvable;
      can_solve = can;
    }

pub returns-clause-rest : goal.returns-clause-rest
returns-clause-rest c =
    ap (λ (w : VariedWorkspace). record w {
      solving = c.adjoin.new.solving;
      volts = c.adjoin.new.volts;
      at_corner = record c.refer_at_corner-unit.new.self.at_corner { adjoint = c.adjoin.new.out };
    }) c.refer_at_corner-unit.ensures.rest
