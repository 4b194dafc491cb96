use Rattle.std.proofs.Common.{◌≡◌, ℕ, ◌<◌, None, length, slice_index_or, ap, sym, subst, ◌∙◌}
use Rattle.gic_case.specs.Lists.{node_names}
use Rattle.gic_model.specs.Network.{Network}
use Rattle.gic_view.specs.View.{View}
use Rattle.gic_winding.specs.ElementList.{elements_of}
use Rattle.gic_winding.proofs.Limits.{nodes_named}
use Rattle.gic_effective.specs.ViewLengths.{HasViewLengths}
use Rattle.gic_base_views.proofs.showing.fill_superposed.Goals as goal

pub fill_nodes-requires-clause-rows : goal.fill_nodes-requires-clause-rows
fill_nodes-requires-clause-rows c = record {
  place_count = c.requires.table.nodes.place_count ∙ sym (ap (λ (n : Network). n.nodes) c.requires.net);
  zone_count = c.requires.table.nodes.zone_count ∙ sym c.requires.zones;
}

pub fill_nodes-requires-clause-space : goal.fill_nodes-requires-clause-space
fill_nodes-requires-clause-space c = c.requires.space.nodes ∙ sym (nodes_named c.args.case.now) ∙ sym (ap (λ (n : Network). n.nodes) c.requires.net)

pub fill_elements-requires-clause-rows : goal.fill_elements-requires-clause-rows
fill_elements-requires-clause-rows c = record {
  place_count = c.requires.table.elements.place_count ∙ sym (ap (λ (n : Network). length n.list) c.requires.net);
  zone_count = c.requires.table.elements.zone_count ∙ sym c.requires.zones;
}

pub fill_elements-requires-clause-space : goal.fill_elements-requires-clause-space
fill_elements-requires-clause-space c = ap (λ (v : View). length v.elements) c.fill_nodes.ensures.rest ∙ c.requires.space.elements ∙ sym (ap (λ (n : Network). length n.list) c.requires.net)

pub fill_effective-requires : goal.fill_effective-requires
fill_effective-requires c = record {
  rows = record {
    place_count =
        c.requires.table.effective.place_count ∙ sym c.requires.space.transformers
        ∙ sym (ap (λ (v : View). length v.effective) c.fill_nodes.ensures.rest) ∙ sym (ap (λ (v : View). length v.effective) c.fill_elements.ensures.rest);
    zone_count = c.requires.table.effective.zone_count ∙ sym c.requires.zones;
  };
}

nodes_are : (c : goal.After-fill_effective) → c.fill_effective.new.out.nodes ≡ c.fill_nodes.new.out.nodes
nodes_are c = ap (λ (v : View). v.nodes) c.fill_effective.ensures.rest ∙ ap (λ (v : View). v.nodes) c.fill_elements.ensures.rest

elements_are : (c : goal.After-fill_effective) → c.fill_effective.new.out.elements ≡ c.fill_elements.new.out.elements
elements_are c = ap (λ (v : View). v.elements) c.fill_effective.ensures.rest

node_count : (c : goal.After-fill_effective) → length c.fill_nodes.new.out.nodes ≡ length (node_names c.args.case.now)
node_count c = c.fill_nodes.ensures.count ∙ c.requires.space.nodes

element_count : (c : goal.After-fill_effective) → length c.fill_elements.new.out.elements ≡ length (elements_of c.args.case.now).list
element_count c = c.fill_elements.ensures.count ∙ ap (λ (v : View). length v.elements) c.fill_nodes.ensures.rest ∙ c.requires.space.elements

lengths_are : (c : goal.After-fill_effective) → HasViewLengths c.args.case.now c.fill_effective.new.out
lengths_are c = record {
  nodes = ap length (nodes_are c) ∙ node_count c;
  elements = ap length (elements_are c) ∙ element_count c;
  transformers =
      c.fill_effective.ensures.count ∙ ap (λ (v : View). length v.effective) c.fill_elements.ensures.rest
      ∙ ap (λ (v : View). length v.effective) c.fill_nodes.ensures.rest ∙ c.requires.space.transformers;
}

pub returns-clause-view : goal.returns-clause-view
returns-clause-view c =
    let lengths = lengths_are c in
    record {
      lengths = lengths;
      nodes = λ k below. ap (λ xs. slice_index_or xs k None) (nodes_are c) ∙ c.fill_nodes.ensures.shown k (subst (λ (n : ℕ). k < n) (sym (node_count c)) below);
      elements = λ place below. ap (λ xs. slice_index_or xs place None) (elements_are c) ∙ c.fill_elements.ensures.shown place (subst (λ (n : ℕ). place < n) (sym (element_count c)) below);
      effective = λ t below. c.fill_effective.ensures.shown t (subst (λ (n : ℕ). t < n) (sym lengths.transformers) below);
    }
