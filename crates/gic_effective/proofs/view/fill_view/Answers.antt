use Rattle.std.proofs.Common.{◌≡◌, ℕ, ◌+◌, ◌<◌, ◌≤◌, Option, None, Some, length, slice_index_or, arith, ap, sym, subst, ◌∙◌}
use Rattle.gic_case.specs.Lists.{node_names}
use Rattle.gic_fixed.specs.Ends.{Ends}
use Rattle.gic_fixed.proofs.Widths.{wider}
use Rattle.gic_model.specs.Network.{Network}
use Rattle.gic_model.specs.Voltages.{number_at}
use Rattle.gic_net.specs.Net.{standing}
use Rattle.gic_view.specs.View.{View, effective_at}
use Rattle.gic_winding.specs.ElementList.{elements_of}
use Rattle.gic_effective.specs.Narrow.{IsNoWider}
use Rattle.gic_effective.specs.RightView.{IsRightNode, IsRightElement}
use Rattle.gic_effective.specs.ViewLengths.{HasViewLengths}
use Rattle.gic_winding.proofs.Limits.{nodes_named}
use Rattle.gic_effective.proofs.view.fill_view.Goals as goal

pub fill_nodes-requires-clause-space : goal.fill_nodes-requires-clause-space
fill_nodes-requires-clause-space c = c.requires.space.nodes ∙ sym (nodes_named c.args.case.now) ∙ sym (ap (λ (n : Network). n.nodes) c.requires.net)

pub fill_elements-requires-clause-space : goal.fill_elements-requires-clause-space
fill_elements-requires-clause-space c = ap (λ (v : View). length v.elements) c.fill_nodes.ensures.rest ∙ c.requires.space.elements ∙ sym (ap (λ (n : Network). length n.list) c.requires.net)

nodes_are : (c : goal.After-fill_effective) → c.fill_effective.new.out.nodes ≡ c.fill_nodes.new.out.nodes
nodes_are c = ap (λ (v : View). v.nodes) c.fill_effective.ensures.rest ∙ ap (λ (v : View). v.nodes) c.fill_elements.ensures.rest

elements_are : (c : goal.After-fill_effective) → c.fill_effective.new.out.elements ≡ c.fill_elements.new.out.elements
elements_are c = ap (λ (v : View). v.elements) c.fill_effective.ensures.rest

node_count : (c : goal.After-fill_effective) → length c.fill_nodes.new.out.nodes ≡ length (node_names c.args.case.now)
node_count c = c.fill_nodes.ensures.count ∙ c.requires.space.nodes

element_count : (c : goal.After-fill_effective) → length c.fill_elements.new.out.elements ≡ length (elements_of c.args.case.now).list
element_count c = c.fill_elements.ensures.count ∙ ap (λ (v : View). length v.elements) c.fill_nodes.ensures.rest ∙ c.requires.space.elements

lengths_are : (c : goal.After-fill_effective) → HasViewLengths c.args.case.now c.fill_effective.new.out
lengths_are c = record {
  nodes = ap length (nodes_are c) ∙ node_count c;
  elements = ap length (elements_are c) ∙ element_count c;
  transformers =
      c.fill_effective.ensures.count ∙ ap (λ (v : View). length v.effective) c.fill_elements.ensures.rest
      ∙ ap (λ (v : View). length v.effective) c.fill_nodes.ensures.rest ∙ c.requires.space.transformers;
}

pub returns-clause-lengths : goal.returns-clause-lengths
returns-clause-lengths c = lengths_are c

pub returns-clause-right : goal.returns-clause-right
returns-clause-right c holds =
    let stand = standing c.args.net.now in
    let volts = number_at c.args.volts.now in
    let lengths = lengths_are c in
    record {
      lengths = lengths;
      nodes = λ k below.
          subst (λ xs. IsRightNode stand volts k (slice_index_or xs k None)) (sym (nodes_are c))
          ((c.fill_nodes.ensures.shown volts k (subst (λ (n : ℕ). k < n) (sym (node_count c)) below)).right holds);
      elements = λ k below.
          subst (λ xs. IsRightElement stand volts k (slice_index_or xs k None)) (sym (elements_are c))
          ((c.fill_elements.ensures.shown k (subst (λ (n : ℕ). k < n) (sym (element_count c)) below)).right holds);
      effective = λ t below. (c.fill_effective.ensures.shown t (subst (λ (n : ℕ). t < n) (sym lengths.transformers) below)).right holds;
    }

no_wider : (width more : ℕ) → width ≤ more → (interval : Option Ends) → IsNoWider width interval → IsNoWider more interval
no_wider width more h None narrow = tt
no_wider width more h (Some ends) narrow = wider ends.low ends.high width more h narrow

pub returns-clause-narrow : goal.returns-clause-narrow
returns-clause-narrow c width more finer sharp =
    let volts = number_at c.args.volts.now in
    let lengths = lengths_are c in
    let most : width ≤ more = omega (arith, finer) in
    let next : width + 1 ≤ more = omega (arith, finer) in
    record {
      lengths = lengths;
      nodes = λ k below.
          subst (λ xs. IsNoWider more (slice_index_or xs k None)) (sym (nodes_are c)) (no_wider width more most _
          ((c.fill_nodes.ensures.shown volts k (subst (λ (n : ℕ). k < n) (sym (node_count c)) below)).narrow width sharp));
      elements = λ k below.
          subst (λ xs. IsNoWider more (slice_index_or xs k None)) (sym (elements_are c)) (no_wider width more most _
          ((c.fill_elements.ensures.shown k (subst (λ (n : ℕ). k < n) (sym (element_count c)) below)).narrow width sharp));
      effective = λ t below. no_wider (width + 1) more next (Some (effective_at c.fill_effective.new.out t)) ((c.fill_effective.ensures.shown t (subst (λ (n : ℕ). t < n) (sym lengths.transformers) below)).narrow width sharp);
    }

pub returns-clause-small : goal.returns-clause-small
returns-clause-small c t below = (c.fill_effective.ensures.shown t below).small
