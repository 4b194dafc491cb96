use Rattle.std.proofs.Common.{rules, arith, ◌≡◌, ◌+◌, ◌∷◌, ◌++◌, ◌∙◌, ap, length, List, []}
use Rattle.gic_case.specs.NodeNames.{names_left}
use Rattle.gic_model.specs.Network.{Network}
use Rattle.gic_net.specs.Net.{standing}
use Rattle.gic_winding.specs.ElementList.{elements_of}
use Rattle.gic_cert.specs.declared.rows.NodeName.{NodeName}
use Rattle.gic_cert.specs.Rows.{named_nodes}
use Rattle.gic_cert.proofs.Placed.{next_named, nodes_from}
use Rattle.gic_cert.proofs.reader.nodes_of.Goals as goal

pub live-live-requires : goal.live-live-requires
unfolding elements_of
live-live-requires c =
    let more : names_left c.loop-name.name-iterator ≡ c.in-Some.name ∷ names_left c.next.new.self = search rules in
    let left = ap length more in
    let count = ap (λ (n : Network). n.nodes) c.requires in
    omega (arith, left, count, c.loop-name.invariant.left)

pub overflow_add-node : goal.overflow_add-node
unfolding elements_of
overflow_add-node c =
    let more : names_left c.loop-name.name-iterator ≡ c.in-Some.name ∷ names_left c.next.new.self = search rules in
    let left = ap length more in
    let count = ap (λ (n : Network). n.nodes) c.requires in
    omega (arith, left, count, c.loop-name.invariant.left, c.within_limits.ensures.few_nodes)

pub returns-clause-count : goal.returns-clause-count
unfolding elements_of
returns-clause-count c =
    let none : names_left c.loop-name.name-iterator ≡ [] = search rules in
    let left = ap length none in
    let count = ap (λ (n : Network). n.nodes) c.requires in
    omega (arith, left, count, c.loop-name.invariant.left, c.loop-name.invariant.count)

pub loop-name-preserved : goal.loop-name-preserved
loop-name-preserved c =
    let more : names_left c.loop-name.name-iterator ≡ c.in-Some.name ∷ names_left c.next.new.self = search rules in
    let left = ap length more in
    let s = standing c.args.net.now in
    let node = c.loop-name.node in
    let pushed = ap length c.in_ok-push.ensures.items in
    record {
      count = grind (arith, pushed, c.loop-name.invariant.count);
      left = omega (arith, left, c.loop-name.invariant.left);
      nodes =
          ap (λ (ns : List NodeName). named_nodes ns ++ nodes_from s (node + 1) (names_left c.next.new.self)) c.in_ok-push.ensures.items ∙
          ap (λ b. named_nodes (c.loop-name.nodes.items ++ record { name = c.in-Some.name; live = b } ∷ []) ++ nodes_from s (node + 1) (names_left c.next.new.self)) c.live-live.ensures ∙
          next_named s c.loop-name.nodes.items (names_left c.loop-name.name-iterator) (names_left c.next.new.self) c.in-Some.name node more ∙
          c.loop-name.invariant.nodes;
    }
