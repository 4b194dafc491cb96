-- The nodes of a certificate that was read.
use Rattle.std.proofs.Common.{◌≡◌, ℕ, zero, suc, ◌+◌, ◌<◌, false, List, [], ◌∷◌, ◌++◌, length, map, slice_index_or, None, arith, refl, ap, sym, subst, ◌∙◌}
use Rattle.std.specs.List.{enumerate_from}
use Rattle.std.specs.Option.{is_some}
use Rattle.std.proofs.lemmas.List.{get_or-map, length-map}
use Rattle.gic_case.specs.Lists.{Lists, node_names}
use Rattle.gic_model.specs.Standing.{is_live}
use Rattle.gic_model.specs.Sums.{Placed}
use Rattle.gic_cert.specs.declared.rows.NodeName.{NodeName}
use Rattle.gic_cert.specs.Written.{Certificate}
use Rattle.gic_cert.specs.Passing.{HasNodes}
use Rattle.gic_cert.specs.Reading.{NamedNode, certificate_nodes}
use Rattle.gic_cert.specs.Rows.{named_nodes}
use Rattle.gic_cert.proofs.ReadLaws.{lives_named}

pub has_nodes : (nodes : List NamedNode) (standing : List Placed) (c : Certificate) →
    ((k : ℕ) → k < length nodes → slice_index_or (map (λ node. node.1) nodes) k false ≡ is_live standing k) →
    map is_some c.nodes ≡ map (λ node. node.1) nodes → HasNodes (length nodes) standing c
has_nodes nodes standing c live same =
    let count : length c.nodes ≡ length nodes = sym (length-map c.nodes is_some) ∙ ap length same ∙ length-map nodes (λ (node : NamedNode). node.1) in
    record {
      count = count;
      live = λ k inside. sym (get_or-map is_some c.nodes k None false (omega (arith, inside, count))) ∙ ap (λ list. slice_index_or list k false) same ∙ live k inside;
    }

-- the nodes with these names, of which the first has this place
abbrev pub nodes_from : List Placed → ℕ → List (List ℕ) → List NamedNode
nodes_from standing n names = map (λ p. (p.1, is_live standing p.0)) (enumerate_from n names)

count_from : (standing : List Placed) (n : ℕ) (names : List (List ℕ)) → length (nodes_from standing n names) ≡ length names
count_from standing n [] = refl
count_from standing n (name ∷ names) = ap suc (count_from standing (n + 1) names)

live_from : (standing : List Placed) (n : ℕ) (names : List (List ℕ)) (k : ℕ) → k < length names → slice_index_or (map (λ node. node.1) (nodes_from standing n names)) k false ≡ is_live standing (n + k)
live_from standing n [] k h = absurd (omega (arith, h))
live_from standing n (name ∷ names) zero h = let e : n ≡ n + 0 = omega arith in ap (is_live standing) e
live_from standing n (name ∷ names) (suc k) h =
    let e : n + 1 + k ≡ n + suc k = omega arith in
    live_from standing (n + 1) names k (omega (arith, h)) ∙ ap (is_live standing) e

-- one more node, whose name is the first of those that are left
pub next_named : (standing : List Placed) (nodes : List NodeName) (names others : List (List ℕ)) (name : List ℕ) (n : ℕ) → names ≡ name ∷ others →
    (named_nodes (nodes ++ record { name = name; live = is_live standing n } ∷ []) ++ nodes_from standing (n + 1) others) ≡ (named_nodes nodes ++ nodes_from standing n names)
next_named standing [] names others name n more = ap (nodes_from standing n) (sym more)
next_named standing (node ∷ nodes) names others name n more = ap (λ ns. (node.name, node.live) ∷ ns) (next_named standing nodes names others name n more)

-- a certificate that was read over the nodes of a case has them
pub read_nodes : (case : Lists) (standing : List Placed) (nodes : List NodeName) (c : Certificate) → named_nodes nodes ≡ certificate_nodes case standing →
    map is_some c.nodes ≡ map (λ node. node.live) nodes → HasNodes (length (node_names case)) standing c
read_nodes case standing nodes c are same =
    let names = node_names case in
    let flags : map is_some c.nodes ≡ map (λ node. node.1) (certificate_nodes case standing) = same ∙ sym (lives_named nodes) ∙ ap (λ (ns : List NamedNode). map (λ node. node.1) ns) are in
    subst (λ n. HasNodes n standing c) (count_from standing 0 names)
    (has_nodes (certificate_nodes case standing) standing c
    (λ k inside. let e : 0 + k ≡ k = omega arith in live_from standing 0 names k (omega (arith, inside, count_from standing 0 names)) ∙ ap (is_live standing) e) flags)
