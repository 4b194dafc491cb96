-- The text of a certificate that passes is accepted.
use Rattle.std.proofs.Common.{◌≡◌, ◌∙◌, ℕ, zero, suc, ◌+◌, ◌<◌, ◌≤◌, true, List, [], ◌∷◌, map, length, get_or, is_some, false, None, refl, ap, sym, subst, arith}
use Rattle.std.specs.List.{AllByRecursion, enumerate_from}
use Rattle.std.proofs.lemmas.List.{ext_get_or, get_or-map, length-map}
use Rattle.gic_base.specs.Name.{is_name}
use Rattle.gic_case.specs.Lists.{Lists, node_names}
use Rattle.gic_model.specs.Standing.{is_live}
use Rattle.gic_model.specs.Sums.{Placed}
use Rattle.gic_cert.specs.declared.limits.TheConstants.{MOST_WRITTEN_NODES}
use Rattle.gic_cert.specs.Passing.{HasNodes}
use Rattle.gic_cert.specs.Reading.{NamedNode, certificate_nodes, cert_of}
use Rattle.gic_cert.specs.Text.{cert_text}
use Rattle.gic_cert.specs.TextLaws.{ReadingGivesBack}
use Rattle.gic_cert.specs.Written.{Certificate}
use Rattle.gic_winding.proofs.Limits.{nodes_named}
use Rattle.gic_recheck.specs.Determines.{PassingTextIsAccepted}
use Rattle.gic_recheck.proofs.NodeNames.{IsName, node_names_sound, node_names_few}

-- the nodes from the one at this place on, by their names
abbrev named_from : List Placed → (place : ℕ) → List (List ℕ) → List NamedNode
named_from standing place names = map (λ p. (p.1, is_live standing p.0)) (enumerate_from place names)

names_back : (standing : List Placed) (place : ℕ) (names : List (List ℕ)) → map (λ (node : NamedNode). node.0) (named_from standing place names) ≡ names
names_back standing place [] = refl
names_back standing place (name ∷ names) = ap (λ l. name ∷ l) (names_back standing (place + 1) names)

as_many : (standing : List Placed) (place : ℕ) (names : List (List ℕ)) → length (named_from standing place names) ≡ length names
as_many standing place [] = refl
as_many standing place (name ∷ names) = ap (λ n. suc n) (as_many standing (place + 1) names)

are_names : (standing : List Placed) (place : ℕ) (names : List (List ℕ)) → AllByRecursion IsName names → AllByRecursion (λ (node : NamedNode). is_name node.0 ≡ true) (named_from standing place names)
are_names standing place [] h = tt
are_names standing place (name ∷ names) h = (h.0, are_names standing (place + 1) names h.1)

-- whether the node at a place is live
live_at : (standing : List Placed) (place : ℕ) (names : List (List ℕ)) (k : ℕ) → k < length names
    → get_or (map (λ (node : NamedNode). node.1) (named_from standing place names)) k false ≡ is_live standing (place + k)
live_at standing place [] k within = absurd (omega (arith, within))
live_at standing place (name ∷ names) zero within = ap (is_live standing) (let same : place ≡ place + 0 = omega arith in same)
live_at standing place (name ∷ names) (suc k) within =
    live_at standing (place + 1) names k (omega (arith, within)) ∙ ap (is_live standing) (let same : place + 1 + k ≡ place + suc k = omega arith in same)

-- numbers are written at exactly the live nodes
same_live : (case : Lists) (standing : List Placed) (c : Certificate) → HasNodes (length (node_names case)) standing c
    → map is_some c.nodes ≡ map (λ (node : NamedNode). node.1) (certificate_nodes case standing)
same_live case standing c placed =
    let names = node_names case in
    let lives = map (λ (node : NamedNode). node.1) (named_from standing 0 names) in
    let many : length (map is_some c.nodes) ≡ length names = length-map c.nodes is_some ∙ placed.count in
    ext_get_or false (map is_some c.nodes) lives
    (many ∙ sym (length-map (named_from standing 0 names) (λ (node : NamedNode). node.1) ∙ as_many standing 0 names))
    (λ k within.
    let inside : k < length names = omega (arith, within, many) in
    get_or-map is_some c.nodes k None false (omega (arith, inside, placed.count)) ∙ placed.live k inside
    ∙ sym (live_at standing 0 names k inside ∙ ap (is_live standing) (let same : 0 + k ≡ k = omega arith in same)))

pub passing_text_is_accepted : ReadingGivesBack → PassingTextIsAccepted
passing_text_is_accepted back case standing c sound written passes =
    let names = node_names case in
    let placed : HasNodes (length names) standing c = subst (λ n. HasNodes n standing c) (nodes_named case) passes.placed in
    let few : length (certificate_nodes case standing) ≤ MOST_WRITTEN_NODES = omega (arith, as_many standing 0 names, node_names_few case sound) in
    record {
      read = ap (λ n. cert_of (certificate_nodes case standing) (cert_text n c)) (sym (names_back standing 0 names))
          ∙ back (certificate_nodes case standing) c (are_names standing 0 names (node_names_sound case sound)) few written (same_live case standing c placed);
      passes = passes;
    }
