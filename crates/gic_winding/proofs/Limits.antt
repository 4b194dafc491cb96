-- The elements of a case are within the limits, and it has a node for each name.
use Rattle.std.proofs.Common.{◌≡◌, ◌*◌, count_by, ℕ, ◌+◌, ◌≤◌, true, Option, Some, None, List, [], ◌∷◌, ◌++◌, length, map, is_some, refl, ap, ◌∙◌, arith, inl, inr, flat_map, append_assoc, length-append}
use Rattle.std.proofs.lemmas.Bool.{cases_Bool}
use Rattle.std.proofs.lemmas.List.{length-map}
use Rattle.std.proofs.lemmas.List.Elements.{recursion_from_All}
use Rattle.std.proofs.lemmas.List.Sums.{length-filter, count_by-le-length}
use Rattle.std.specs.List.{AllByRecursion, enumerate_from}
use Rattle.gic_base.specs.declared.limits.TheConstants.{MOST_ELEMENTS}
use Rattle.gic_base.proofs.Each.{all_joined}
use Rattle.gic_case.specs.declared.item.Line.{Line}
use Rattle.gic_case.specs.declared.item.Neutral.{Neutral}
use Rattle.gic_case.specs.declared.item.Neutral.TheVariants as devices
use Rattle.gic_case.specs.declared.item.Transformer.{Transformer}
use Rattle.gic_case.specs.Lists.{Lists, with_device, node_names, element_ends, degree_of, grid_of, neutrals_of}
use Rattle.gic_case.specs.Windings.{windings_of, has_windings}
use Rattle.gic_case.specs.Sound.{IsSound, IsSoundSubstation, IsSoundLine, IsSoundWinding, IsSoundTransformer}
use Rattle.gic_model.specs.declared.parts.Element.{Element}
use Rattle.gic_model.specs.Network.{ends_at}
use Rattle.gic_model.specs.Limits.{IsElementWithin, IsWithinLimits}
use Rattle.gic_winding.specs.ElementList.{earthing_of, line_of, winding_element, winding_elements, resistor_of, earthings_of, lines_of, all_windings_of, resistors_of, element_list, elements_of}
use Rattle.gic_winding.proofs.Parts.{earthing_part, line_part, winding_part, resistor_part}
use Rattle.gic_winding.proofs.Grids.{IsNeutral, neutrals_within, grid_within}
use Rattle.gic_case.proofs.NeutralNodes.{length-neutrals_of}
use Rattle.gic_case.proofs.SoundWindings.{few_windings}
use Rattle.gic_winding.proofs.Counts.{HasTwoEnds, as_many_at_a_node}
use Rattle.gic_winding.proofs.Within.{IsPlaced, all_placed, all_of_parts, earthing_within, line_within, windings_within, resistor_within}

-- there is a node for each name
pub nodes_named : (c : Lists) → (elements_of c).nodes ≡ length (node_names c)
unfolding elements_of
nodes_named c = refl

-- the number of nodes
pub length-node_names : (c : Lists) → length (node_names c) ≡ length c.substations + length c.buses + length (with_device c.transformers)
length-node_names c =
    let parts = length-append (map (λ s. s.name) c.substations) (map (λ b. b.name) c.buses ++ map (λ t. t.name) (with_device c.transformers)) in
    let later = length-append (map (λ b. b.name) c.buses) (map (λ t. t.name) (with_device c.transformers)) in
    omega (arith, parts, later, length-map c.substations (λ s. s.name), length-map c.buses (λ b. b.name), length-map (with_device c.transformers) (λ t. t.name))

few_devices : (ts : List Transformer) → length (with_device ts) ≤ length ts
few_devices ts = omega (arith, length-filter (λ (t : Transformer). is_some t.neutral) ts, count_by-le-length (λ (t : Transformer). is_some t.neutral) ts)

-- at most a given number of elements a part
length_of_parts : {X : Type 0} (most : ℕ) (part : ℕ × X → List Element) → ((i : ℕ) (x : X) → length (part (i, x)) ≤ most) → (i : ℕ) (xs : List X) → length (flat_map part (enumerate_from i xs)) ≤ most * length xs
length_of_parts most part each i [] = omega arith
length_of_parts most part each i (x ∷ xs) =
    let here = each i x in
    let later = length_of_parts most part each (i + 1) xs in
    simp length-append (omega arith)

earthing_single : (i : ℕ) (ohm : Option ℕ) → length (earthing_of i ohm) ≤ 1
earthing_single i None = omega arith
earthing_single i (Some ohm) = omega arith

line_single : (first_bus i : ℕ) (l : Line) → length (line_of first_bus i l) ≤ 1
line_single first_bus i l =
    elim (cases_Bool l.blocked) [
      | inl blocked ↦ rw blocked (omega arith)
      | inr runs ↦ rw runs (omega arith)
    ]

windings_triple : (first_bus i neutral : ℕ) (t : Transformer) → length (winding_elements first_bus i neutral (windings_of t)) ≤ 3
windings_triple first_bus i neutral t = omega (arith, length-map (windings_of t) (winding_element first_bus i neutral), few_windings t.high_volts t.kind)

resistor_single : (i neutral grid : ℕ) (device : Option Neutral) → length (resistor_of i neutral grid device) ≤ 1
resistor_single i neutral grid None = omega arith
resistor_single i neutral grid (Some (devices.Resistor ohm)) = omega arith
resistor_single i neutral grid (Some devices.Blocked) = omega arith

pub few_elements : (c : Lists) → IsSound c → length (element_list c) ≤ MOST_ELEMENTS
few_elements c sound =
    let first_bus = length c.substations in
    let earthings = length_of_parts 1 earthing_part (λ i s. earthing_single i s.ground) 0 c.substations in
    let lines = length_of_parts 1 (line_part c) (λ i l. line_single first_bus i l) 0 c.lines in
    let windings = length_of_parts 3 (winding_part c) (λ i p. windings_triple first_bus i p.0 p.1) 0 (neutrals_of c) in
    let resistors = length_of_parts 1 (resistor_part c) (λ i p. resistor_single i p.0 (grid_of c.buses p.1) p.1.neutral) 0 (neutrals_of c) in
    simp length-append (omega (arith, length-neutrals_of c, sound.few_substations, sound.few_lines, sound.few_transformers))

-- a transformer with a device in its neutral has windings
has_windings_with_device : (c : Lists) (t : Transformer) → IsSoundTransformer c t → is_some t.neutral ≡ true → has_windings t ≡ true
has_windings_with_device c t h device =
    elim (cases_Bool (has_windings t)) [
      | inl has ↦ has
      | inr none ↦ absurd (cc (h.no_device none, device))
    ]

pub each_element : (c : Lists) → IsSound c → AllByRecursion (IsElementWithin (length (node_names c))) (element_list c)
each_element c sound =
    let nodes = length (node_names c) in
    let count = length-node_names c in
    let within = IsElementWithin nodes in
    let first_bus = length c.substations in
    let neutrals : AllByRecursion (IsPlaced (length (neutrals_of c)) (IsNeutral c nodes)) (enumerate_from 0 (neutrals_of c)) =
    all_placed (length (neutrals_of c)) (IsNeutral c nodes) 0 (neutrals_of c) (omega arith)
    (neutrals_within c sound nodes (first_bus + length c.buses) c.transformers (omega arith) (omega arith) (omega arith) (recursion_from_All (IsSoundTransformer c) c.transformers sound.transformers_sound)) in
    let earthings = all_of_parts (IsPlaced first_bus IsSoundSubstation) within earthing_part (λ p h. earthing_within nodes p.0 p.1.ground (omega (arith, h.below)) h.fact.ohm) (enumerate_from 0 c.substations)
    (all_placed first_bus IsSoundSubstation 0 c.substations (omega arith) (recursion_from_All IsSoundSubstation c.substations sound.substations_sound)) in
    let lines = all_of_parts (IsPlaced (length c.lines) (IsSoundLine c)) within (line_part c) (λ p h. line_within c nodes p.0 p.1 (omega arith) h.fact) (enumerate_from 0 c.lines)
    (all_placed (length c.lines) (IsSoundLine c) 0 c.lines (omega arith) (recursion_from_All (IsSoundLine c) c.lines sound.lines_sound)) in
    let windings = all_of_parts (IsPlaced (length (neutrals_of c)) (IsNeutral c nodes)) within (winding_part c)
    (λ p h. windings_within c nodes p.0 p.1.0 p.1.1.high_volts (windings_of p.1.1) (omega arith) (recursion_from_All (IsSoundWinding c p.1.1.high_volts) (windings_of p.1.1) h.fact.sound.windings_sound) h.fact.inside h.fact.no_bus) (enumerate_from 0 (neutrals_of c)) neutrals in
    let resistors = all_of_parts (IsPlaced (length (neutrals_of c)) (IsNeutral c nodes)) within (resistor_part c)
    (λ p h.
    resistor_within nodes p.0 p.1.0 (grid_of c.buses p.1.1) p.1.1.neutral
    (λ device. omega (arith, h.fact.own device, grid_within c sound p.1.1 h.fact.sound (has_windings_with_device c p.1.1 h.fact.sound device)))
    (λ device. h.fact.inside (has_windings_with_device c p.1.1 h.fact.sound device)) h.fact.sound.device_sound) (enumerate_from 0 (neutrals_of c)) neutrals in
    all_joined within _ _ earthings (all_joined within _ _ lines (all_joined within _ _ windings resistors))

two_ends : (nodes : ℕ) (es : List Element) → AllByRecursion (IsElementWithin nodes) es → AllByRecursion HasTwoEnds es
two_ends nodes [] all = tt
two_ends nodes (e ∷ es) all = (all.0.ends_differ, two_ends nodes es all.1)

-- as many elements end at a node of a sound case as the rule of degrees counts there
pub degrees_count : (c : Lists) (k : ℕ) → IsSound c → count_by (λ e. ends_at e k) (elements_of c).list ≡ degree_of (element_ends c) k
unfolding elements_of
degrees_count c k sound = as_many_at_a_node c k (two_ends (length (node_names c)) (element_list c) (each_element c sound))

pub within_limits : (c : Lists) → IsSound c → IsWithinLimits (elements_of c)
unfolding elements_of
within_limits c sound = record {
  few_nodes = omega (arith, length-node_names c, few_devices c.transformers, sound.few_substations, sound.few_buses, sound.few_transformers);
  few_elements = few_elements c sound;
  each_element = each_element c sound;
  few_at_a_node = λ k below. omega (arith, degrees_count c k sound, sound.few_ends k below);
}

-- the four groups, pushed one after the other
pub gathered : (c : Lists) (nodes : ℕ) (l0 l1 l2 l3 l4 : List Element) → nodes ≡ length (node_names c) → l0 ≡ [] → l1 ≡ l0 ++ earthings_of c → l2 ≡ l1 ++ lines_of c
    → l3 ≡ l2 ++ all_windings_of c → l4 ≡ l3 ++ resistors_of c → record { nodes = nodes; list = l4 } ≡ elements_of c
unfolding elements_of
gathered c nodes l0 l1 l2 l3 l4 count empty first second third fourth =
    let inner : l2 ≡ earthings_of c ++ lines_of c = cc in
    let whole : l4 ≡ element_list c =
    fourth ∙ ap (λ l. l ++ resistors_of c) (third ∙ ap (λ l. l ++ all_windings_of c) inner) ∙ append_assoc (earthings_of c ++ lines_of c) (all_windings_of c) (resistors_of c)
    ∙ append_assoc (earthings_of c) (lines_of c) (all_windings_of c ++ resistors_of c) in
    cc
