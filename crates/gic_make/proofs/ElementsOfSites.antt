-- The elements of a made case: an earthing, a line and a winding for each site, but for the line of the first.
use Rattle.std.proofs.Common.{◌≡◌, ℕ, zero, suc, ◌+◌, ◌-◌, ◌*◌, ◌<◌, ◌≤◌, List, [], ◌++◌, length, map, flat_map, get_or, refl, ap, ◌∙◌, arith, append-nil, length-append}
use Rattle.std.proofs.lemmas.List.FromFn.{length-map-range_with_len, get_or-map-range_with_len}
use Rattle.std.proofs.lemmas.Simd.{map-map}
use Rattle.std.specs.List.{range_with_len, enumerate_from}
use Rattle.gic_case.specs.declared.item.Bus.{Bus}
use Rattle.gic_case.specs.declared.item.Line.{Line}
use Rattle.gic_case.specs.declared.item.Transformer.{Transformer}
use Rattle.gic_case.specs.Windings.{windings_of}
use Rattle.gic_case.specs.Lists.{node_names, substation_at, with_device, neutrals_from, neutrals_of}
use Rattle.gic_model.specs.declared.parts.Element.{Element}
use Rattle.gic_model.specs.declared.parts.Role.TheVariants.{High}
use Rattle.gic_winding.specs.ElementList.{earthing, line, winding, winding_elements, line_of, earthings_of, lines_of, all_windings_of, resistors_of, element_list, elements_of}
use Rattle.gic_winding.proofs.Limits.{length-node_names}
use Rattle.gic_winding.proofs.Parts.{earthing_part, resistor_part}
use Rattle.gic_make.specs.Generator.{states_after, draw}
use Rattle.gic_make.specs.MadeCase.{first_draw, made_substation, made_bus, made_transformer, made_line, drawn_case, made_case}
use Rattle.gic_make.specs.Accepted.{MadeCasesHaveTheirSize}
use Rattle.gic_make.proofs.Sites.{AtEach, one_a_site, none_a_site}

-- the earthing of a site
abbrev pub earthing_at : (states : List ℕ) → (site : ℕ) → Element
earthing_at states site = earthing site (100000 + 1000 * draw states (first_draw site) 900)

-- the line of the site behind this one
abbrev pub line_at : (states : List ℕ) → (size site : ℕ) → Element
line_at states size site = line site (size + (made_line states (site + 1)).from) (size + (site + 1)) (made_line states (site + 1)).resistance

-- the winding of a site
abbrev pub winding_at : (states : List ℕ) → (size site : ℕ) → Element
winding_at states size site = winding site High (size + site) site (100000 + 1000 * draw states (first_draw site + 1) 400)

-- all of them, in the order of the element list
abbrev pub drawn_elements : (states : List ℕ) → (size : ℕ) → List Element
drawn_elements states size =
    map (earthing_at states) (range_with_len 0 size)
    ++ (map (line_at states size) (range_with_len 0 (size - 1)) ++ map (winding_at states size) (range_with_len 0 size))

earthings_are : (states : List ℕ) (size : ℕ) → earthings_of (drawn_case states size) ≡ map (earthing_at states) (range_with_len 0 size)
earthings_are states size = one_a_site earthing_part (made_substation states) (earthing_at states) 0 0 0 size refl (λ i low high. let same : i + 0 ≡ i = omega arith in rw same refl)

lines_are : (states : List ℕ) (size : ℕ) → lines_of (drawn_case states size) ≡ map (line_at states size) (range_with_len 0 (size - 1))
lines_are states size =
    ap (λ n. flat_map (λ p. line_of n p.0 p.1) (enumerate_from 0 (map (made_line states) (range_with_len 1 (size - 1))))) (length-map-range_with_len (made_substation states) 0 size)
    ∙ one_a_site (λ (p : ℕ × Line). line_of size p.0 p.1) (made_line states) (line_at states size) 1 0 1 (size - 1) refl (λ i low high. refl)

-- each bus is in the substation of its site
bus_of_site : (size i : ℕ) → i < size → substation_at (map made_bus (range_with_len 0 size)) i ≡ i
bus_of_site size i within =
    ap (λ l. get_or l i 0) (map-map (λ (b : Bus). b.substation) made_bus (range_with_len 0 size)) ∙ get_or-map-range_with_len (λ j. j) 0 size i i 0 within (omega arith)

-- a transformer beside its neutral, the substation of its site
abbrev beside : (states : List ℕ) → (site : ℕ) → ℕ × Transformer
beside states site = (site, made_transformer states site)

neutrals_are_from : (states : List ℕ) (buses : List Bus) (own from sites : ℕ) → AtEach (λ i. substation_at buses i ≡ i) from sites
    → neutrals_from buses own (map (made_transformer states) (range_with_len from sites)) ≡ map (beside states) (range_with_len from sites)
neutrals_are_from states buses own from zero each = refl
neutrals_are_from states buses own from (suc sites) each =
    let first : substation_at buses from ≡ from = each from (omega arith) (omega arith) in
    let rest = neutrals_are_from states buses own (from + 1) sites (λ i low high. each i (omega arith) (omega arith)) in
    rw (first, rest) refl

neutrals_are : (states : List ℕ) (size : ℕ) → neutrals_of (drawn_case states size) ≡ map (beside states) (range_with_len 0 size)
neutrals_are states size = neutrals_are_from states (map made_bus (range_with_len 0 size)) _ 0 size (λ i low high. bus_of_site size i (omega arith))

windings_are : (states : List ℕ) (size : ℕ) → all_windings_of (drawn_case states size) ≡ map (winding_at states size) (range_with_len 0 size)
windings_are states size =
    ap (λ n. flat_map (λ p. winding_elements n p.0 p.1.0 (windings_of p.1.1)) (enumerate_from 0 (neutrals_of (drawn_case states size)))) (length-map-range_with_len (made_substation states) 0 size)
    ∙ ap (λ l. flat_map (λ p. winding_elements size p.0 p.1.0 (windings_of p.1.1)) (enumerate_from 0 l)) (neutrals_are states size)
    ∙ one_a_site (λ (p : ℕ × (ℕ × Transformer)). winding_elements size p.0 p.1.0 (windings_of p.1.1)) (beside states) (winding_at states size) 0 0 0 size refl (λ i low high. let same : i + 0 ≡ i = omega arith in rw same refl)

resistors_are : (states : List ℕ) (size : ℕ) → resistors_of (drawn_case states size) ≡ []
resistors_are states size =
    ap (λ l. flat_map (resistor_part (drawn_case states size)) (enumerate_from 0 l)) (neutrals_are states size)
    ∙ none_a_site (resistor_part (drawn_case states size)) (beside states) (λ i j. refl) 0 0 size

pub elements_are : (states : List ℕ) (size : ℕ) → element_list (drawn_case states size) ≡ drawn_elements states size
elements_are states size =
    let last : all_windings_of (drawn_case states size) ++ resistors_of (drawn_case states size) ≡ map (winding_at states size) (range_with_len 0 size) =
    ap (λ l. all_windings_of (drawn_case states size) ++ l) (resistors_are states size) ∙ append-nil _ ∙ windings_are states size in
    ap (λ l. l ++ (lines_of (drawn_case states size) ++ (all_windings_of (drawn_case states size) ++ resistors_of (drawn_case states size)))) (earthings_are states size)
    ∙ ap (λ l. map (earthing_at states) (range_with_len 0 size) ++ (l ++ (all_windings_of (drawn_case states size) ++ resistors_of (drawn_case states size)))) (lines_are states size)
    ∙ ap (λ l. map (earthing_at states) (range_with_len 0 size) ++ (map (line_at states size) (range_with_len 0 (size - 1)) ++ l)) last

no_devices : (states : List ℕ) (from sites : ℕ) → with_device (map (made_transformer states) (range_with_len from sites)) ≡ []
no_devices states from zero = refl
no_devices states from (suc sites) = no_devices states (from + 1) sites

-- a substation and a bus for each site
pub nodes_are : (states : List ℕ) (size : ℕ) → length (node_names (drawn_case states size)) ≡ 2 * size
nodes_are states size =
    let none = ap length (no_devices states 0 size) in
    omega (arith, length-node_names (drawn_case states size), length-map-range_with_len (made_substation states) 0 size, length-map-range_with_len made_bus 0 size, none)

-- three elements a site, but for the line of the first
pub many_elements : (states : List ℕ) (size : ℕ) → 1 ≤ size → length (element_list (drawn_case states size)) ≡ 3 * size - 1
many_elements states size some =
    let earthings = length-map-range_with_len (earthing_at states) 0 size in
    let lines = length-map-range_with_len (line_at states size) 0 (size - 1) in
    let windings = length-map-range_with_len (winding_at states size) 0 size in
    ap length (elements_are states size) ∙ simp length-append (omega (arith, earthings, lines, windings))

pub made_sizes : MadeCasesHaveTheirSize
unfolding made_case elements_of
made_sizes seed size small least most =
    let states = states_after seed (first_draw size) in
    record { nodes = nodes_are states size; elements = many_elements states size (omega arith) }
