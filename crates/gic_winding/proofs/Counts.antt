-- How many elements end at a node.
use Rattle.std.proofs.Common.{◌≡◌, ℕ, ◌+◌, Bool, true, false, cond, ◌||◌, Option, Some, None, List, [], ◌∷◌, ◌++◌, length, is_some, arith, inl, inr, flat_map, count_by}
use Rattle.std.proofs.lemmas.Bool.{cases_Bool}
use Rattle.std.proofs.lemmas.Bool.Decides.{nat_tests}
use Rattle.std.proofs.lemmas.List.Sums.{sum_by-append}
use Rattle.std.specs.List.{AllByRecursion, enumerate_from}
use Rattle.std.specs.Prelude.{◌==◌, if◌then◌else◌}
use Rattle.gic_base.proofs.Each.{both_parts}
use Rattle.gic_case.specs.declared.item.Substation.{Substation}
use Rattle.gic_case.specs.declared.item.Line.{Line}
use Rattle.gic_case.specs.declared.item.Transformer.{Transformer}
use Rattle.gic_case.specs.declared.winding.Winding.{Winding}
use Rattle.gic_case.specs.declared.item.Neutral.{Neutral}
use Rattle.gic_case.specs.declared.item.Neutral.TheVariants as devices
use Rattle.gic_case.specs.Lists.{Lists, degree_of, earthing_ends, line_ends, end_node, winding_ends, device_ends, element_ends, grid_of, neutrals_of}
use Rattle.gic_case.specs.Windings.{windings_of}
use Rattle.gic_case.proofs.Earthings.{earthing_ends_from}
use Rattle.gic_model.specs.declared.parts.Element.{Element}
use Rattle.gic_model.specs.Network.{is_node, ends_at}
use Rattle.gic_winding.specs.ElementList.{earthing_of, line_of, winding_element, winding_elements, resistor_of, earthings_of, lines_of, all_windings_of, resistors_of, element_list}
use Rattle.gic_winding.proofs.Parts.{earthing_part, line_part, winding_part, resistor_part}

-- the two ends of an element differ
abbrev pub HasTwoEnds : Element → Type 0
HasTwoEnds e = is_node e.to e.from.0 ≡ false

-- as many of the elements end at the node as its place is among the ends, where the two ends of each differ
abbrev pub AreAsManyAt : ℕ → List Element → List ℕ → Type 0
AreAsManyAt k elements ends = AllByRecursion HasTwoEnds elements → count_by (λ e. ends_at e k) elements ≡ degree_of ends k

many_joined : (k : ℕ) (es fs : List Element) (xs ys : List ℕ) → AreAsManyAt k es xs → AreAsManyAt k fs ys → AreAsManyAt k (es ++ fs) (xs ++ ys)
many_joined k es fs xs ys first second two =
    let parts = both_parts HasTwoEnds es fs two in
    let one = first parts.0 in
    let other = second parts.1 in
    simp sum_by-append (omega (arith, one, other))

-- part by part
many_of_parts : {X : Type 0} (k : ℕ) (part : ℕ × X → List Element) (ends : X → List ℕ) → ((i : ℕ) (x : X) → AreAsManyAt k (part (i, x)) (ends x))
    → (i : ℕ) (xs : List X) → AreAsManyAt k (flat_map part (enumerate_from i xs)) (flat_map ends xs)
many_of_parts k part ends each i [] two = omega arith
many_of_parts k part ends each i (x ∷ xs) two =
    many_joined k (part (i, x)) (flat_map part (enumerate_from (i + 1) xs)) (ends x) (flat_map ends xs) (each i x) (many_of_parts k part ends each (i + 1) xs) two

-- one of two places that differ
both_count : (p q k : ℕ) → (q == p) ≡ false → cond ((p == k) || (q == k)) 1 0 ≡ degree_of (p ∷ q ∷ []) k
both_count p q k apart =
    elim (cases_Bool (p == k)) [
      | inl at ↦ let off : (q == k) ≡ false = grind (arith, nat_tests, at, apart) in rw (at, off) (omega arith)
      | inr off ↦ rw off (omega arith)
    ]

or_earth : (b : Bool) → ◌≡◌ {A = ℕ} (cond (b || false) 1 0) (cond b 1 0)
or_earth true = omega arith
or_earth false = omega arith

earthing_many : (k place : ℕ) (ohm : Option ℕ) → AreAsManyAt k (earthing_of place ohm) (if is_some ohm then place ∷ [] else [])
earthing_many k place None two = omega arith
earthing_many k place (Some ohm) two = omega (arith, or_earth (place == k))

earthings_many : (k i : ℕ) (ss : List Substation) → AreAsManyAt k (flat_map earthing_part (enumerate_from i ss)) (earthing_ends_from i ss)
earthings_many k i [] two = omega arith
earthings_many k i (s ∷ ss) two =
    many_joined k (earthing_of i s.ground) (flat_map earthing_part (enumerate_from (i + 1) ss)) (if is_some s.ground then i ∷ [] else []) (earthing_ends_from (i + 1) ss) (earthing_many k i s.ground) (earthings_many k (i + 1) ss) two

line_many : (first_bus k place : ℕ) (l : Line) → AreAsManyAt k (line_of first_bus place l) (if l.blocked then [] else (first_bus + l.from) ∷ (first_bus + l.to) ∷ [])
line_many first_bus k place l =
    elim (cases_Bool l.blocked) [
      | inl blocked ↦ rw blocked (λ two. omega arith)
      | inr runs ↦ rw runs (λ two. omega (arith, both_count (first_bus + l.from) (first_bus + l.to) k two.0))
    ]

windings_many : (first_bus k place neutral : ℕ) (ws : List Winding) → AreAsManyAt k (winding_elements first_bus place neutral ws) (winding_ends first_bus neutral ws)
windings_many first_bus k place neutral [] two = omega arith
windings_many first_bus k place neutral (w ∷ ws) two =
    many_joined k (winding_element first_bus place neutral w ∷ []) (winding_elements first_bus place neutral ws) ((first_bus + w.from.bus) ∷ end_node first_bus neutral w.to ∷ []) (winding_ends first_bus neutral ws)
    (λ ends. omega (arith, both_count (first_bus + w.from.bus) (end_node first_bus neutral w.to) k ends.0)) (windings_many first_bus k place neutral ws) two

resistor_many : (k place neutral grid : ℕ) (device : Option Neutral) → AreAsManyAt k (resistor_of place neutral grid device) (device_ends neutral grid device)
resistor_many k place neutral grid None two = omega arith
resistor_many k place neutral grid (Some (devices.Resistor ohm)) two = omega (arith, both_count neutral grid k two.0)
resistor_many k place neutral grid (Some devices.Blocked) two = omega arith

-- as many elements of a case end at a node as its degree
pub as_many_at_a_node : (c : Lists) (k : ℕ) → AreAsManyAt k (element_list c) (element_ends c)
unfolding element_ends
as_many_at_a_node c k =
    let first_bus = length c.substations in
    let line_at = λ (l : Line). if l.blocked then [] else (first_bus + l.from) ∷ (first_bus + l.to) ∷ [] in
    let windings_at = λ (p : ℕ × Transformer). winding_ends first_bus p.0 (windings_of p.1) in
    let resistor_at = λ (p : ℕ × Transformer). device_ends p.0 (grid_of c.buses p.1) p.1.neutral in
    let earthings = earthings_many k 0 c.substations in
    let lines = many_of_parts k (line_part c) line_at (λ i l. line_many first_bus k i l) 0 c.lines in
    let windings = many_of_parts k (winding_part c) windings_at (λ i p. windings_many first_bus k i p.0 (windings_of p.1)) 0 (neutrals_of c) in
    let resistors = many_of_parts k (resistor_part c) resistor_at (λ i p. resistor_many k i p.0 (grid_of c.buses p.1) p.1.neutral) 0 (neutrals_of c) in
    many_joined k (earthings_of c) (lines_of c ++ (all_windings_of c ++ resistors_of c)) (earthing_ends c.substations)
    (line_ends first_bus c.lines ++ (flat_map windings_at (neutrals_of c) ++ flat_map resistor_at (neutrals_of c))) earthings
    (many_joined k (lines_of c) (all_windings_of c ++ resistors_of c) (line_ends first_bus c.lines) (flat_map windings_at (neutrals_of c) ++ flat_map resistor_at (neutrals_of c)) lines
    (many_joined k (all_windings_of c) (resistors_of c) (flat_map windings_at (neutrals_of c)) (flat_map resistor_at (neutrals_of c)) windings resistors))
