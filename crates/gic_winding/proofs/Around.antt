-- The element list around the windings of a transformer.
use Rattle.std.proofs.Common.{◌≡◌, ◌≢◌, ℕ, suc, zero, ◌+◌, ◌*◌, ◌<◌, ◌≤◌, Bool, true, false, Option, Some, None, List, [], ◌∷◌, ◌++◌, length, take, drop, get_or, refl, ap, ◌∙◌, arith, inl, inr, flat_map, append_assoc}
use Rattle.std.proofs.Math.Seq.{split_at}
use Rattle.std.proofs.lemmas.Bool.{cases_Bool}
use Rattle.std.proofs.lemmas.Bool.Decides.{nat_tests}
use Rattle.std.proofs.lemmas.Grind.{flat_map-append}
use Rattle.std.proofs.lemmas.List.FromFn.{length-enumerate_from, get_or-enumerate_from}
use Rattle.std.specs.List.{AllByRecursion, enumerate_from}
use Rattle.gic_base.proofs.Each.{all_joined, anything}
use Rattle.gic_case.specs.declared.item.Line.{Line}
use Rattle.gic_case.specs.declared.item.Neutral.{Neutral}
use Rattle.gic_case.specs.declared.item.Neutral.TheVariants as devices
use Rattle.gic_case.specs.declared.item.Transformer.{Transformer}
use Rattle.gic_case.specs.declared.winding.Winding.{Winding}
use Rattle.gic_case.specs.Lists.{Lists, end_node, grid_of, neutrals_of}
use Rattle.gic_case.specs.Windings.{windings_of}
use Rattle.gic_model.specs.declared.parts.Item.TheVariants as item
use Rattle.gic_model.specs.declared.parts.Role.{Role}
use Rattle.gic_model.specs.declared.parts.Element.{Element}
use Rattle.gic_model.specs.Standing.{is_item}
use Rattle.gic_winding.specs.ElementList.{earthing_of, line_of, winding, role_of, winding_elements, resistor_of, earthings_of, lines_of, all_windings_of, resistors_of, element_list}
use Rattle.gic_winding.specs.Order.{comes_before}
use Rattle.gic_case.proofs.NeutralNodes.{length-neutrals_of}
use Rattle.gic_winding.proofs.Parts.{earthing_part, line_part, winding_part, resistor_part}
use Rattle.gic_winding.proofs.Within.{all_of_parts}

-- whether the element is of the transformer at the place t
abbrev pub is_its : ℕ → Element → Bool
is_its t e = is_item e.item (item.Transformer t)

-- another item's element, before the windings of t
pub record IsBefore (t : ℕ) (e : Element) : Type 0 where
  pub first : comes_before e.item t ≡ true
  pub other : is_its t e ≡ false

-- another item's element, after them
pub record IsAfter (t : ℕ) (e : Element) : Type 0 where
  pub later : comes_before e.item t ≡ false
  pub other : is_its t e ≡ false

-- one of them
pub record IsIts (t : ℕ) (e : Element) : Type 0 where
  pub later : comes_before e.item t ≡ false
  pub its : is_its t e ≡ true

winding_before : (t place : ℕ) (r : Role) (from to ohm : ℕ) → place < t → IsBefore t (winding place r from to ohm)
winding_before t place r from to ohm h = record { first = grind (arith, nat_tests); other = grind (arith, nat_tests) }

winding_after : (t place : ℕ) (r : Role) (from to ohm : ℕ) → t < place → IsAfter t (winding place r from to ohm)
winding_after t place r from to ohm h = record { later = grind (arith, nat_tests); other = grind (arith, nat_tests) }

winding_its : (t : ℕ) (r : Role) (from to ohm : ℕ) → IsIts t (winding t r from to ohm)
winding_its t r from to ohm = record { later = grind (arith, nat_tests); its = grind (arith, nat_tests) }

earthing_before : (t place : ℕ) (ohm : Option ℕ) → AllByRecursion (IsBefore t) (earthing_of place ohm)
earthing_before t place None = tt
earthing_before t place (Some ohm) =
    let apart : 4 * place ≢ 4 * t + 2 = λ same. omega arith in
    (record { first = refl; other = grind (arith, nat_tests, apart) }, tt)

line_before : (t first_bus place : ℕ) (l : Line) → AllByRecursion (IsBefore t) (line_of first_bus place l)
line_before t first_bus place l =
    let apart : 4 * place + 1 ≢ 4 * t + 2 = λ same. omega arith in
    elim (cases_Bool l.blocked) [
      | inl blocked ↦ rw blocked tt
      | inr runs ↦ rw runs (record { first = refl; other = grind (arith, nat_tests, apart) }, tt)
    ]

resistor_after : (t place neutral grid : ℕ) (device : Option Neutral) → AllByRecursion (IsAfter t) (resistor_of place neutral grid device)
resistor_after t place neutral grid None = tt
resistor_after t place neutral grid (Some (devices.Resistor ohm)) =
    let apart : 4 * place + 3 ≢ 4 * t + 2 = λ same. omega arith in
    (record { later = refl; other = grind (arith, nat_tests, apart) }, tt)
resistor_after t place neutral grid (Some devices.Blocked) = tt

-- what holds of each winding of a transformer
of_windings : (P : Element → Type 0) (first_bus place neutral : ℕ) (ws : List Winding) → ((r : Role) (from to ohm : ℕ) → P (winding place r from to ohm)) → AllByRecursion P (winding_elements first_bus place neutral ws)
of_windings P first_bus place neutral [] h = tt
of_windings P first_bus place neutral (w ∷ ws) h = (h (role_of w.role) (first_bus + w.from.bus) (end_node first_bus neutral w.to) w.resistance, of_windings P first_bus place neutral ws h)

-- places before and after
all_taken : {X : Type 0} (n i bound : ℕ) (xs : List X) → i + n ≤ bound → AllByRecursion (λ p. p.0 < bound) (take n (enumerate_from i xs))
all_taken zero i bound xs space = tt
all_taken (suc n) i bound [] space = tt
all_taken (suc n) i bound (x ∷ xs) space = (omega arith, all_taken n (i + 1) bound xs (omega arith))

all_dropped : {X : Type 0} (n i bound : ℕ) (xs : List X) → bound ≤ i + n → AllByRecursion (λ p. bound ≤ p.0) (drop n (enumerate_from i xs))
all_dropped zero i bound [] space = tt
all_dropped (suc n) i bound [] space = tt
all_dropped zero i bound (x ∷ xs) space = (omega arith, all_dropped zero (i + 1) bound xs (omega arith))
all_dropped (suc n) i bound (x ∷ xs) space = all_dropped n (i + 1) bound xs (omega arith)

-- the elements before the windings of the transformer at the place t, and those after them
abbrev pub prefix_of : Lists → ℕ → List Element
prefix_of c t = earthings_of c ++ (lines_of c ++ flat_map (winding_part c) (take t (enumerate_from 0 (neutrals_of c))))

abbrev pub suffix_of : Lists → ℕ → List Element
suffix_of c t = flat_map (winding_part c) (drop (suc t) (enumerate_from 0 (neutrals_of c))) ++ resistors_of c

pub prefix_before : (c : Lists) (t : ℕ) → AllByRecursion (IsBefore t) (prefix_of c t)
prefix_before c t =
    let first_bus = length c.substations in
    let earthings = all_of_parts (λ p. Unit {0}) (IsBefore t) earthing_part (λ p h. earthing_before t p.0 p.1.ground) (enumerate_from 0 c.substations) (anything _) in
    let lines = all_of_parts (λ p. Unit {0}) (IsBefore t) (line_part c) (λ p h. line_before t first_bus p.0 p.1) (enumerate_from 0 c.lines) (anything _) in
    let windings = all_of_parts (λ (p : ℕ × (ℕ × Transformer)). p.0 < t) (IsBefore t) (winding_part c)
    (λ p h. of_windings (IsBefore t) first_bus p.0 p.1.0 (windings_of p.1.1) (λ r from to ohm. winding_before t p.0 r from to ohm h)) (take t (enumerate_from 0 (neutrals_of c))) (all_taken t 0 t (neutrals_of c) (omega arith)) in
    all_joined (IsBefore t) _ _ earthings (all_joined (IsBefore t) _ _ lines windings)

pub suffix_after : (c : Lists) (t : ℕ) → AllByRecursion (IsAfter t) (suffix_of c t)
suffix_after c t =
    let first_bus = length c.substations in
    let windings = all_of_parts (λ (p : ℕ × (ℕ × Transformer)). suc t ≤ p.0) (IsAfter t) (winding_part c)
    (λ p h. of_windings (IsAfter t) first_bus p.0 p.1.0 (windings_of p.1.1) (λ r from to ohm. winding_after t p.0 r from to ohm h)) (drop (suc t) (enumerate_from 0 (neutrals_of c))) (all_dropped (suc t) 0 (suc t) (neutrals_of c) (omega arith)) in
    let resistors = all_of_parts (λ p. Unit {0}) (IsAfter t) (resistor_part c) (λ p h. resistor_after t p.0 p.1.0 (grid_of c.buses p.1.1) p.1.1.neutral) (enumerate_from 0 (neutrals_of c)) (anything _) in
    all_joined (IsAfter t) _ _ windings resistors

pub windings_its : (first_bus t neutral : ℕ) (ws : List Winding) → AllByRecursion (IsIts t) (winding_elements first_bus t neutral ws)
windings_its first_bus t neutral ws = of_windings (IsIts t) first_bus t neutral ws (λ r from to ohm. winding_its t r from to ohm)

regrouped : (e l f w b r whole : List Element) → whole ≡ f ++ (w ++ b) → e ++ (l ++ (whole ++ r)) ≡ (e ++ (l ++ f)) ++ (w ++ (b ++ r))
regrouped e l f w b r whole h = ap (λ z. e ++ (l ++ (z ++ r))) h ∙ simp append_assoc

pub around : (c : Lists) (t : ℕ) (d : ℕ × Transformer) → t < length c.transformers
    → element_list c ≡ prefix_of c t ++ (winding_part c (t, get_or (neutrals_of c) t d) ++ suffix_of c t)
around c t d inside =
    let ns = enumerate_from 0 (neutrals_of c) in
    let within : t < length (neutrals_of c) = omega (arith, length-neutrals_of c) in
    let placed : t < length ns = omega (arith, length-enumerate_from 0 (neutrals_of c)) in
    let same : 0 + t ≡ t = omega arith in
    let at : get_or ns t (0, d) ≡ (t, get_or (neutrals_of c) t d) = get_or-enumerate_from 0 (neutrals_of c) t (0, d) within ∙ ap (λ (n : ℕ). (n, get_or (neutrals_of c) t d)) same in
    let split = split_at ns t (0, d) placed ∙ ap (λ p. take t ns ++ p ∷ drop (suc t) ns) at in
    let parts : all_windings_of c ≡ flat_map (winding_part c) (take t ns) ++ (winding_part c (t, get_or (neutrals_of c) t d) ++ flat_map (winding_part c) (drop (suc t) ns)) =
    ap (flat_map (winding_part c)) split ∙ flat_map-append (winding_part c) (take t ns) ((t, get_or (neutrals_of c) t d) ∷ drop (suc t) ns) in
    regrouped (earthings_of c) (lines_of c) (flat_map (winding_part c) (take t ns)) (winding_part c (t, get_or (neutrals_of c) t d)) (flat_map (winding_part c) (drop (suc t) ns)) (resistors_of c) (all_windings_of c) parts
