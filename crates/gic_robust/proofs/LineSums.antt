-- Fields drive lines alone, and so the voltages of a case's elements together are at most those of so many lines.
use Rattle.std.proofs.Common.{◌≡◌, ℕ, ◌+◌, ◌*◌, ◌≤◌, Bool, true, false, cond, Option, Some, None, List, [], ◌∷◌, length, count_by, flat_map, ℤ, pos, unsigned_abs, arith, refl, ap, sym, ◌∙◌}
use Rattle.std.specs.List.{AllByRecursion, filter, sum_by, enumerate_from}
use Rattle.std.proofs.lemmas.List.{get_or-map}
use Rattle.std.proofs.lemmas.List.Elements.{All-from_recursion, recursion_from_All}
use Rattle.std.proofs.lemmas.List.Sums.{sum_by-cons, sum_by-append}
use Rattle.gic_base.specs.declared.limits.TheConstants.{MOST_LINES}
use Rattle.gic_case.specs.declared.item.Line.{Line}
use Rattle.gic_case.specs.declared.item.Neutral.{Neutral}
use Rattle.gic_case.specs.declared.item.Neutral.TheVariants as devices
use Rattle.gic_case.specs.declared.winding.Winding.{Winding}
use Rattle.gic_case.specs.Lists.{Lists, grid_of, neutrals_of}
use Rattle.gic_case.specs.Sound.{IsSound}
use Rattle.gic_case.specs.Windings.{windings_of}
use Rattle.gic_induce.specs.LineVolts.{volts_of, volts_of_item}
use Rattle.gic_model.specs.declared.parts.Element.{Element}
use Rattle.gic_model.specs.declared.parts.Item.{Item}
use Rattle.gic_model.specs.declared.parts.Item.TheVariants as items
use Rattle.gic_model.specs.Limits.{most_volts, AreVolts}
use Rattle.gic_model.specs.Standing.{stands_after}
use Rattle.gic_model.specs.Sums.{Placed}
use Rattle.gic_model.specs.Voltages.{number_at}
use Rattle.gic_model.proofs.Members.{kept}
use Rattle.gic_net.specs.Net.{no_element}
use Rattle.gic_net.proofs.Kept.{IsIn, each_in}
use Rattle.gic_winding.specs.ElementList.{earthing_of, line_of, winding_elements, resistor_of, elements_of}
use Rattle.gic_winding.proofs.Parts.{earthing_part, line_part, winding_part, resistor_part}
use Rattle.gic_grounds.specs.Tolerated.{Tolerated, own_in}
use Rattle.gic_robust.specs.Resolution.{is_line, HaveLineVoltsAlone, FieldsDriveLinesAlone}

-- an item that is no line has no voltage
quiet_item : (case : Lists) (fields : List (ℤ × ℤ)) (item : Item) → is_line item ≡ false → volts_of_item case fields item ≡ pos 0
quiet_item case fields (items.Line place) other = absurd (no_way other)
  where
    no_way : true ≡ false → ⊥
    no_way q = cc
quiet_item case fields (items.Ground place) other = refl
quiet_item case fields (items.Transformer place) other = refl
quiet_item case fields (items.Neutral place) other = refl

-- so it is with each element that stands
pub fields_drive_lines : FieldsDriveLinesAlone
fields_drive_lines v fields =
    let list = (elements_of v.case).list in
    let at = λ (e : Element). volts_of_item v.case fields e.item in
    let Q = λ (p : Placed). is_line p.1.item ≡ false → number_at (volts_of v.case fields list) p.0 ≡ pos 0 in
    All-from_recursion Q (own_in v)
    (kept (λ p. stands_after v.rows p.1.item) (IsIn list) Q
    (λ p is h other. get_or-map at list p.0 no_element (pos 0) h.0 ∙ ap at (sym h.1) ∙ quiet_item v.case fields p.1.item other)
    (enumerate_from 0 list) (each_in list))

-- whether an element is a line, and the same with its place
abbrev is_line_element : Element → Bool
is_line_element e = is_line e.item

abbrev is_line_placed : Placed → Bool
is_line_placed p = is_line p.1.item

-- voltages that lines alone have are together at most the greatest for each line
sum_most : (volts : ℕ → ℤ) → AreVolts volts → (ps : List Placed) → AllByRecursion (λ p. is_line p.1.item ≡ false → volts p.0 ≡ pos 0) ps →
    sum_by (λ p. unsigned_abs (volts p.0)) ps ≤ count_by is_line_placed ps * most_volts
sum_most volts most [] h = omega arith
sum_most volts most (p ∷ ps) h =
    let here = by (is_line p.1.item) refl in
    let rest = sum_most volts most ps h.1 in
    let sum = sum_by-cons (λ (q : Placed). unsigned_abs (volts q.0)) p ps in
    let count = sum_by-cons (λ (q : Placed). cond (is_line q.1.item) 1 0) p ps in
    omega (arith, here, rest, sum, count)
  where
    by : (b : Bool) → is_line p.1.item ≡ b → unsigned_abs (volts p.0) ≤ cond b 1 0 * most_volts
    by true is = omega (arith, most p.0)
    by false is = omega (arith, ap unsigned_abs (h.0 is))

-- those that a test keeps have no more lines
fewer_kept : (test : Placed → Bool) (ps : List Placed) → count_by is_line_placed (filter test ps) ≤ count_by is_line_placed ps
fewer_kept test [] = omega arith
fewer_kept test (p ∷ ps) = by (test p) (fewer_kept test ps)
  where
    by : (b : Bool) → count_by is_line_placed (filter test ps) ≤ count_by is_line_placed ps → count_by is_line_placed (cond b (p ∷ filter test ps) (filter test ps)) ≤ count_by is_line_placed (p ∷ ps)
    by true rest = omega (arith, sum_by-cons (λ (q : Placed). cond (is_line q.1.item) 1 0) p ps, sum_by-cons (λ (q : Placed). cond (is_line q.1.item) 1 0) p (filter test ps), rest)
    by false rest = omega (arith, sum_by-cons (λ (q : Placed). cond (is_line q.1.item) 1 0) p ps, rest)

-- places change no count
places_aside : (i : ℕ) (es : List Element) → count_by is_line_placed (enumerate_from i es) ≡ count_by is_line_element es
places_aside i [] = refl
places_aside i (e ∷ es) =
    let placed = sum_by-cons (λ (q : Placed). cond (is_line q.1.item) 1 0) (i, e) (enumerate_from (i + 1) es) in
    let alone = sum_by-cons (λ (x : Element). cond (is_line x.item) 1 0) e es in
    omega (arith, placed, alone, places_aside (i + 1) es)

-- at most a given number of lines a part
lines_of_parts : {X : Type 0} (most : ℕ) (part : ℕ × X → List Element) → ((i : ℕ) (x : X) → count_by is_line_element (part (i, x)) ≤ most) → (i : ℕ) (xs : List X) →
    count_by is_line_element (flat_map part (enumerate_from i xs)) ≤ most * length xs
lines_of_parts most part each i [] = omega arith
lines_of_parts most part each i (x ∷ xs) =
    let here = each i x in
    let later = lines_of_parts most part each (i + 1) xs in
    let both = sum_by-append (λ (e : Element). cond (is_line e.item) 1 0) (part (i, x)) (flat_map part (enumerate_from (i + 1) xs)) in
    omega (arith, here, later, both)

-- a line has one element, and a substation, the windings and a neutral have no line
of_earthing : (i : ℕ) (ohm : Option ℕ) → count_by is_line_element (earthing_of i ohm) ≤ 0
of_earthing i None = omega arith
of_earthing i (Some ohm) = omega arith

of_line : (first_bus i : ℕ) (l : Line) → count_by is_line_element (line_of first_bus i l) ≤ 1
of_line first_bus i l = by l.blocked refl
  where
    by : (b : Bool) → l.blocked ≡ b → count_by is_line_element (line_of first_bus i l) ≤ 1
    by true is = rw is (omega arith)
    by false is = rw is (omega arith)

of_windings : (first_bus i neutral : ℕ) (ws : List Winding) → count_by is_line_element (winding_elements first_bus i neutral ws) ≤ 0
of_windings first_bus i neutral [] = omega arith
of_windings first_bus i neutral (w ∷ ws) = of_windings first_bus i neutral ws

of_resistor : (i neutral grid : ℕ) (device : Option Neutral) → count_by is_line_element (resistor_of i neutral grid device) ≤ 0
of_resistor i neutral grid None = omega arith
of_resistor i neutral grid (Some (devices.Resistor ohm)) = omega arith
of_resistor i neutral grid (Some devices.Blocked) = omega arith

-- so a sound case has at most so many lines among its elements
few_lines : (c : Lists) → IsSound c → count_by is_line_element (elements_of c).list ≤ MOST_LINES
unfolding elements_of
few_lines c sound =
    let first_bus = length c.substations in
    let earthings = lines_of_parts 0 earthing_part (λ i s. of_earthing i s.ground) 0 c.substations in
    let lines = lines_of_parts 1 (line_part c) (λ i l. of_line first_bus i l) 0 c.lines in
    let windings = lines_of_parts 0 (winding_part c) (λ i p. of_windings first_bus i p.0 (windings_of p.1)) 0 (neutrals_of c) in
    let resistors = lines_of_parts 0 (resistor_part c) (λ i p. of_resistor i p.0 (grid_of c.buses p.1) p.1.neutral) 0 (neutrals_of c) in
    simp sum_by-append (omega (arith, earthings, lines, windings, resistors, sound.few_lines))

-- voltages that lines alone have are together at most the greatest for each line that a case can have
pub line_sum : (v : Tolerated) (volts : ℕ → ℤ) → IsSound v.case → AreVolts volts → HaveLineVoltsAlone (own_in v) volts →
    sum_by (λ p. unsigned_abs (volts p.0)) (own_in v) ≤ MOST_LINES * most_volts
line_sum v volts sound most alone =
    let list = (elements_of v.case).list in
    let sum = sum_most volts most (own_in v) (recursion_from_All (λ (p : Placed). is_line p.1.item ≡ false → volts p.0 ≡ pos 0) (own_in v) alone) in
    let fewer = fewer_kept (λ p. stands_after v.rows p.1.item) (enumerate_from 0 list) in
    omega (arith, sum, fewer, places_aside 0 list, few_lines v.case sound)
