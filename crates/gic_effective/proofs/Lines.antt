-- Line items among the elements are lines of the case.
use Rattle.std.proofs.Common.{ℕ, ◌<◌, Option, Some, None, List, [], ◌∷◌, length, arith, inl, inr}
use Rattle.std.proofs.lemmas.Bool.{cases_Bool}
use Rattle.std.proofs.lemmas.List.Elements.{All-from_recursion}
use Rattle.std.specs.List.{All, AllByRecursion, enumerate_from}
use Rattle.gic_base.proofs.Each.{all_joined, anything}
use Rattle.gic_case.specs.declared.item.Line.{Line}
use Rattle.gic_case.specs.declared.item.Neutral.{Neutral}
use Rattle.gic_case.specs.declared.item.Neutral.TheVariants as devices
use Rattle.gic_case.specs.declared.winding.Winding.{Winding}
use Rattle.gic_case.specs.Lists.{Lists, grid_of, neutrals_of}
use Rattle.gic_case.specs.Windings.{windings_of}
use Rattle.gic_induce.specs.LineVolts.{IsLineWithin}
use Rattle.gic_model.specs.declared.parts.Element.{Element}
use Rattle.gic_winding.specs.ElementList.{earthing_of, line_of, winding_elements, resistor_of, elements_of}
use Rattle.gic_winding.proofs.Parts.{earthing_part, line_part, winding_part, resistor_part}
use Rattle.gic_winding.proofs.Within.{all_of_parts, IsPlaced, all_placed}

-- if the element is a line's, the line is one of the case
abbrev OfLine : Lists → Element → Type 0
OfLine c e = IsLineWithin c e.item

earthing_lines : (c : Lists) (place : ℕ) (ohm : Option ℕ) → AllByRecursion (OfLine c) (earthing_of place ohm)
earthing_lines c place None = tt
earthing_lines c place (Some ohm) = (tt, tt)

line_lines : (c : Lists) (first_bus place : ℕ) (l : Line) → place < length c.lines → AllByRecursion (OfLine c) (line_of first_bus place l)
line_lines c first_bus place l inside = elim (cases_Bool l.blocked) [
  | inl blocked ↦ rw blocked tt
  | inr runs ↦ rw runs (inside, tt)
]

winding_lines : (c : Lists) (first_bus place neutral : ℕ) (ws : List Winding) → AllByRecursion (OfLine c) (winding_elements first_bus place neutral ws)
winding_lines c first_bus place neutral [] = tt
winding_lines c first_bus place neutral (w ∷ ws) = (tt, winding_lines c first_bus place neutral ws)

resistor_lines : (c : Lists) (place neutral grid : ℕ) (device : Option Neutral) → AllByRecursion (OfLine c) (resistor_of place neutral grid device)
resistor_lines c place neutral grid None = tt
resistor_lines c place neutral grid (Some (devices.Resistor ohm)) = (tt, tt)
resistor_lines c place neutral grid (Some devices.Blocked) = tt

pub all_of_lines : (c : Lists) → All (OfLine c) (elements_of c).list
unfolding elements_of
all_of_lines c =
    let first_bus = length c.substations in
    let earthings = all_of_parts (λ p. Unit {0}) (OfLine c) earthing_part (λ p h. earthing_lines c p.0 p.1.ground) (enumerate_from 0 c.substations) (anything _) in
    let lines = all_of_parts (IsPlaced (length c.lines) (λ (l : Line). Unit {0})) (OfLine c) (line_part c) (λ p h. line_lines c first_bus p.0 p.1 h.below) (enumerate_from 0 c.lines) (all_placed (length c.lines) (λ (l : Line). Unit {0}) 0 c.lines (omega arith) (anything _)) in
    let windings = all_of_parts (λ p. Unit {0}) (OfLine c) (winding_part c) (λ p h. winding_lines c first_bus p.0 p.1.0 (windings_of p.1.1)) (enumerate_from 0 (neutrals_of c)) (anything _) in
    let resistors = all_of_parts (λ p. Unit {0}) (OfLine c) (resistor_part c) (λ p h. resistor_lines c p.0 p.1.0 (grid_of c.buses p.1.1) p.1.1.neutral) (enumerate_from 0 (neutrals_of c)) (anything _) in
    All-from_recursion (OfLine c) _ (all_joined (OfLine c) _ _ earthings (all_joined (OfLine c) _ _ lines (all_joined (OfLine c) _ _ windings resistors)))
