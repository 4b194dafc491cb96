-- Fields induce no voltage at a ground.
use Rattle.std.proofs.Common.{◌≡◌, ℕ, Bool, true, false, Option, Some, None, List, [], ◌∷◌, length, ℤ, pos, refl, ap, sym, subst, ◌∙◌}
use Rattle.std.specs.List.{AllByRecursion, enumerate_from}
use Rattle.std.proofs.lemmas.List.{get_or-map}
use Rattle.std.proofs.lemmas.List.Elements.{All-from_recursion}
use Rattle.gic_base.proofs.Each.{all_joined, anything}
use Rattle.gic_case.specs.declared.item.Line.{Line}
use Rattle.gic_case.specs.declared.item.Neutral.{Neutral}
use Rattle.gic_case.specs.declared.item.Neutral.TheVariants as devices
use Rattle.gic_case.specs.declared.winding.Winding.{Winding}
use Rattle.gic_case.specs.Lists.{Lists, grid_of, neutrals_of}
use Rattle.gic_case.specs.Windings.{windings_of}
use Rattle.gic_induce.specs.LineVolts.{volts_of, volts_of_item}
use Rattle.gic_model.specs.declared.parts.Element.{Element}
use Rattle.gic_model.specs.declared.parts.Item.{Item}
use Rattle.gic_model.specs.Standing.{standing_elements}
use Rattle.gic_model.specs.Voltages.{number_at}
use Rattle.gic_model.proofs.Members.{kept, placed, both}
use Rattle.gic_net.specs.Net.{no_element}
use Rattle.gic_net.proofs.Kept.{IsIn, each_in}
use Rattle.gic_varied.specs.Grounds.{is_ground, HaveNoGroundVolts}
use Rattle.gic_winding.specs.ElementList.{earthing_of, line_of, winding_elements, resistor_of, elements_of}
use Rattle.gic_winding.proofs.Within.{all_of_parts}
use Rattle.gic_grounds.specs.Varied.{HasNoGroundVolts}

-- false is not true
no_way : false ≡ true → ⊥
no_way q = cc

module _ (case : Lists) (fields : List (ℤ × ℤ)) where
  -- the element has no voltage where it is a ground
  abbrev IsQuiet : Element → Type 0
  IsQuiet e = is_ground e ≡ true → volts_of_item case fields e.item ≡ pos 0

  -- so is each element of a substation, of a line, of a transformer's windings and of its neutral
  of_earthing : (place : ℕ) (ohm : Option ℕ) → AllByRecursion IsQuiet (earthing_of place ohm)
  of_earthing place None = tt
  of_earthing place (Some ohm) = (λ ground. refl, tt)

  of_line : (first place : ℕ) (l : Line) → AllByRecursion IsQuiet (line_of first place l)
  of_line first place l = by l.blocked refl
    where
      by : (b : Bool) → l.blocked ≡ b → AllByRecursion IsQuiet (line_of first place l)
      by true is = rw is tt
      by false is = rw is (λ ground. absurd (no_way ground), tt)

  of_windings : (first place neutral : ℕ) (ws : List Winding) → AllByRecursion IsQuiet (winding_elements first place neutral ws)
  of_windings first place neutral [] = tt
  of_windings first place neutral (w ∷ ws) = (λ ground. absurd (no_way ground), of_windings first place neutral ws)

  of_resistor : (place neutral grid : ℕ) (device : Option Neutral) → AllByRecursion IsQuiet (resistor_of place neutral grid device)
  of_resistor place neutral grid None = tt
  of_resistor place neutral grid (Some (devices.Resistor ohm)) = (λ ground. absurd (no_way ground), tt)
  of_resistor place neutral grid (Some devices.Blocked) = tt

  -- so is each element of the case
  each_quiet : AllByRecursion IsQuiet (elements_of case).list
  unfolding elements_of
  each_quiet =
      let substations = enumerate_from 0 case.substations in
      let lines = enumerate_from 0 case.lines in
      let units = enumerate_from 0 (neutrals_of case) in
      all_joined IsQuiet _ _
      (all_of_parts (λ x. Unit {0}) IsQuiet _ (λ p h. of_earthing p.0 p.1.ground) substations (anything substations))
      (all_joined IsQuiet _ _
      (all_of_parts (λ x. Unit {0}) IsQuiet _ (λ p h. of_line (length case.substations) p.0 p.1) lines (anything lines))
      (all_joined IsQuiet _ _
      (all_of_parts (λ x. Unit {0}) IsQuiet _ (λ p h. of_windings (length case.substations) p.0 p.1.0 (windings_of p.1.1)) units (anything units))
      (all_of_parts (λ x. Unit {0}) IsQuiet _ (λ p h. of_resistor p.0 p.1.0 (grid_of case.buses p.1.1) p.1.1.neutral) units (anything units))))

  -- no ground that stands has a voltage
  pub no_ground_volts : (stands : Item → Bool)
      → HaveNoGroundVolts (standing_elements (elements_of case) stands) (number_at (volts_of case fields (elements_of case).list))
  no_ground_volts stands =
      let list = (elements_of case).list in
      let volts = number_at (volts_of case fields list) in
      All-from_recursion (λ p. is_ground p.1 ≡ true → volts p.0 ≡ pos 0) (standing_elements (elements_of case) stands)
      (kept (λ p. stands p.1.item) (λ p. IsIn list p × IsQuiet p.1) (λ p. is_ground p.1 ≡ true → volts p.0 ≡ pos 0)
      (λ p is h ground.
      get_or-map (λ (e : Element). volts_of_item case fields e.item) list p.0 no_element (pos 0) h.0.0 ∙
      ap (λ (e : Element). volts_of_item case fields e.item) (sym h.0.1) ∙ h.1 ground)
      (enumerate_from 0 list) (both (IsIn list) (λ p. IsQuiet p.1) (enumerate_from 0 list) (each_in list) (placed IsQuiet 0 list each_quiet)))

-- the voltages of one field are 0 at each ground, whatever stands
pub quiet_at_grounds : (case : Lists) (fields : List (ℤ × ℤ)) (volts : List ℤ) → volts ≡ volts_of case fields (elements_of case).list
    → HasNoGroundVolts case (number_at volts)
quiet_at_grounds case fields volts is = subst (λ (ns : List ℤ). HasNoGroundVolts case (number_at ns)) (sym is) (no_ground_volts case fields)
