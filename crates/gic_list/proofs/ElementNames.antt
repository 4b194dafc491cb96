-- The items of the elements of a case, and the names of the nodes at which they end.
use Rattle.std.proofs.Common.{◌≡◌, ◌∙◌, ℕ, ◌+◌, ◌<◌, ◌≤◌, Bool, true, false, Option, Some, None, List, [], ◌∷◌, ◌++◌, length, map, get_or, refl, sym, ap, subst, arith, inl, inr}
use Rattle.std.specs.Prelude.{◌==◌, if◌then◌else◌, is_some, slice_get, Contains, IsTrue, ⊤}
use Rattle.std.specs.List.{AllByRecursion}
use Rattle.std.proofs.lemmas.Bool.{eqb-true, or_cases}
use Rattle.std.proofs.lemmas.List.{get_or-map, length-map}
use Rattle.std.proofs.lemmas.List.Elements.{recursion_from_All}
use Rattle.gic_base.proofs.Each.{all_joined}
use Rattle.gic_case.specs.declared.item.Line.{Line}
use Rattle.gic_case.specs.declared.item.Neutral.{Neutral}
use Rattle.gic_case.specs.declared.item.Neutral.TheVariants as devices
use Rattle.gic_case.specs.declared.item.Transformer.{Transformer}
use Rattle.gic_case.specs.declared.winding.Terminal.{Terminal}
use Rattle.gic_case.specs.declared.winding.WindingEnd.{WindingEnd}
use Rattle.gic_case.specs.declared.winding.WindingEnd.TheVariants as ends
use Rattle.gic_case.specs.declared.winding.Winding.{Winding}
use Rattle.gic_case.specs.Lists.{Lists, end_node, grid_of, neutrals_of, node_names}
use Rattle.gic_case.specs.Windings.{windings_of, has_windings}
use Rattle.gic_case.specs.Sound.{IsSound, IsSoundEnd, IsSoundWinding, IsSoundLine, IsSoundTransformer}
use Rattle.gic_model.specs.declared.parts.End.{End}
use Rattle.gic_model.specs.declared.parts.End.TheVariants.{Node, Earth}
use Rattle.gic_model.specs.declared.parts.Item.{Item}
use Rattle.gic_model.specs.declared.parts.Item.TheVariants as item
use Rattle.gic_model.specs.declared.parts.Element.{Element}
use Rattle.gic_model.specs.Network.{ends_at, is_node}
use Rattle.gic_winding.specs.ElementList.{elements_of, element_list, earthing_of, earthings_of, line, line_of, lines_of, winding_elements, all_windings_of, resistor_of, resistors_of, item_name}
use Rattle.gic_list.specs.ListText.{node_name}
use Rattle.gic_report.specs.Items.{HasPlace}
use Rattle.gic_report.proofs.ListParts.{all_at, all_numbered}
use Rattle.gic_report.proofs.NeutralNames.{IsNamedNeutral, at_grid, first_neutral, neutrals_named, transformers_of_neutrals}

-- the node is a substation or a bus, or it is named as the item
abbrev IsNodeBy : Lists → Item → ℕ → Type 0
IsNodeBy c kept place = first_neutral c ≤ place → node_name c place ≡ item_name c kept

abbrev IsEndBy : Lists → Item → End → Type 0
IsEndBy c kept (Node n) = IsNodeBy c kept n.0
IsEndBy c kept Earth = ⊤

-- an element of an item of the case, whose nodes are so, if the case keeps all rules
record IsElementOf (c : Lists) (e : Element) : Type 0 where
  item_of : HasPlace c e.item
  from_by : IsSound c → IsNodeBy c e.item e.from.0
  to_by : IsSound c → IsEndBy c e.item e.to

-- ---- earthings

earthing_by : (c : Lists) (n : ℕ) (ground : Option ℕ) → n < length c.substations → AllByRecursion (IsElementOf c) (earthing_of n ground)
earthing_by c n None h = tt
earthing_by c n (Some ohm) h = (record { item_of = h; from_by = λ sound past. absurd (omega (arith, h, past)); to_by = λ sound. tt }, tt)

earthings_by : (c : Lists) → AllByRecursion (IsElementOf c) (earthings_of c)
earthings_by c = all_numbered (IsElementOf c) (λ p. earthing_of p.0 p.1.ground) c.substations (λ n s h e. earthing_by c n s.ground h)

-- ---- lines

line_by : (c : Lists) (n : ℕ) (l : Line) → n < length c.lines → (IsSound c → IsSoundLine c l) → AllByRecursion (IsElementOf c) (line_of (length c.substations) n l)
line_by c n l h each =
    elim l.blocked as (λ b. AllByRecursion (IsElementOf c) (if b then [] else (line n (length c.substations + l.from) (length c.substations + l.to) l.resistance ∷ []))) [
      | true ↦ tt
      | false ↦ (
        record {
          item_of = h;
          from_by = λ sound past. absurd (omega (arith, (each sound).from_within, past));
          to_by = λ sound past. absurd (omega (arith, (each sound).to_within, past));
        },
        tt,
      )
    ]

lines_by : (c : Lists) → AllByRecursion (IsElementOf c) (lines_of c)
lines_by c = all_numbered (IsElementOf c) (λ p. line_of (length c.substations) p.0 p.1) c.lines
    (λ n l h e. line_by c n l h (λ sound. subst (IsSoundLine c) (e l) (sound.lines_sound n l h)))

-- ---- windings and neutral resistors

-- what is known of the transformer at a place with its neutral
record IsUnit (c : Lists) (n : ℕ) (p : ℕ × Transformer) : Type 0 where
  within : n < length c.transformers
  name : get_or (map (λ t. t.name) c.transformers) n [] ≡ p.1.name
  sound : IsSound c → IsSoundTransformer c p.1
  named : IsSound c → IsNamedNeutral (first_neutral c) (node_names c) p

-- where a winding runs: another bus of the transformer, or its neutral
winding_end_by : (c : Lists) (n neutral : ℕ) (from : Terminal) (to : WindingEnd) → (IsSound c → IsSoundEnd c from to) → (IsSound c → IsNodeBy c (item.Transformer n) neutral)
    → IsSound c → IsNodeBy c (item.Transformer n) (end_node (length c.substations) neutral to)
winding_end_by c n neutral from (ends.Bus to) within by = λ sound past. absurd (omega (arith, (within sound).0, past))
winding_end_by c n neutral from ends.Neutral within by = by

-- the elements of the transformer, from its buses
windings_by : (c : Lists) (n neutral volts : ℕ) (ws : List Winding) → n < length c.transformers → (IsSound c → AllByRecursion (IsSoundWinding c volts) ws)
    → (IsSound c → is_some (slice_get ws 0) ≡ true → IsNodeBy c (item.Transformer n) neutral) → AllByRecursion (IsElementOf c) (winding_elements (length c.substations) n neutral ws)
windings_by c n neutral volts [] h each by = tt
windings_by c n neutral volts (w ∷ ws) h each by = (
  record {
    item_of = h;
    from_by = λ sound past. absurd (omega (arith, (each sound).0.bus_within, past));
    to_by = winding_end_by c n neutral w.from w.to (λ sound. (each sound).0.end_sound) (λ sound. by sound refl);
  },
  windings_by c n neutral volts ws h (λ sound. (each sound).1) (λ sound has. by sound refl),
)

-- a neutral resistor runs from the transformer's own neutral to its grid
resistor_by : (c : Lists) (n neutral grid : ℕ) (device : Option Neutral) → n < length c.transformers
    → (IsSound c → is_some device ≡ true → IsNodeBy c (item.Neutral n) neutral) → (IsSound c → is_some device ≡ true → grid < length c.substations)
    → AllByRecursion (IsElementOf c) (resistor_of n neutral grid device)
resistor_by c n neutral grid None h by within = tt
resistor_by c n neutral grid (Some (devices.Resistor ohm)) h by within =
    (record { item_of = h; from_by = λ sound. by sound refl; to_by = λ sound past. absurd (omega (arith, within sound refl, past)) }, tt)
resistor_by c n neutral grid (Some devices.Blocked) h by within = tt

-- a unit with a device has windings
with_device_winds : (winds device : Bool) → (winds ≡ false → device ≡ false) → device ≡ true → winds ≡ true
with_device_winds true device h e = refl
with_device_winds false device h e = absurd (let f : device ≡ false = h refl in let g : true ≡ false = cc in cc)

-- the transformer at a place is that of the neutral at the place
unit_at : (c : Lists) (n : ℕ) (p : ℕ × Transformer) → n < length (neutrals_of c) → ((d : ℕ × Transformer) → get_or (neutrals_of c) n d ≡ p) → IsUnit c n p
unit_at c n p h e =
    let within : n < length c.transformers = omega (arith, h, ap length (transformers_of_neutrals c), length-map (neutrals_of c) (λ q. q.1)) in
    let at : get_or c.transformers n p.1 ≡ p.1 = ap (λ l. get_or l n p.1) (sym (transformers_of_neutrals c)) ∙ get_or-map (λ q. q.1) (neutrals_of c) n p p.1 h ∙ ap (λ q. q.1) (e p) in
    record {
      within = within;
      name = get_or-map (λ t. t.name) c.transformers n p.1 [] within ∙ ap (λ t. t.name) at;
      sound = λ sound. subst (IsSoundTransformer c) at (sound.transformers_sound n p.1 within);
      named = λ sound. subst (IsNamedNeutral (first_neutral c) (node_names c)) (e p) (all_at (IsNamedNeutral (first_neutral c) (node_names c)) (neutrals_of c) n p h (neutrals_named c sound));
    }

unit_windings_by : (c : Lists) (n : ℕ) (p : ℕ × Transformer) → IsUnit c n p → AllByRecursion (IsElementOf c) (winding_elements (length c.substations) n p.0 (windings_of p.1))
unit_windings_by c n p u =
    windings_by c n p.0 p.1.high_volts (windings_of p.1) u.within (λ sound. recursion_from_All (IsSoundWinding c p.1.high_volts) (windings_of p.1) (u.sound sound).windings_sound) (λ sound winds past. u.named sound winds past ∙ sym u.name)

unit_resistor_by : (c : Lists) (n : ℕ) (p : ℕ × Transformer) → IsUnit c n p → AllByRecursion (IsElementOf c) (resistor_of n p.0 (grid_of c.buses p.1) p.1.neutral)
unit_resistor_by c n p u =
    let winds : IsSound c → is_some p.1.neutral ≡ true → has_windings p.1 ≡ true = λ sound device. with_device_winds (has_windings p.1) (is_some p.1.neutral) (u.sound sound).no_device device in
    resistor_by c n p.0 (grid_of c.buses p.1) p.1.neutral u.within
    (λ sound device past. u.named sound (winds sound device) past ∙ sym u.name)
    (λ sound device. at_grid c sound p.1 (u.sound sound) (winds sound device))

all_windings_by : (c : Lists) → AllByRecursion (IsElementOf c) (all_windings_of c)
all_windings_by c = all_numbered (IsElementOf c) (λ p. winding_elements (length c.substations) p.0 p.1.0 (windings_of p.1.1)) (neutrals_of c)
    (λ n p h e. unit_windings_by c n p (unit_at c n p h e))

resistors_by : (c : Lists) → AllByRecursion (IsElementOf c) (resistors_of c)
resistors_by c = all_numbered (IsElementOf c) (λ p. resistor_of p.0 p.1.0 (grid_of c.buses p.1.1) p.1.1.neutral) (neutrals_of c)
    (λ n p h e. unit_resistor_by c n p (unit_at c n p h e))

-- ---- all elements

elements_by : (c : Lists) → AllByRecursion (IsElementOf c) (element_list c)
elements_by c =
    all_joined (IsElementOf c) (earthings_of c) (lines_of c ++ (all_windings_of c ++ resistors_of c)) (earthings_by c)
    (all_joined (IsElementOf c) (lines_of c) (all_windings_of c ++ resistors_of c) (lines_by c)
    (all_joined (IsElementOf c) (all_windings_of c) (resistors_of c) (all_windings_by c) (resistors_by c)))

element_by : (c : Lists) (e : Element) → Contains (elements_of c).list e → IsElementOf c e
unfolding elements_of
element_by c e (k, within, is) = subst (IsElementOf c) is (all_at (IsElementOf c) (element_list c) k e within (elements_by c))

-- the item of an element of a case
pub item_of : (c : Lists) (e : Element) → Contains (elements_of c).list e → HasPlace c e.item
item_of c e h = (element_by c e h).item_of

end_by : (c : Lists) (kept : Item) (to : End) (node : ℕ) → IsEndBy c kept to → is_node to node ≡ true → IsNodeBy c kept node
end_by c kept (Node n) node h e = subst (IsNodeBy c kept) (eqb-true n.0 node e) h
end_by c kept Earth node h e = absurd (let f : false ≡ true = e in cc)

-- past the buses, a node at which an element ends is named as its item
pub node_by_item : (c : Lists) (e : Element) (node : ℕ) → IsSound c → Contains (elements_of c).list e → IsTrue (ends_at e node) → first_neutral c ≤ node → node_name c node ≡ item_name c e.item
node_by_item c e node sound h ends past =
    let by = element_by c e h in
    elim (or_cases (e.from.0 == node) (is_node e.to node) ends) [
      | inl at ↦ subst (IsNodeBy c e.item) (eqb-true e.from.0 node at) (by.from_by sound) past
      | inr at ↦ end_by c e.item e.to node (by.to_by sound) at past
    ]
