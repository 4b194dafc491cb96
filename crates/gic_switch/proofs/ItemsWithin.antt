-- The item that a row switches is one of the case's.
use Rattle.std.proofs.Common.{◌≡◌, ℕ, ◌+◌, ◌<◌, List, length, map, Bool, true, false, cond, Option, Some, None, option_map, refl, arith}
use Rattle.std.specs.Prelude.{IfSome}
use Rattle.std.proofs.lemmas.List.{length-map}
use Rattle.std.specs.Option.{option_or}
use Rattle.gic_case.specs.Names.{place_in}
use Rattle.gic_case.specs.Lists.{Lists}
use Rattle.gic_case.specs.declared.item.Line.{Line}
use Rattle.gic_case.specs.declared.item.Substation.{Substation}
use Rattle.gic_case.specs.declared.item.Transformer.{Transformer}
use Rattle.gic_case.proofs.Places.{place_below}
use Rattle.gic_model.specs.declared.parts.Item.{Item}
use Rattle.gic_model.specs.declared.parts.Item.TheVariants as items
use Rattle.gic_switch.specs.declared.action.Action.{Action}
use Rattle.gic_switch.specs.declared.action.Action.TheVariants.{Open, Close, Block, Unblock}
use Rattle.gic_switch.specs.Items.{named, has_ground, has_resistor, plain_item, neutral_item, switched_item}
use Rattle.gic_switch.specs.ItemsOf.{IsItemOf}

-- a line or a transformer that is named is one of the case's
abbrev IsNamedOf : Lists → Item → Type 0
IsNamedOf case (items.Line place) = place < length case.lines
IsNamedOf case (items.Transformer place) = place < length case.transformers
IsNamedOf case (items.Ground place) = Unit {0}
IsNamedOf case (items.Neutral place) = Unit {0}

of_place : (P : ℕ → Type 0) (Q : Item → Type 0) (item : ℕ → Item) (o : Option ℕ) → ((p : ℕ) → P p → Q (item p)) → IfSome o P → IfSome (option_map item o) Q
of_place P Q item None leads h = tt
of_place P Q item (Some p) leads h = leads p h

of_either : (Q : Item → Type 0) (a b : Option Item) → IfSome a Q → IfSome b Q → IfSome (option_or a b) Q
of_either Q None b h k = k
of_either Q (Some x) b h k = h

named_within : (case : Lists) (q : List ℕ) → IfSome (named case q) (IsNamedOf case)
named_within case q =
    let lines = map (λ (l : Line). l.name) case.lines in
    let transformers = map (λ (t : Transformer). t.name) case.transformers in
    let substations = map (λ (s : Substation). s.name) case.substations in
    let few_lines = length-map case.lines (λ (l : Line). l.name) in
    let few_transformers = length-map case.transformers (λ (t : Transformer). t.name) in
    let line = of_place (λ p. p < 0 + length lines) (IsNamedOf case) (λ p. items.Line p) (place_in lines q) (λ p h. omega arith) (place_below 0 lines q) in
    let transformer = of_place (λ p. p < 0 + length transformers) (IsNamedOf case) (λ p. items.Transformer p) (place_in transformers q) (λ p h. omega arith) (place_below 0 transformers q) in
    let substation = of_place (λ p. p < 0 + length substations) (IsNamedOf case) (λ p. items.Ground p) (place_in substations q) (λ p h. tt) (place_below 0 substations q) in
    of_either (IsNamedOf case) (option_map items.Line (place_in lines q)) (option_or (option_map items.Transformer (place_in transformers q)) (option_map items.Ground (place_in substations q)))
    line (of_either (IsNamedOf case) (option_map items.Transformer (place_in transformers q)) (option_map items.Ground (place_in substations q)) transformer substation)

if_true : (b : Bool) (item : Item) (P : Item → Type 0) → (b ≡ true → P item) → IfSome (cond b (Some item) None) P
if_true true item P h = h refl
if_true false item P h = tt

plain_within : (case : Lists) (item : Item) → IsNamedOf case item → IfSome (plain_item case item) (IsItemOf case)
plain_within case (items.Line place) h = h
plain_within case (items.Transformer place) h = h
plain_within case (items.Ground place) h = if_true (has_ground case place) (items.Ground place) (IsItemOf case) (λ is. is)
plain_within case (items.Neutral place) h = tt

neutral_within : (case : Lists) (item : Item) → IfSome (neutral_item case item) (IsItemOf case)
neutral_within case (items.Line place) = tt
neutral_within case (items.Transformer place) = if_true (has_resistor case place) (items.Neutral place) (IsItemOf case) (λ is. is)
neutral_within case (items.Ground place) = tt
neutral_within case (items.Neutral place) = tt

switched_within : (case : Lists) (action : Action) (item : Item) → IsNamedOf case item → IfSome (switched_item case action item) (IsItemOf case)
switched_within case Open item h = plain_within case item h
switched_within case Close item h = plain_within case item h
switched_within case Block item h = neutral_within case item
switched_within case Unblock item h = neutral_within case item

-- the item that an action switches is one of the case's
pub item_within : (case : Lists) (action : Action) (q : List ℕ) (item : Item) → named case q ≡ Some item → IfSome (switched_item case action item) (IsItemOf case)
item_within case action q item at = switched_within case action item (rw at at (named_within case q))
