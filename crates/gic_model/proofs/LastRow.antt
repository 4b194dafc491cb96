-- One more row at the end of a switching list.
use Rattle.std.proofs.Common.{◌≡◌, Bool, true, false, cond, not, List, [], ◌∷◌, ◌++◌, reverse, Option, Some, None, refl, ap, ◌∙◌}
use Rattle.std.specs.List.{find}
use Rattle.std.specs.Option.{option_map_or, option_or}
use Rattle.std.proofs.lemmas.List.Folds.{find-append}
use mathlib.Core.List.{reverse-append}
use Rattle.gic_model.specs.declared.parts.Item.{Item}
use Rattle.gic_model.specs.declared.parts.Switching.{Switching}
use Rattle.gic_model.specs.Standing.{is_item, stands_after}

some_row : (row : Switching) (same : Bool) (o : Option Switching) → option_map_or (λ r. not r.opens) (option_or (cond same (Some row) None) o) true ≡ cond same (not row.opens) (option_map_or (λ r. not r.opens) o true)
some_row row true o = refl
some_row row false o = refl

pub last_row : (rows : List Switching) (row : Switching) (item : Item) → stands_after (rows ++ row ∷ []) item ≡ cond (is_item row.item item) (not row.opens) (stands_after rows item)
last_row rows row item =
    ap (λ ys. option_map_or (λ r. not r.opens) (find (λ r. is_item r.item item) ys) true) (reverse-append rows (row ∷ [])) ∙
    ap (λ o. option_map_or (λ r. not r.opens) o true) (find-append (λ r. is_item r.item item) (row ∷ []) (reverse rows)) ∙
    some_row row (is_item row.item item) (find (λ r. is_item r.item item) (reverse rows))
