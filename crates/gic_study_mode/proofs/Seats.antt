-- The earthings, one substation after another, are those of the element list.
use Rattle.std.proofs.Common.{◌≡◌, ◌∙◌, ℕ, ◌+◌, Some, None, List, [], ◌∷◌, ◌++◌, map, drop, refl, sym, ap, ap₂}
use Rattle.std.proofs.lemmas.List.{get_or-map}
use Rattle.std.specs.Prelude.{is_some, if◌then◌else◌}
use Rattle.std.specs.List.{enumerate_from, flat_map}
use Rattle.gic_case.specs.Lists.{Lists}
use Rattle.gic_case.specs.declared.item.Substation.{Substation}
use Rattle.gic_model.specs.declared.parts.Item.TheVariants as item
use Rattle.gic_winding.specs.ElementList.{earthing_of, item_name}
use Rattle.gic_report.proofs.ListParts.{drop_first}
use Rattle.gic_study_mode.specs.Roster.{seat_at, seats_of}
use Rattle.gic_study_mode.specs.Seats.{seats_from}

-- the seats of the substations from a place on
seats_on : (case : Lists) (n element : ℕ) (rest : List Substation) → drop n case.substations ≡ rest →
    seats_from element rest ≡ map (λ p. seat_at case p.0 p.1) (enumerate_from element (flat_map (λ p. earthing_of p.0 p.1.ground) (enumerate_from n rest)))
seats_on case n element [] e = refl
seats_on case n element (s ∷ rest) e =
    let first = drop_first case.substations n s rest e in
    let named : item_name case (item.Ground n) ≡ s.name = get_or-map (λ s. s.name) case.substations n s [] first.0 ∙ ap (λ s. s.name) (first.1 s) in
    elim s.ground as (λ g. (if is_some g then record { name = s.name; element = record { 0 = element } } ∷ seats_from (element + 1) rest else seats_from element rest)
    ≡ map (λ p. seat_at case p.0 p.1) (enumerate_from element (earthing_of n g ++ flat_map (λ p. earthing_of p.0 p.1.ground) (enumerate_from (n + 1) rest)))) [
      | None ↦ seats_on case (n + 1) element rest first.2
      | Some ohm ↦ ap₂ (λ w l. record { name = w; element = record { 0 = element } } ∷ l) (sym named) (seats_on case (n + 1) (element + 1) rest first.2)
    ]

-- the seats of all substations are those of the case
pub all_seats : (case : Lists) → seats_from 0 case.substations ≡ seats_of case
all_seats case = seats_on case 0 0 case.substations refl
