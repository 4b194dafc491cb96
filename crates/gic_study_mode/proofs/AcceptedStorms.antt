-- An accepted storm has a step.
use Rattle.std.proofs.Common.{◌≡◌, ℕ, ◌≤◌, List, [], ◌∷◌, length, Option, Some, None, arith, subst}
use Rattle.gic_base.proofs.RefusalLaws.{none_settled}
use Rattle.gic_storm.specs.Rules.{broken_after, storm_refusals, rows_after, storm_in, storm_of}
use Rattle.gic_storm.specs.StormView.{StormView}
use Rattle.gic_storm.specs.Columns.{storm_form_of}
use Rattle.gic_storm.proofs.Cuts.{some_step}
use Rattle.gic_study_mode.specs.Follows.{AcceptedStormsHaveSteps}

-- over plain lists: what is refused without a form, and has a row with one
with_form : {F E R : Type 0} (refusals : Option F → List E) (rows : Option F → List R) → (refusals None ≡ [] → ⊥) → ((form : F) → refusals (Some form) ≡ [] → 1 ≤ length (rows (Some form)))
    → (form : Option F) → refusals form ≡ [] → 1 ≤ length (rows form)
with_form refusals rows without given None none = absurd (without none)
with_form refusals rows without given (Some form) none = given form none

-- a record follows the first where no rule is broken
some_row : (zones : List (List ℕ)) (records : List (List (List ℕ))) → storm_refusals zones records ≡ [] → 1 ≤ length (storm_in zones records).rows
some_row zones [] none = cc
some_row zones (first ∷ []) none = with_form (λ form. broken_after form zones []) (λ form. rows_after form zones []) (λ refused. cc) (λ form refused. cc) (storm_form_of first) none
some_row zones (first ∷ (columns ∷ records)) none =
    with_form (λ form. broken_after form zones (columns ∷ records)) (λ form. rows_after form zones (columns ∷ records)) (λ refused. cc) (λ form kept. omega arith) (storm_form_of first) none

pub accepted_steps : AcceptedStormsHaveSteps
unfolding storm_of
accepted_steps zones bytes storm accepted =
    let settled = none_settled _ _ storm accepted in
    some_step storm.rows (subst (λ (s : StormView). 1 ≤ length s.rows) settled.1 (some_row zones _ settled.0))
