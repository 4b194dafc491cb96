-- Greatest intervals, raised one by one.
use Rattle.std.proofs.Common.{◌≡◌, ◌≢◌, ℕ, ◌+◌, ◌<◌, ◌≤◌, List, length, map, get_or, set, Option, None, Some, option_map, refl, sym, ap, ◌∙◌, arith, below_more}
use Rattle.std.proofs.lemmas.List.{length-set, get_or-set_same, get_or-set_other}
use Rattle.std.proofs.lemmas.Option.{slice_get-map, slice_get_read}
use Rattle.std.specs.Prelude.{slice_get}
use Rattle.gic_fixed.specs.Ends.{Ends, ends_of}
use Rattle.gic_view.specs.Peaks.{greater}
use Rattle.gic_worst.specs.declared.rows.ScreenRow.{ScreenRow}
use Rattle.gic_worst.specs.Rows.{ScreenRowView, screen_row_of}
use Rattle.gic_outage.specs.Outages.{greatest_at}
use Rattle.gic_outage.specs.Taking.{worsts_in}

-- the worst interval of the row at a place
pub row_shown : (rows : List ScreenRow) (row : ScreenRow) (place : ℕ) → place < length rows → row ≡ get_or rows place row → slice_get (worsts_in (map screen_row_of rows)) place ≡ Some (ends_of row.worst)
row_shown rows row place within is =
    let worst : ScreenRowView → Ends = λ row. row.worst in
    slice_get-map worst (map screen_row_of rows) place ∙ ap (option_map worst) (slice_get-map screen_row_of rows place ∙ ap (option_map screen_row_of) (slice_get_read rows (length rows) place row refl within is))

-- the first n intervals are raised, and the others are as they were
pub record AreRaisedBelow (worsts : List Ends) (place : ℕ) (old now : List (Option Ends)) : Type 0 where
  pub count : length now ≡ length old
  pub each : (t : ℕ) → t < place → greatest_at now t ≡ greater (greatest_at old t) (slice_get worsts t)
  pub others : (t : ℕ) → place ≤ t → greatest_at now t ≡ greatest_at old t

pub none_raised : (worsts : List Ends) (old : List (Option Ends)) → AreRaisedBelow worsts 0 old old
none_raised worsts old = record { count = refl; each = λ t below. absurd (omega (arith, below)); others = λ t past. refl }

pub one_raised : (worsts : List Ends) (place : ℕ) (old now : List (Option Ends)) (worst : Ends) → place < length now → slice_get worsts place ≡ Some worst → AreRaisedBelow worsts place old now →
    AreRaisedBelow worsts (place + 1) old (set now place (greater (greatest_at now place) (Some worst)))
one_raised worsts place old now worst within shown before =
    let cell = greater (greatest_at now place) (Some worst) in
    record {
      count = length-set now place cell ∙ before.count;
      each = below_more _ _
          (λ t below. let other : t ≢ place = omega (arith, below) in get_or-set_other now place t cell None other ∙ before.each t below)
          (get_or-set_same now place cell None within ∙ ap (λ c. greater c (Some worst)) (before.others place (omega arith)) ∙ ap (greater (greatest_at old place)) (sym shown));
      others = λ t past. let other : t ≢ place = omega (arith, past) in get_or-set_other now place t cell None other ∙ before.others t (omega (arith, past));
    }
