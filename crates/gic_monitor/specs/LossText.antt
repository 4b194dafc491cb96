-- What a monitor of reactive loss prints.
use Rattle.std.specs.Prelude.{ℕ, ◌*◌, ◌/◌, ◌^◌, ℤ, pos, ◌*ℤ◌, nat_eq, int_le, List, [], ◌∷◌, map, fold, find, codes, Option, None, Some, option_map, unwrap_or}
use Rattle.std.specs.Cmp.Lexicographic.{pointwise}
use Rattle.std.specs.Int.{int_min, int_max}
use Rattle.std.specs.List.{enumerate_from}
use Rattle.std.specs.Fmt.{signed_decimal}
use Rattle.gic_fixed.specs.Ends.{Ends}
use Rattle.gic_fixed.specs.Rounding.{least_abs, greatest_abs}
use Rattle.gic_fixed.specs.Sums.{sum_of}
use Rattle.gic_text.specs.Lines.{line_text}
use Rattle.gic_view.specs.View.{View, effective_at}
use Rattle.gic_monitor.specs.declared.roster.Rated.{Rated}
use Rattle.gic_monitor.specs.RosterView.{RosterView}
use Rattle.gic_monitor.specs.declared.loss.table_loss.NamedFactor.{NamedFactor}

-- no absolute effective current counts as more than this, in mA per phase
abbrev pub most_counted_current : ℕ
most_counted_current = 2 ^ 70

-- the absolute interval of a current, each end cut to this
abbrev pub counted_current : Ends → Ends
counted_current current = record {
  low = int_min (least_abs current.low current.high) (pos most_counted_current);
  high = int_min (greatest_abs current.low current.high) (pos most_counted_current);
}

-- what the unit at this place of a view draws with this factor, in milli-var
abbrev pub unit_loss : View → (ℕ × ℕ) → Ends
unit_loss view (unit, factor) = record {
  low = pos factor *ℤ (counted_current (effective_at view unit)).low;
  high = pos factor *ℤ (counted_current (effective_at view unit)).high;
}

-- what the units with these factors draw in all at least, and at most
abbrev pub least_loss : (factors : List ℕ) → View → ℤ
least_loss factors view = sum_of (λ unit. (unit_loss view unit).low) (enumerate_from 0 factors)

abbrev pub most_loss : (factors : List ℕ) → View → ℤ
most_loss factors view = sum_of (λ unit. (unit_loss view unit).high) (enumerate_from 0 factors)

-- the number of a view, and its total in milli-var
pub record Total : Type 0 where
  pub number : ℕ
  pub low : ℤ
  pub high : ℤ

-- those of this view
abbrev pub loss_total_of : (factors : List ℕ) → View → Total
loss_total_of factors view = record { number = view.number; low = least_loss factors view; high = most_loss factors view }

-- the number of the first total whose high end is as great as this
abbrev pub first_reaching : (high : ℤ) → List Total → ℕ
first_reaching high totals = unwrap_or (option_map (λ total. total.number) (find (λ total. int_le high total.high) totals)) 0

-- the greatest low end of some totals, their greatest high end, and the number of the first that has it
abbrev pub greatest_among : Total → List Total → Total
greatest_among first others =
    let high = fold int_max first.high (map (λ total. total.high) others) in
    record { number = first_reaching high (first ∷ others); low = fold int_max first.low (map (λ total. total.low) others); high = high }

-- the same, where there is a total
abbrev pub greatest_of : List Total → Option Total
greatest_of [] = None
greatest_of (first ∷ others) = Some (greatest_among first others)

-- the line that begins with this word
abbrev pub loss_line : (word : List ℕ) → Option Total → List (List ℕ)
loss_line word None = word ∷ codes "none" ∷ []
loss_line word (Some total) =
    word ∷ signed_decimal total.low ∷ signed_decimal total.high ∷ codes "step" ∷ signed_decimal (pos total.number) ∷ []

-- the line of units with these factors over these views
abbrev pub loss_text : (word : List ℕ) → (factors : List ℕ) → List View → List ℕ
loss_text word factors views = line_text (loss_line word (greatest_of (map (loss_total_of factors) views)))

-- the factor of a unit by its rated voltage: the scale for each whole kilovolt, in var per ampere
abbrev pub volt_factor : (scale : ℕ) → Rated → ℕ
volt_factor scale unit = (unit.high_volts / 1000) * scale

-- the factor of a unit by a table: that of the first entry with its name, 0 where there is none
abbrev pub table_factor : List NamedFactor → Rated → ℕ
table_factor table unit =
    unwrap_or (option_map (λ entry. entry.factor) (find (λ entry. pointwise nat_eq entry.name unit.name) table)) 0

-- the factors of a roster's units, in order
abbrev pub volt_factors : (scale : ℕ) → RosterView → List ℕ
volt_factors scale roster = map (volt_factor scale) roster.units

abbrev pub table_factors : List NamedFactor → RosterView → List ℕ
table_factors table roster = map (table_factor table) roster.units

-- what a monitor of losses by rated voltages prints, and one of losses by a table
abbrev pub volt_text : (scale : ℕ) → RosterView → List View → List ℕ
volt_text scale roster views = loss_text (codes "loss") (volt_factors scale roster) views

abbrev pub table_text : List NamedFactor → RosterView → List View → List ℕ
table_text table roster views = loss_text (codes "table") (table_factors table roster) views
