-- Fields within their limits induce voltages within theirs.
use Rattle.std.proofs.Common.{◌≡◌, ℕ, ◌+◌, ◌*◌, ◌<◌, ◌≤◌, List, [], ◌∷◌, length, ℤ, pos, unsigned_abs, Option, Some, None, arith, refl, sym, subst, inl, inr}
use Rattle.std.specs.Prelude.{All}
use Rattle.std.specs.List.{AllByRecursion}
use Rattle.std.specs.Option.{option_map_or}
use Rattle.std.proofs.Math.Nat.{mul-le-mul}
use Rattle.std.proofs.lemmas.Bool.{cases_lt}
use Rattle.std.proofs.lemmas.Int.{ints}
use Rattle.std.proofs.lemmas.List.{get_or_past}
use Rattle.std.proofs.lemmas.List.Sums.{sum_by-cons}
use Rattle.std.proofs.lemmas.List.Elements.{All-get_or, All-map, All-nil, All-cons, All-weaker, recursion_from_All}
use Rattle.gic_fixed.specs.Sums.{sum_of}
use Rattle.gic_case.specs.Lists.{Lists}
use Rattle.gic_case.specs.Courses.{parts_of, north_way, east_way}
use Rattle.gic_case.specs.Sound.{IsSound, IsSoundLine}
use Rattle.gic_case.specs.declared.item.Line.{Line}
use Rattle.gic_case.specs.declared.part.LinePart.{LinePart}
use Rattle.gic_induce.specs.Fields.{IsField, no_field, zone_field}
use Rattle.gic_induce.specs.LineVolts.{no_zone, zone_among, part_volts, line_volts, all_line_volts, volts_of_item, volts_of}
use Rattle.gic_induce.proofs.Parts.{part_few}
use Rattle.gic_model.specs.declared.parts.Element.{Element}
use Rattle.gic_model.specs.declared.parts.Item.{Item}
use Rattle.gic_model.specs.declared.parts.Item.TheVariants as items
use Rattle.gic_model.specs.Limits.{AreVolts, most_volts}
use Rattle.gic_model.specs.Voltages.{number_at}
use Rattle.gic_case.specs.Alpha.{latitude_row, alpha_of}
use Rattle.gic_case.specs.declared.scaling.Scaling.{Scaling}
use Rattle.gic_case.specs.declared.scaling.Scaling.TheVariants as scalings
use Rattle.gic_case.specs.ZoneView.{ZoneView, IsScaling, IsZone, factor_by, factor_of}
use Rattle.gic_case.proofs.Table.{row_tenths}

-- a number of a list whose numbers are all within this
numbers_few : (m : ℕ) (zs : List ℤ) → All (λ z. unsigned_abs z ≤ m) zs → (place : ℕ) → unsigned_abs (number_at zs place) ≤ m
numbers_few m zs all place =
    elim (cases_lt place (length zs)) [
      | inl within ↦ All-get_or (λ z. unsigned_abs z ≤ m) zs place (pos 0) within all
      | inr past ↦ subst (λ z. unsigned_abs z ≤ m) (sym (get_or_past zs place (pos 0) past)) (omega arith)
    ]

alpha_few : (latitude : ℕ) → alpha_of latitude ≤ 10
alpha_few latitude =
    elim (latitude_row latitude) as (λ (o : Option (ℕ × ℕ)). latitude_row latitude ≡ o → option_map_or (λ row. row.1) o 10 ≤ 10) [
      | None ↦ λ e. omega arith
      | Some row ↦ λ e. (row_tenths latitude row e).most
    ] refl

factor_few : (zone : ZoneView) → IsZone zone → factor_of zone ≤ 1500
factor_few zone kept = by_scaling zone.scaling kept
  where
    by_scaling : (scaling : Scaling) → IsScaling scaling → factor_by scaling ≤ 1500
    by_scaling (scalings.Earth latitude beta) h = mul-le-mul (alpha_few latitude) h.2
    by_scaling (scalings.Factor thousandths) h = h.1

-- the parts of a line, in fields of the zones
module _ (zones : List ZoneView) (fields : List (ℤ × ℤ)) (kept : All IsZone zones) (same : length fields ≡ length zones) (within : All IsField fields) where
  of_parts : (parts : List LinePart) → AllByRecursion (λ (p : LinePart). p.zone < length zones) parts →
      unsigned_abs (sum_of (part_volts zones fields) parts) ≤ 30000000 * (north_way parts + east_way parts)
  of_parts [] all = omega arith
  of_parts (part ∷ parts) all =
      let zone = All-get_or IsZone zones part.zone no_zone all.0 kept in
      let field = All-get_or IsField fields part.zone no_field (subst (λ n. part.zone < n) (sym same) all.0) within in
      let here = part_few part (zone_among zones part.zone) (zone_field fields part.zone).0 (zone_field fields part.zone).1 field.0 field.1 (factor_few (zone_among zones part.zone) zone) in
      let rest = of_parts parts all.1 in
      let north = sum_by-cons (λ (p : LinePart). unsigned_abs p.north) part parts in
      let east = sum_by-cons (λ (p : LinePart). unsigned_abs p.east) part parts in
      omega (arith, ints, here, rest, north, east)

module _ (case : Lists) (fields : List (ℤ × ℤ)) (sound : IsSound case) (zones : length fields ≡ length case.zones) (within : All IsField fields) where
  of_line : (line : Line) → IsSoundLine case line → unsigned_abs (line_volts case.zones fields line) ≤ most_volts
  of_line line kept =
      let parts = of_parts case.zones fields sound.zones_sound zones within (parts_of line.course) (recursion_from_All (λ (p : LinePart). p.zone < length case.zones) (parts_of line.course) kept.zones_within) in
      omega (arith, parts, kept.north_within, kept.east_within)

  of_item : (item : Item) → unsigned_abs (volts_of_item case fields item) ≤ most_volts
  of_item (items.Line place) =
      numbers_few most_volts (all_line_volts case fields)
      (All-map (λ z. unsigned_abs z ≤ most_volts) (line_volts case.zones fields) case.lines (All-weaker (IsSoundLine case) (λ line. unsigned_abs (line_volts case.zones fields line) ≤ most_volts) of_line case.lines sound.lines_sound)) place
  of_item (items.Ground place) = omega arith
  of_item (items.Transformer place) = omega arith
  of_item (items.Neutral place) = omega arith

  each : (es : List Element) → All (λ (e : Element). unsigned_abs (volts_of_item case fields e.item) ≤ most_volts) es
  each [] = All-nil (λ (e : Element). unsigned_abs (volts_of_item case fields e.item) ≤ most_volts)
  each (e ∷ es) = All-cons (λ (e : Element). unsigned_abs (volts_of_item case fields e.item) ≤ most_volts) e es (of_item e.item) (each es)

  -- all voltages that they induce in any elements are
  pub field_volts : (elements : List Element) → AreVolts (number_at (volts_of case fields elements))
  field_volts elements =
      numbers_few most_volts (volts_of case fields elements)
      (All-map (λ z. unsigned_abs z ≤ most_volts) (λ (e : Element). volts_of_item case fields e.item) elements (each elements))
