-- The text of the voltages along the lines determines them.
use Rattle.std.proofs.Common.{◌≡◌, List, [], ◌∷◌, ◌++◌, map, length, ℤ, FitsSigned, w32, w64, refl, arith}
use Rattle.std.specs.Prelude.{codes}
use Rattle.std.specs.Fmt.{signed_decimal}
use Rattle.std.specs.List.{AllByRecursion}
use Rattle.gic_text.specs.Words.{IsWord, IsLine}
use Rattle.gic_text.specs.Lines.{lines_text}
use Rattle.gic_text.proofs.Injective.{lines_injective}
use Rattle.gic_text.proofs.Words.{word_from_test, word_signed, signed_decimal_injective_wide}
use Rattle.gic_case.specs.declared.item.Line.{Line}
use Rattle.gic_report.specs.SharedLines.{word_line, field_line}
use Rattle.gic_report.proofs.WordsDetermined.{field_is_line, same_field_line}
use Rattle.gic_volts.specs.VoltsText.{volts_line, volts_lines, volts_report}

word_of_64 : (z : ℤ) → FitsSigned w64 z → IsWord (signed_decimal z)
word_of_64 z h = word_signed z (omega (arith, h.sfits))

same_64 : (y z : ℤ) → FitsSigned w64 y → FitsSigned w64 z → signed_decimal y ≡ signed_decimal z → y ≡ z
same_64 y z h k e = signed_decimal_injective_wide y z (omega (arith, h.sfits)) (omega (arith, k.sfits)) e

-- the lines of the voltages and the last line are lines
are_volts_lines : (lines : List Line) (ns : List ℤ) → AllByRecursion IsWord (map (λ l. l.name) lines) → AllByRecursion (FitsSigned w64) ns →
    AllByRecursion IsLine (volts_lines lines ns ++ word_line (codes "end") ∷ [])
are_volts_lines [] ns names h = ((word_from_test (codes "end") refl, tt), tt)
are_volts_lines (l ∷ lines) [] names h = ((word_from_test (codes "end") refl, tt), tt)
are_volts_lines (l ∷ lines) (n ∷ ns) names h =
    ((word_from_test (codes "line") refl, (names.0, (word_of_64 n h.0, tt))), are_volts_lines lines ns names.1 h.1)

are_report_lines : (lines : List Line) (north east : ℤ) (ns : List ℤ) → AllByRecursion IsWord (map (λ l. l.name) lines) →
    FitsSigned w32 north → FitsSigned w32 east → AllByRecursion (FitsSigned w64) ns → AllByRecursion IsLine (volts_report lines north east ns)
are_report_lines lines north east ns names n e h = (
  (word_from_test (codes "volts") refl, tt),
  (
    field_is_line north east n e,
    are_volts_lines lines ns names h,
  ),
)

-- the lines of the voltages determine them
same_volts : (lines : List Line) (xs ys : List ℤ) → length xs ≡ length lines → length ys ≡ length lines →
    AllByRecursion (FitsSigned w64) xs → AllByRecursion (FitsSigned w64) ys →
    volts_lines lines xs ++ word_line (codes "end") ∷ [] ≡ volts_lines lines ys ++ word_line (codes "end") ∷ [] → xs ≡ ys
same_volts [] [] [] p q h k e = refl
same_volts [] [] (y ∷ ys) p q h k e = absurd (omega arith)
same_volts [] (x ∷ xs) ys p q h k e = absurd (omega arith)
same_volts (l ∷ lines) [] ys p q h k e = absurd (omega arith)
same_volts (l ∷ lines) (x ∷ xs) [] p q h k e = absurd (omega arith)
same_volts (l ∷ lines) (x ∷ xs) (y ∷ ys) p q h k e =
    let both : volts_line l.name x ∷ (volts_lines lines xs ++ word_line (codes "end") ∷ []) ≡ volts_line l.name y ∷ (volts_lines lines ys ++ word_line (codes "end") ∷ []) = e in
    let number : signed_decimal x ≡ signed_decimal y = cc in
    let here = same_64 x y h.0 k.0 number in
    let later : volts_lines lines xs ++ word_line (codes "end") ∷ [] ≡ volts_lines lines ys ++ word_line (codes "end") ∷ [] = cc in
    let rest = same_volts lines xs ys (omega arith) (omega arith) h.1 k.1 later in
    cc

-- the text of the report determines its field and its voltages
pub volts_determined : (lines : List Line) (north east : ℤ) (xs : List ℤ) (north' east' : ℤ) (ys : List ℤ) → AllByRecursion IsWord (map (λ l. l.name) lines) →
    length xs ≡ length lines → length ys ≡ length lines →
    FitsSigned w32 north → FitsSigned w32 east → AllByRecursion (FitsSigned w64) xs → FitsSigned w32 north' → FitsSigned w32 east' → AllByRecursion (FitsSigned w64) ys →
    lines_text (volts_report lines north east xs) ≡ lines_text (volts_report lines north' east' ys) → (north ≡ north') × (east ≡ east') × (xs ≡ ys)
volts_determined lines north east xs north' east' ys names p q n e h n' e' k s =
    let words = lines_injective (volts_report lines north east xs) (volts_report lines north' east' ys)
    (are_report_lines lines north east xs names n e h) (are_report_lines lines north' east' ys names n' e' k) s in
    let both : word_line (codes "volts") ∷ field_line north east ∷ (volts_lines lines xs ++ word_line (codes "end") ∷ [])
    ≡ word_line (codes "volts") ∷ field_line north' east' ∷ (volts_lines lines ys ++ word_line (codes "end") ∷ []) = words in
    let head : field_line north east ≡ field_line north' east' = cc in
    let later : volts_lines lines xs ++ word_line (codes "end") ∷ [] ≡ volts_lines lines ys ++ word_line (codes "end") ∷ [] = cc in
    let parts = same_field_line north east north' east' n e n' e' head in
    (parts.0, parts.1, same_volts lines xs ys p q h k later)
