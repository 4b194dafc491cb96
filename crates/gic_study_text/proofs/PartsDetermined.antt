-- What lines of zones and of the peaks of transformers determine, and how many lines there are.
use Rattle.std.proofs.Common.{◌≡◌, ◌∙◌, ℕ, suc, Option, List, [], ◌∷◌, ◌++◌, map, length, drop, get_or, ℤ, refl, ap, arith}
use Rattle.std.specs.Prelude.{codes}
use Rattle.std.specs.Fmt.{signed_decimal}
use Rattle.std.specs.List.{AllByRecursion}
use Rattle.gic_fixed.specs.Ends.{Ends}
use Rattle.gic_case.specs.ZoneView.{ZoneView}
use Rattle.gic_text.specs.Words.{IsWord, IsLine}
use Rattle.gic_text.proofs.Words.{word_from_test}
use Rattle.gic_case.specs.declared.item.Transformer.{Transformer}
use Rattle.gic_report.specs.SharedLines.{Words}
use Rattle.gic_report.specs.Fits.{AreInRange}
use Rattle.gic_report.specs.ItemText.{node_lines, per_transformer}
use Rattle.gic_report.specs.VerdictText.{absolute_line, absolute_lines, judged_line}
use Rattle.gic_report.proofs.ViewDetermined.{same_ends}
use Rattle.gic_report.proofs.WordsDetermined.{field_is_line, same_field_line}
use Rattle.gic_study_text.specs.StudyText.{zone_line, zone_lines}
use Rattle.gic_study_text.specs.Determines.{IsFieldInRange}

-- ---- how many lines

pub node_count : (names : List (List ℕ)) (cells : List (Option Ends)) → length (node_lines names cells) ≡ length names
node_count [] cells = refl
node_count (name ∷ names) cells = ap suc (node_count names (drop 1 cells))

pub transformer_count : (line : Transformer → Ends → Words) (ts : List Transformer) (cells : List Ends) → length (per_transformer line ts cells) ≡ length ts
transformer_count line [] cells = refl
transformer_count line (t ∷ ts) cells = ap suc (transformer_count line ts (drop 1 cells))

pub zone_count : (zones : List ZoneView) (fields : List (ℤ × ℤ)) → length fields ≡ length zones → length (zone_lines zones fields) ≡ length zones
zone_count [] fields h = refl
zone_count (zone ∷ zones) [] h = absurd (omega (arith, h))
zone_count (zone ∷ zones) (field ∷ fields) h = ap suc (zone_count zones fields (omega (arith, h)))

-- ---- zones

is_zone_line : (name : List ℕ) (field : ℤ × ℤ) → IsWord name → IsFieldInRange field → IsLine (zone_line name field)
is_zone_line name field w h = (word_from_test (codes "zone") refl, (w, field_is_line field.0 field.1 h.north_fits h.east_fits))

pub are_zones : (zones : List ZoneView) (fields : List (ℤ × ℤ)) (rest : List Words) → AllByRecursion IsWord (map (λ z. z.name) zones) → AllByRecursion IsFieldInRange fields
    → AllByRecursion IsLine rest → AllByRecursion IsLine (zone_lines zones fields ++ rest)
are_zones [] fields rest names h k = k
are_zones (zone ∷ zones) [] rest names h k = k
are_zones (zone ∷ zones) (field ∷ fields) rest names h k = (is_zone_line zone.name field names.0 h.0, are_zones zones fields rest names.1 h.1 k)

same_field : (name : List ℕ) (f g : ℤ × ℤ) → IsFieldInRange f → IsFieldInRange g → zone_line name f ≡ zone_line name g → f ≡ g
same_field name f g h k e =
    let parts = same_field_line f.0 f.1 g.0 g.1 h.north_fits h.east_fits k.north_fits k.east_fits (ap (drop 2) e) in
    let pair : ℤ → ℤ → ℤ × ℤ = λ n m. (n, m) in
    ap (λ n. pair n f.1) parts.0 ∙ ap (λ m. pair g.0 m) parts.1

pub same_zones : (zones : List ZoneView) (xs ys : List (ℤ × ℤ)) → length xs ≡ length zones → length ys ≡ length zones → AllByRecursion IsFieldInRange xs → AllByRecursion IsFieldInRange ys
    → zone_lines zones xs ≡ zone_lines zones ys → xs ≡ ys
same_zones [] [] [] p q h k e = refl
same_zones [] [] (y ∷ ys) p q h k e = absurd (omega (arith, q))
same_zones [] (x ∷ xs) ys p q h k e = absurd (omega (arith, p))
same_zones (zone ∷ zones) [] ys p q h k e = absurd (omega (arith, p))
same_zones (zone ∷ zones) (x ∷ xs) [] p q h k e = absurd (omega (arith, q))
same_zones (zone ∷ zones) (x ∷ xs) (y ∷ ys) p q h k e =
    let both : zone_line zone.name x ∷ zone_lines zones xs ≡ zone_line zone.name y ∷ zone_lines zones ys = e in
    let line : zone_line zone.name x ≡ zone_line zone.name y = cc in
    let later : zone_lines zones xs ≡ zone_lines zones ys = cc in
    let here : x ≡ y = same_field zone.name x y h.0 k.0 line in
    let more = same_zones zones xs ys (omega (arith, p)) (omega (arith, q)) h.1 k.1 later in
    ap (λ z. z ∷ xs) here ∙ ap (λ zs. y ∷ zs) more

-- ---- the peaks of transformers

judged_ends : (threshold threshold' : ℕ) (t : Transformer) (x y : Ends) → absolute_line threshold t x ≡ absolute_line threshold' t y
    → signed_decimal x.low ∷ signed_decimal x.high ∷ [] ≡ signed_decimal y.low ∷ signed_decimal y.high ∷ []
unfolding judged_line
judged_ends threshold threshold' t x y e = ap (λ ws. get_or ws 2 [] ∷ get_or ws 3 [] ∷ []) e

pub same_peaks : (threshold threshold' : ℕ) (ts : List Transformer) (xs ys : List Ends) → length xs ≡ length ts → length ys ≡ length ts → AllByRecursion AreInRange xs → AllByRecursion AreInRange ys
    → absolute_lines threshold ts xs ≡ absolute_lines threshold' ts ys → xs ≡ ys
same_peaks threshold threshold' [] [] [] p q h k e = refl
same_peaks threshold threshold' [] [] (y ∷ ys) p q h k e = absurd (omega (arith, q))
same_peaks threshold threshold' [] (x ∷ xs) ys p q h k e = absurd (omega (arith, p))
same_peaks threshold threshold' (t ∷ ts) [] ys p q h k e = absurd (omega (arith, p))
same_peaks threshold threshold' (t ∷ ts) (x ∷ xs) [] p q h k e = absurd (omega (arith, q))
same_peaks threshold threshold' (t ∷ ts) (x ∷ xs) (y ∷ ys) p q h k e =
    let both : absolute_line threshold t x ∷ absolute_lines threshold ts xs ≡ absolute_line threshold' t y ∷ absolute_lines threshold' ts ys = e in
    let line : absolute_line threshold t x ≡ absolute_line threshold' t y = cc in
    let later : absolute_lines threshold ts xs ≡ absolute_lines threshold' ts ys = cc in
    let here : x ≡ y = same_ends x y h.0 k.0 (judged_ends threshold threshold' t x y line) in
    let more = same_peaks threshold threshold' ts xs ys (omega (arith, p)) (omega (arith, q)) h.1 k.1 later in
    ap (λ z. z ∷ xs) here ∙ ap (λ zs. y ∷ zs) more
