-- Zones and monitors that are left.
use Rattle.std.proofs.Common.{◌≡◌, ◌∙◌, ℕ, ◌+◌, ◌<◌, suc, ℤ, List, ◌∷◌, ◌++◌, map, length, drop, get_or, sym, ap, arith, add-one, drop-cons}
use Rattle.gic_case.specs.ZoneView.{ZoneView}
use Rattle.gic_induce.specs.Fields.{zone_field, no_field}
use Rattle.gic_text.specs.Lines.{line_text, lines_text}
use Rattle.gic_study_text.specs.StudyText.{zone_line, zone_lines, monitor_text, monitor_texts}

-- what is left of the zones begins with the line of the next
pub next_zone : (zones : List ZoneView) (fields : List (ℤ × ℤ)) (i : ℕ) (zone : ZoneView) (name : List ℕ) → i < length zones → length fields ≡ length zones
    → name ≡ zone.name → zone ≡ get_or zones i zone
    → lines_text (zone_lines (drop i zones) (drop i fields)) ≡ line_text (zone_line name (zone_field fields i)) ++ lines_text (zone_lines (drop (i + 1) zones) (drop (i + 1) fields))
next_zone zones fields i zone name h same named is =
    ap (λ zs. lines_text (zone_lines zs (drop i fields))) (drop-cons zones i zone h)
    ∙ ap (λ fs. lines_text (zone_lines (get_or zones i zone ∷ drop (suc i) zones) fs)) (drop-cons fields i no_field (omega (arith, h, same)))
    ∙ ap (λ n. line_text (zone_line n (zone_field fields i)) ++ lines_text (zone_lines (drop (suc i) zones) (drop (suc i) fields))) (sym (named ∙ ap (λ z. z.name) is))
    ∙ ap (λ k. line_text (zone_line name (zone_field fields i)) ++ lines_text (zone_lines (drop k zones) (drop k fields))) (sym (add-one i))

-- what is left of the monitors begins with the text of the next
pub next_monitor : {A : Type 0} (bytes : A → List ℕ) (texts : List A) (i : ℕ) (text : A) (shown : List ℕ) → i < length texts → shown ≡ bytes text → text ≡ get_or texts i text
    → monitor_texts (i + 1) (map bytes (drop i texts)) ≡ monitor_text (i + 1) shown ++ monitor_texts (i + 1 + 1) (map bytes (drop (i + 1) texts))
next_monitor bytes texts i text shown h same is =
    ap (λ ts. monitor_texts (i + 1) (map bytes ts)) (drop-cons texts i text h)
    ∙ ap (λ t. monitor_text (i + 1) t ++ monitor_texts (i + 1 + 1) (map bytes (drop (suc i) texts))) (sym (same ∙ ap bytes is))
    ∙ ap (λ k. monitor_text (i + 1) shown ++ monitor_texts (i + 1 + 1) (map bytes (drop k texts))) (sym (add-one i))
