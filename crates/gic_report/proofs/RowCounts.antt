-- The rows of a case that show an interval are as many as its elements, and each row is named by words.
use Rattle.std.proofs.Common.{◌≡◌, ◌∙◌, ℕ, suc, Bool, true, false, not, Option, Some, None, List, [], ◌∷◌, ◌++◌, map, length, refl, sym, ap}
use Rattle.std.proofs.lemmas.List.{length-map}
use Rattle.std.specs.Prelude.{codes, if◌then◌else◌}
use Rattle.std.specs.List.{AllByRecursion, filter}
use Rattle.gic_base.proofs.Each.{all_joined}
use Rattle.gic_text.specs.Words.{IsLine, IsWord}
use Rattle.gic_text.proofs.Words.{word_from_test}
use Rattle.gic_model.specs.declared.parts.Role.{Role}
use Rattle.gic_model.specs.declared.parts.Role.TheVariants as role
use Rattle.gic_case.specs.declared.item.Line.{Line}
use Rattle.gic_case.specs.declared.winding.WindingRole.{WindingRole}
use Rattle.gic_case.specs.declared.winding.WindingRole.TheVariants as roles
use Rattle.gic_case.specs.declared.winding.Winding.{Winding}
use Rattle.gic_case.specs.Windings.{windings_of}
use Rattle.gic_winding.specs.ElementList.{role_of}
use Rattle.gic_case.specs.declared.item.Neutral.{Neutral}
use Rattle.gic_case.specs.declared.item.Neutral.TheVariants as devices
use Rattle.gic_case.specs.declared.item.Substation.{Substation}
use Rattle.gic_case.specs.declared.item.Transformer.{Transformer}
use Rattle.gic_case.specs.Lists.{Lists}
use Rattle.gic_winding.specs.ElementList.{elements_of}
use Rattle.gic_report.specs.declared.rows.ItemRow.{ItemRow}
use Rattle.gic_report.specs.Fits.{HasNames}
use Rattle.gic_report.specs.RoleWord.{role_word}
use Rattle.gic_report.specs.ItemText.{all_ground_rows, all_line_rows, all_neutral_rows, all_winding_rows, ground_rows, neutral_rows, item_row_words, item_row_of, item_rows_of, winding_rows}
use Rattle.gic_report.specs.Places.{element_words}
use Rattle.gic_report.proofs.CaseNames.{line_names, substation_names, transformer_names}
use Rattle.gic_report.proofs.RowHeads.{elements_named, heads}

-- one more where the row isn't blocked
abbrev pub shown : Bool → ℕ → ℕ
shown true n = n
shown false n = suc n

-- the rows that show an interval
abbrev pub shows : List ItemRow → ℕ
shows [] = 0
shows (row ∷ rows) = shown row.blocked (shows rows)

count_heads : (rows : List ItemRow) → length (heads rows) ≡ shows rows
count_heads [] = refl
count_heads (row ∷ rows) =
    elim row.blocked as (λ b. length (map item_row_words (if not b then row ∷ filter (λ r. not r.blocked) rows else filter (λ r. not r.blocked) rows)) ≡ shown b (shows rows))
    [ true ↦ count_heads rows | false ↦ ap suc (count_heads rows) ]

-- the elements of a case are as many as its rows that show an interval
pub element_count : (c : Lists) → length (elements_of c).list ≡ shows (item_rows_of c)
element_count c = sym (length-map (elements_of c).list (element_words c)) ∙ ap length (elements_named c) ∙ count_heads (item_rows_of c)

-- ---- named by words

-- the words that name the row begin a line
abbrev pub HasLine : ItemRow → Type 0
HasLine row = IsLine (item_row_words row)

two_words : (word name : List ℕ) → IsWord word → IsWord name → IsLine (word ∷ name ∷ [])
two_words word name h k = (h, (k, tt))

ground_named : (name : List ℕ) (ground : Option ℕ) → IsWord name → AllByRecursion HasLine (ground_rows name ground)
ground_named name None h = tt
ground_named name (Some ohm) h = (two_words (codes "ground") name (word_from_test (codes "ground") refl) h, tt)

grounds_named : (ss : List Substation) → AllByRecursion IsWord (map (λ s. s.name) ss) → AllByRecursion HasLine (all_ground_rows ss)
grounds_named [] h = tt
grounds_named (s ∷ ss) h = all_joined HasLine (ground_rows s.name s.ground) (all_ground_rows ss) (ground_named s.name s.ground h.0) (grounds_named ss h.1)

lines_named : (ls : List Line) → AllByRecursion IsWord (map (λ l. l.name) ls) → AllByRecursion HasLine (all_line_rows ls)
lines_named [] h = tt
lines_named (l ∷ ls) h = (two_words (codes "line") l.name (word_from_test (codes "line") refl) h.0, lines_named ls h.1)

role_is_word : (kept : Role) → IsWord (role_word kept)
role_is_word role.Ground = word_from_test (codes "ground") refl
role_is_word role.Line = word_from_test (codes "line") refl
role_is_word role.High = word_from_test (codes "high") refl
role_is_word role.Low = word_from_test (codes "low") refl
role_is_word role.Series = word_from_test (codes "series") refl
role_is_word role.Common = word_from_test (codes "common") refl
role_is_word role.Third = word_from_test (codes "third") refl
role_is_word role.Neutral = word_from_test (codes "neutral") refl

winding_line : (name : List ℕ) (kept : Role) → IsWord name → IsLine (codes "winding" ∷ name ∷ role_word kept ∷ [])
winding_line name kept h = (word_from_test (codes "winding") refl, (h, (role_is_word kept, tt)))

row_named : (name : List ℕ) (r : WindingRole) → IsWord name → HasLine (item_row_of (role_of r) name false)
row_named name roles.High h = winding_line name role.High h
row_named name roles.Low h = winding_line name role.Low h
row_named name roles.Series h = winding_line name role.Series h
row_named name roles.Common h = winding_line name role.Common h
row_named name roles.Third h = winding_line name role.Third h

winding_named : (name : List ℕ) (ws : List Winding) → IsWord name → AllByRecursion HasLine (winding_rows name ws)
winding_named name [] h = tt
winding_named name (w ∷ ws) h = (row_named name w.role h, winding_named name ws h)

windings_named : (ts : List Transformer) → AllByRecursion IsWord (map (λ t. t.name) ts) → AllByRecursion HasLine (all_winding_rows ts)
windings_named [] h = tt
windings_named (t ∷ ts) h = all_joined HasLine (winding_rows t.name (windings_of t)) (all_winding_rows ts) (winding_named t.name (windings_of t) h.0) (windings_named ts h.1)

neutral_named : (name : List ℕ) (device : Option Neutral) → IsWord name → AllByRecursion HasLine (neutral_rows name device)
neutral_named name None h = tt
neutral_named name (Some (devices.Resistor ohm)) h = (two_words (codes "neutral") name (word_from_test (codes "neutral") refl) h, tt)
neutral_named name (Some devices.Blocked) h = (two_words (codes "neutral") name (word_from_test (codes "neutral") refl) h, tt)

neutrals_named : (ts : List Transformer) → AllByRecursion IsWord (map (λ t. t.name) ts) → AllByRecursion HasLine (all_neutral_rows ts)
neutrals_named [] h = tt
neutrals_named (t ∷ ts) h = all_joined HasLine (neutral_rows t.name t.neutral) (all_neutral_rows ts) (neutral_named t.name t.neutral h.0) (neutrals_named ts h.1)

-- the rows of a case are named by words
pub rows_named : (c : Lists) → HasNames c → AllByRecursion HasLine (item_rows_of c)
rows_named c h =
    all_joined HasLine (all_ground_rows c.substations) (all_line_rows c.lines ++ (all_winding_rows c.transformers ++ all_neutral_rows c.transformers)) (grounds_named c.substations (substation_names c h))
    (all_joined HasLine (all_line_rows c.lines) (all_winding_rows c.transformers ++ all_neutral_rows c.transformers) (lines_named c.lines (line_names c h))
    (all_joined HasLine (all_winding_rows c.transformers) (all_neutral_rows c.transformers) (windings_named c.transformers (transformer_names c h)) (neutrals_named c.transformers (transformer_names c h))))
