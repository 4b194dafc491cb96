-- What lines of nodes, items, effective currents and verdicts determine: their intervals, where these are in range.
use Rattle.std.proofs.Common.{◌≡◌, ◌∙◌, ℕ, ◌<◌, ◌^◌, suc, Bool, true, false, Option, Some, None, List, [], ◌∷◌, ◌++◌, map, length, drop, ℤ, pos, negsuc, neg_ℤ, int_lt, cond, zero, FitsSigned, refl, ap, arith}
use Rattle.std.specs.Prelude.{codes, IfSome}
use Rattle.std.specs.Fmt.{signed_decimal}
use Rattle.std.specs.Int.{w128, int_max}
use Rattle.std.specs.List.{AllByRecursion}
use lib.Signed.{mag}
use Rattle.gic_base.proofs.Each.{all_joined}
use Rattle.gic_fixed.specs.Rounding.{least_abs, greatest_abs}
use Rattle.gic_fixed.specs.Ends.{Ends}
use Rattle.gic_text.specs.Words.{IsWord, IsLine}
use Rattle.gic_text.proofs.Words.{word_from_test, word_signed}
use Rattle.gic_case.specs.declared.item.Transformer.{Transformer}
use Rattle.gic_criteria.specs.declared.criterion.Verdict.{Verdict}
use Rattle.gic_report.specs.SharedLines.{Words}
use Rattle.gic_report.specs.declared.rows.ItemRow.{ItemRow}
use Rattle.gic_report.specs.Fits.{AreInRange}
use Rattle.gic_report.specs.ItemText.{cell_words, effective_line, effective_lines, left_behind, node_line, node_lines, per_transformer, row_lines, item_row_words, shown_words}
use Rattle.gic_report.specs.VerdictText.{absolute_line, judged_line, transformer_line, verdict_in, verdict_on}
use Rattle.gic_view.specs.Absolute.{absolute_ends}
use Rattle.gic_report.proofs.RowCounts.{HasLine, shown, shows}
use Rattle.gic_report.proofs.WordsDetermined.{same_128, verdict_is_word, word_of_128}

-- the interval's ends are in range, if there is one
abbrev pub CellInRange : Option Ends → Type 0
CellInRange cell = IfSome cell AreInRange

-- ---- words

pub ends_words : (e : Ends) → AreInRange e → AllByRecursion IsWord (signed_decimal e.low ∷ signed_decimal e.high ∷ [])
ends_words e h = (word_of_128 e.low h.low_fits, (word_of_128 e.high h.high_fits, tt))

are_cell_words : (absent : List ℕ) → IsWord absent → (cell : Option Ends) → CellInRange cell → AllByRecursion IsWord (cell_words absent cell)
are_cell_words absent w None h = (w, tt)
are_cell_words absent w (Some e) h = ends_words e h

pub same_ends : (e f : Ends) → AreInRange e → AreInRange f → signed_decimal e.low ∷ signed_decimal e.high ∷ [] ≡ signed_decimal f.low ∷ signed_decimal f.high ∷ [] → e ≡ f
same_ends e f h k same =
    let words : signed_decimal e.low ∷ signed_decimal e.high ∷ [] ≡ signed_decimal f.low ∷ signed_decimal f.high ∷ [] = same in
    let first : signed_decimal e.low ≡ signed_decimal f.low = cc in
    let second : signed_decimal e.high ≡ signed_decimal f.high = cc in
    let ends : ℤ → ℤ → Ends = λ l m. record { low = l; high = m } in
    ap (λ l. record { low = l; high = e.high }) (same_128 e.low f.low h.low_fits k.low_fits first)
    ∙ ap (λ m. record { low = f.low; high = m }) (same_128 e.high f.high h.high_fits k.high_fits second)

same_cell : (absent : List ℕ) (x y : Option Ends) → CellInRange x → CellInRange y → cell_words absent x ≡ cell_words absent y → x ≡ y
same_cell absent None None h k e = refl
same_cell absent None (Some f) h k e = absurd (let n : ◌≡◌ {A = ℕ} 1 2 = ap length e in omega (arith, n))
same_cell absent (Some f) None h k e = absurd (let n : ◌≡◌ {A = ℕ} 2 1 = ap length e in omega (arith, n))
same_cell absent (Some f) (Some g) h k e = ap (λ x. Some x) (same_ends f g h k e)

-- ---- nodes

pub are_nodes : (names : List (List ℕ)) (cells : List (Option Ends)) (rest : List Words) → AllByRecursion IsWord names → AllByRecursion CellInRange cells → AllByRecursion IsLine rest
    → AllByRecursion IsLine (node_lines names cells ++ rest)
are_nodes [] cells rest names h k = k
are_nodes (name ∷ names) [] rest words h k = ((word_from_test (codes "node") refl, (words.0, (word_from_test (codes "dead") refl, tt))), are_nodes names [] rest words.1 h k)
are_nodes (name ∷ names) (x ∷ xs) rest words h k =
    ((word_from_test (codes "node") refl, (words.0, are_cell_words (codes "dead") (word_from_test (codes "dead") refl) x h.0)), are_nodes names xs rest words.1 h.1 k)

pub same_nodes : (names : List (List ℕ)) (xs ys : List (Option Ends)) (rest others : List Words) → length xs ≡ length names → length ys ≡ length names
    → AllByRecursion CellInRange xs → AllByRecursion CellInRange ys → node_lines names xs ++ rest ≡ node_lines names ys ++ others → (xs ≡ ys) × (rest ≡ others)
same_nodes [] [] [] rest others p q h k e = (refl, e)
same_nodes [] [] (y ∷ ys) rest others p q h k e = absurd (omega (arith, q))
same_nodes [] (x ∷ xs) ys rest others p q h k e = absurd (omega (arith, p))
same_nodes (name ∷ names) [] ys rest others p q h k e = absurd (omega (arith, p))
same_nodes (name ∷ names) (x ∷ xs) [] rest others p q h k e = absurd (omega (arith, q))
same_nodes (name ∷ names) (x ∷ xs) (y ∷ ys) rest others p q h k e =
    let both : node_line name x ∷ (node_lines names xs ++ rest) ≡ node_line name y ∷ (node_lines names ys ++ others) = e in
    let line : node_line name x ≡ node_line name y = cc in
    let later : node_lines names xs ++ rest ≡ node_lines names ys ++ others = cc in
    let here : x ≡ y = same_cell (codes "dead") x y h.0 k.0 (ap (drop 2) line) in
    let more = same_nodes names xs ys rest others (omega (arith, p)) (omega (arith, q)) h.1 k.1 later in
    (ap (λ z. z ∷ xs) here ∙ ap (λ zs. y ∷ zs) more.0, more.1)

-- ---- rows

line_more : (head more : Words) → IsLine head → AllByRecursion IsWord more → IsLine (head ++ more)
line_more [] more h k = absurd h
line_more (w ∷ ws) more h k = (h.0, all_joined IsWord ws more h.1 k)

are_shown : (blocked : Bool) (cells : List (Option Ends)) → AllByRecursion CellInRange cells → AllByRecursion IsWord (shown_words blocked cells)
are_shown true cells h = (word_from_test (codes "blocked") refl, tt)
are_shown false [] h = (word_from_test (codes "open") refl, tt)
are_shown false (x ∷ xs) h = are_cell_words (codes "open") (word_from_test (codes "open") refl) x h.0

behind_in_range : (blocked : Bool) (cells : List (Option Ends)) → AllByRecursion CellInRange cells → AllByRecursion CellInRange (left_behind blocked cells)
behind_in_range true cells h = h
behind_in_range false [] h = h
behind_in_range false (x ∷ xs) h = h.1

pub are_rows : (rows : List ItemRow) (cells : List (Option Ends)) (rest : List Words) → AllByRecursion HasLine rows → AllByRecursion CellInRange cells → AllByRecursion IsLine rest
    → AllByRecursion IsLine (row_lines rows cells ++ rest)
are_rows [] cells rest heads h k = k
are_rows (row ∷ rows) cells rest heads h k =
    (line_more (item_row_words row) (shown_words row.blocked cells) heads.0 (are_shown row.blocked cells h), are_rows rows (left_behind row.blocked cells) rest heads.1 (behind_in_range row.blocked cells h) k)

same_tail : (head xs ys : Words) → head ++ xs ≡ head ++ ys → xs ≡ ys
same_tail [] xs ys e = e
same_tail (w ∷ ws) xs ys e = same_tail ws xs ys (ap (drop 1) e)

-- the later rows determine the later intervals
abbrev LaterSame : List ItemRow → List Words → List Words → Type 0
LaterSame rows rest others = (xs ys : List (Option Ends)) → length xs ≡ shows rows → length ys ≡ shows rows → AllByRecursion CellInRange xs → AllByRecursion CellInRange ys
    → row_lines rows xs ++ rest ≡ row_lines rows ys ++ others → (xs ≡ ys) × (rest ≡ others)

same_shown : (head : Words) (rows : List ItemRow) (rest others : List Words) → LaterSame rows rest others → (xs ys : List (Option Ends)) → length xs ≡ suc (shows rows) → length ys ≡ suc (shows rows)
    → AllByRecursion CellInRange xs → AllByRecursion CellInRange ys
    → (head ++ shown_words false xs) ∷ (row_lines rows (left_behind false xs) ++ rest) ≡ (head ++ shown_words false ys) ∷ (row_lines rows (left_behind false ys) ++ others) → (xs ≡ ys) × (rest ≡ others)
same_shown head rows rest others later [] ys p q h k e = absurd (omega (arith, p))
same_shown head rows rest others later (x ∷ xs) [] p q h k e = absurd (omega (arith, q))
same_shown head rows rest others later (x ∷ xs) (y ∷ ys) p q h k e =
    let both : (head ++ cell_words (codes "open") x) ∷ (row_lines rows xs ++ rest) ≡ (head ++ cell_words (codes "open") y) ∷ (row_lines rows ys ++ others) = e in
    let line : head ++ cell_words (codes "open") x ≡ head ++ cell_words (codes "open") y = cc in
    let left : row_lines rows xs ++ rest ≡ row_lines rows ys ++ others = cc in
    let here : x ≡ y = same_cell (codes "open") x y h.0 k.0 (same_tail head _ _ line) in
    let more = later xs ys (omega (arith, p)) (omega (arith, q)) h.1 k.1 left in
    (ap (λ z. z ∷ xs) here ∙ ap (λ zs. y ∷ zs) more.0, more.1)

pub same_rows : (rows : List ItemRow) (rest others : List Words) → LaterSame rows rest others
same_rows [] rest others [] [] p q h k e = (refl, e)
same_rows [] rest others [] (y ∷ ys) p q h k e = absurd (omega (arith, q))
same_rows [] rest others (x ∷ xs) ys p q h k e = absurd (omega (arith, p))
same_rows (row ∷ rows) rest others xs ys p q h k e =
    (elim row.blocked as (λ b. length xs ≡ shown b (shows rows) → length ys ≡ shown b (shows rows)
    → (item_row_words row ++ shown_words b xs) ∷ (row_lines rows (left_behind b xs) ++ rest) ≡ (item_row_words row ++ shown_words b ys) ∷ (row_lines rows (left_behind b ys) ++ others) → (xs ≡ ys) × (rest ≡ others)) [
      | true ↦ λ n m f. same_rows rows rest others xs ys n m h k (ap (drop 1) f)
      | false ↦ λ n m f. same_shown (item_row_words row) rows rest others (same_rows rows rest others) xs ys n m h k f
    ]) p q e

-- ---- lines of transformers

-- of whatever is shown of each
abbrev AreLines : (Transformer → Ends → Words) → Type 0
AreLines line = (ts : List Transformer) (cells : List Ends) (rest : List Words) → AllByRecursion IsWord (map (λ t. t.name) ts) → length cells ≡ length ts → AllByRecursion AreInRange cells
    → AllByRecursion IsLine rest → AllByRecursion IsLine (per_transformer line ts cells ++ rest)

are_lines : (line : Transformer → Ends → Words) → ((t : Transformer) (e : Ends) → IsWord t.name → AreInRange e → IsLine (line t e)) → AreLines line
are_lines line each [] cells rest names p h k = k
are_lines line each (t ∷ ts) [] rest names p h k = absurd (omega (arith, p))
are_lines line each (t ∷ ts) (e ∷ es) rest names p h k = (each t e names.0 h.0, are_lines line each ts es rest names.1 (omega (arith, p)) h.1 k)

-- ---- effective currents

pub are_effectives : AreLines (λ t e. effective_line t.name e)
are_effectives = are_lines (λ t e. effective_line t.name e) (λ t e name h. (word_from_test (codes "effective") refl, (name, ends_words e h)))

pub same_effectives : (ts : List Transformer) (xs ys : List Ends) (rest others : List Words) → length xs ≡ length ts → length ys ≡ length ts → AllByRecursion AreInRange xs → AllByRecursion AreInRange ys
    → effective_lines ts xs ++ rest ≡ effective_lines ts ys ++ others → xs ≡ ys
same_effectives [] [] [] rest others p q h k e = refl
same_effectives [] [] (y ∷ ys) rest others p q h k e = absurd (omega (arith, q))
same_effectives [] (x ∷ xs) ys rest others p q h k e = absurd (omega (arith, p))
same_effectives (t ∷ ts) [] ys rest others p q h k e = absurd (omega (arith, p))
same_effectives (t ∷ ts) (x ∷ xs) [] rest others p q h k e = absurd (omega (arith, q))
same_effectives (t ∷ ts) (x ∷ xs) (y ∷ ys) rest others p q h k e =
    let both : effective_line t.name x ∷ (effective_lines ts xs ++ rest) ≡ effective_line t.name y ∷ (effective_lines ts ys ++ others) = e in
    let line : effective_line t.name x ≡ effective_line t.name y = cc in
    let later : effective_lines ts xs ++ rest ≡ effective_lines ts ys ++ others = cc in
    let here : x ≡ y = same_ends x y h.0 k.0 (ap (drop 2) line) in
    let more = same_effectives ts xs ys rest others (omega (arith, p)) (omega (arith, q)) h.1 k.1 later in
    ap (λ z. z ∷ xs) here ∙ ap (λ zs. y ∷ zs) more

-- ---- transformers

-- sizes of negatives and of the greater of two numbers
turned_small : (z : ℤ) → FitsSigned w128 z → mag (neg_ℤ z) < 2 ^ 128
turned_small (pos zero) h = omega arith
turned_small (pos (suc n)) h = omega (arith, h.sfits)
turned_small (negsuc n) h = omega (arith, h.sfits)

greater_small : (x y : ℤ) → mag x < 2 ^ 128 → mag y < 2 ^ 128 → mag (int_max x y) < 2 ^ 128
greater_small x y h k = elim (int_lt y x) as (λ b. mag (cond b x y) < 2 ^ 128) [ true ↦ h | false ↦ k ]

small : (z : ℤ) → FitsSigned w128 z → mag z < 2 ^ 128
small z h = omega (arith, h.sfits)

least_is_word : (e : Ends) → AreInRange e → IsWord (signed_decimal (absolute_ends e).low)
least_is_word e h =
    word_signed (least_abs e.low e.high)
    (greater_small (pos 0) (int_max e.low (neg_ℤ e.high)) (omega arith) (greater_small e.low (neg_ℤ e.high) (small e.low h.low_fits) (turned_small e.high h.high_fits)))

greatest_is_word : (e : Ends) → AreInRange e → IsWord (signed_decimal (absolute_ends e).high)
greatest_is_word e h = word_signed (greatest_abs e.low e.high) (greater_small e.high (neg_ℤ e.low) (small e.high h.high_fits) (turned_small e.low h.low_fits))

judged_is_line : (name : List ℕ) (e : Ends) (v : Verdict) → IsWord name → IsWord (signed_decimal e.low) → IsWord (signed_decimal e.high) → IsLine (judged_line name e v)
unfolding judged_line
judged_is_line name e v n l h = (word_from_test (codes "transformer") refl, (n, (l, (h, (verdict_is_word v, tt)))))

pub are_absolutes : (threshold : ℕ) → AreLines (absolute_line threshold)
are_absolutes threshold =
    are_lines (absolute_line threshold) (λ t e name h. let words = ends_words e h in judged_is_line t.name e (verdict_in threshold t e) name words.0 words.1.0)

pub are_transformers : (threshold : ℕ) → AreLines (transformer_line threshold)
are_transformers threshold =
    are_lines (transformer_line threshold) (λ t e name h. judged_is_line t.name (absolute_ends e) (verdict_on threshold t e) name (least_is_word e h) (greatest_is_word e h))
