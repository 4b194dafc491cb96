-- The text of the live and dead nodes determines them.
use Rattle.std.proofs.Common.{◌≡◌, ℕ, ◌<◌, ◌^◌, Bool, true, false, List, [], ◌∷◌, ◌++◌, get_or, length, refl, ap, arith}
use Rattle.std.specs.Prelude.{codes}
use Rattle.std.specs.List.{AllByRecursion}
use Rattle.gic_text.specs.Words.{IsWord, IsLine}
use Rattle.gic_text.specs.Lines.{lines_text}
use Rattle.gic_text.proofs.Injective.{lines_injective}
use Rattle.gic_text.proofs.Words.{word_from_test, word_decimal}
use Rattle.gic_report.specs.SharedLines.{Words, word_line}
use Rattle.gic_check.specs.CheckText.{live_count, live_count_line, state_line, state_lines, state_word}

-- the lines behind those of the nodes
abbrev tail : List Bool → List Words
tail live = live_count_line (live_count live) ∷ word_line (codes "end") ∷ []

-- the report on nodes of these names
abbrev lines : List (List ℕ) → List Bool → List Words
lines names live = word_line (codes "check") ∷ (state_lines names live ++ tail live)

state_is_word : (live : Bool) → IsWord (state_word live)
state_is_word true = word_from_test (codes "live") refl
state_is_word false = word_from_test (codes "dead") refl

same_state : (x y : Bool) → state_word x ≡ state_word y → x ≡ y
same_state true true e = refl
same_state false false e = refl
same_state true false e = absurd (let f : ◌≡◌ {A = ℕ} 108 100 = ap (λ w. get_or w 0 0) e in omega (arith, f))
same_state false true e = absurd (let f : ◌≡◌ {A = ℕ} 100 108 = ap (λ w. get_or w 0 0) e in omega (arith, f))

-- the lines of the nodes, and some lines behind them, are lines
are_state_lines : (names : List (List ℕ)) (live : List Bool) (rest : List Words) → AllByRecursion IsWord names → AllByRecursion IsLine rest → AllByRecursion IsLine (state_lines names live ++ rest)
are_state_lines [] live rest names h = h
are_state_lines (name ∷ names) [] rest words h = h
are_state_lines (name ∷ names) (x ∷ live) rest words h =
    ((word_from_test (codes "node") refl, (words.0, (state_is_word x, tt))), are_state_lines names live rest words.1 h)

are_lines : (names : List (List ℕ)) (live : List Bool) → AllByRecursion IsWord names → live_count live < 2 ^ 64 → AllByRecursion IsLine (lines names live)
are_lines names live words few =
    let count : IsWord (codes "live") × (IsWord _ × Unit {0}) = (word_from_test (codes "live") refl, (word_decimal (live_count live) (omega (arith, few)), tt)) in
    ((word_from_test (codes "check") refl, tt), are_state_lines names live (tail live) words (count, ((word_from_test (codes "end") refl, tt), tt)))

-- the lines of the nodes determine them
same_states : (names : List (List ℕ)) (xs ys : List Bool) (rest others : List Words) → length xs ≡ length names → length ys ≡ length names →
    state_lines names xs ++ rest ≡ state_lines names ys ++ others → xs ≡ ys
same_states [] [] [] rest others p q e = refl
same_states [] [] (y ∷ ys) rest others p q e = absurd (omega arith)
same_states [] (x ∷ xs) ys rest others p q e = absurd (omega arith)
same_states (name ∷ names) [] ys rest others p q e = absurd (omega arith)
same_states (name ∷ names) (x ∷ xs) [] rest others p q e = absurd (omega arith)
same_states (name ∷ names) (x ∷ xs) (y ∷ ys) rest others p q e =
    let both : state_line name x ∷ (state_lines names xs ++ rest) ≡ state_line name y ∷ (state_lines names ys ++ others) = e in
    let word : state_word x ≡ state_word y = cc in
    let here = same_state x y word in
    let later : state_lines names xs ++ rest ≡ state_lines names ys ++ others = cc in
    let more = same_states names xs ys rest others (omega arith) (omega arith) later in
    cc

-- the text of the report determines which nodes are live
pub check_determined : (names : List (List ℕ)) (xs ys : List Bool) → AllByRecursion IsWord names → length xs ≡ length names → length ys ≡ length names →
    live_count xs < 2 ^ 64 → live_count ys < 2 ^ 64 → lines_text (lines names xs) ≡ lines_text (lines names ys) → xs ≡ ys
check_determined names xs ys words p q few less e =
    let same : word_line (codes "check") ∷ (state_lines names xs ++ tail xs) ≡ word_line (codes "check") ∷ (state_lines names ys ++ tail ys)
    = lines_injective (lines names xs) (lines names ys) (are_lines names xs words few) (are_lines names ys words less) e in
    let later : state_lines names xs ++ tail xs ≡ state_lines names ys ++ tail ys = cc in
    same_states names xs ys (tail xs) (tail ys) p q later
