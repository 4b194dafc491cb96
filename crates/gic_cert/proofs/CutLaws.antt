-- The lines of a text of lines.
use Rattle.std.proofs.Common.{◌≡◌, ℕ, ◌==◌, ◌≢◌, Bool, true, false, cond, ◌+◌, ◌<◌, length, length-append, take, List, [], ◌∷◌, ◌++◌, refl, sym, ap, ◌∙◌, append_assoc, append-nil, arith}
use Rattle.std.specs.Prelude.{codes}
use Rattle.std.specs.List.{AllByRecursion}
use Rattle.std.proofs.lemmas.Bool.Decides.{nat_tests}
use Rattle.std.proofs.lemmas.List.{take_at}
use Rattle.gic_text.specs.Lines.{lines_text}
use Rattle.gic_text.specs.Words.{spaced, IsWord, IsLine}
use Rattle.gic_text.proofs.Injective.{NoEnd, no_end_word, no_end_spaced, lines-cons}
use Rattle.gic_report.specs.SharedLines.{Words}
use Rattle.gic_cert.specs.declared.limits.TheConstants.{MOST_WORDS}
use Rattle.gic_cert.specs.declared.refusal.CertRefusal.TheVariants as refusals
use Rattle.gic_cert.specs.Cuts.{words_from, words_of, lines_from, lines_cut}
use Rattle.gic_cert.specs.Reading.{is_only, breaks_behind, IsFirstOf}

-- a line that doesn't end within the words that are looked at
pub first_words : (words rest all : Words) → length words ≡ MOST_WORDS → words ++ rest ≡ all → words ≡ take MOST_WORDS all
first_words words rest all many same = sym (take_at words rest MOST_WORDS many) ∙ ap (take MOST_WORDS) same

differs : (b n : ℕ) → b ≢ n → (b == n) ≡ false
differs b n h = grind (arith, nat_tests, h)

-- the words of a line, behind a word that is begun
words_more : (begun w : List ℕ) (ws : Words) → IsWord w → AllByRecursion IsWord ws → words_from begun (w ++ spaced ws) ≡ (begun ++ w) ∷ ws
words_more begun [] [] h k = ap (λ z. z ∷ []) (sym (append-nil begun))
words_more begun [] (v ∷ vs) h k = ap (λ (z : Words). begun ∷ z) (words_more [] v vs k.0 k.1) ∙ ap (λ z. z ∷ v ∷ vs) (sym (append-nil begun))
words_more begun (b ∷ w) ws h k =
    ap (λ t. cond t (begun ∷ words_from [] (w ++ spaced ws)) (words_from (begun ++ b ∷ []) (w ++ spaced ws))) (differs b 32 h.0.no_space) ∙
    words_more (begun ++ b ∷ []) w ws h.1 k ∙ ap (λ z. z ∷ ws) (append_assoc begun (b ∷ []) w)

line_more : (begun bs rest : List ℕ) → NoEnd bs → lines_from begun (bs ++ 10 ∷ rest) ≡ words_of (begun ++ bs) ∷ lines_from [] rest
line_more begun [] rest h = ap (λ z. words_of z ∷ lines_from [] rest) (sym (append-nil begun))
line_more begun (b ∷ bs) rest h =
    ap (λ t. cond t (words_of begun ∷ lines_from [] (bs ++ 10 ∷ rest)) (lines_from (begun ++ b ∷ []) (bs ++ 10 ∷ rest))) (differs b 10 h.0) ∙
    line_more (begun ++ b ∷ []) bs rest h.1 ∙ ap (λ z. words_of z ∷ lines_from [] rest) (append_assoc begun (b ∷ []) bs)

-- a line whose words are all looked at
abbrev pub IsShort : Words → Type 0
IsShort line = take MOST_WORDS line ≡ line

-- the text of lines is cut into these lines
pub lines_back : (xs : List Words) → AllByRecursion IsLine xs → AllByRecursion IsShort xs → lines_cut (lines_text xs) ≡ xs
lines_back [] h short = refl
lines_back ([] ∷ xs) h short = absurd h.0
lines_back ((w ∷ ws) ∷ xs) h short =
    ap lines_cut (lines-cons w ws xs) ∙
    line_more [] (w ++ spaced ws) (lines_text xs) (no_end_word w (spaced ws) h.0.0 (no_end_spaced ws h.0.1)) ∙
    ap (λ (z : Words). take MOST_WORDS z ∷ lines_cut (lines_text xs)) (words_more [] w ws h.0.0 h.0.1) ∙
    ap (λ (z : Words). z ∷ lines_cut (lines_text xs)) short.0 ∙
    ap (λ (z : List Words). (w ∷ ws) ∷ z) (lines_back xs h.1 short.1)

-- a text has a line
some_line : (begun bs : List ℕ) → 0 < length begun + length bs → (p : Words × List Words) × (lines_from begun bs ≡ p.0 ∷ p.1)
some_line [] [] h = absurd (omega (arith, h))
some_line (b ∷ begun) [] h = (([], []), let some : (length (b ∷ begun) == 0) ≡ false = grind (arith, nat_tests) in rw some refl)
some_line begun (b ∷ bs) h =
    by (let more = length-append begun (b ∷ []) in some_line (begun ++ b ∷ []) bs (omega (arith, more))) (b == 10)
  where
    by : (p : Words × List Words) × (lines_from (begun ++ b ∷ []) bs ≡ p.0 ∷ p.1) → (t : Bool) →
        (p : Words × List Words) × (cond t (words_of begun ∷ lines_from [] bs) (lines_from (begun ++ b ∷ []) bs) ≡ p.0 ∷ p.1)
    by later true = ((words_of begun, lines_from [] bs), refl)
    by later false = later

-- so what follows the end is refused
pub first_after : (row : ℕ) (words : Words) (text left : List ℕ) → lines_cut text ≡ words ∷ lines_cut left → is_only (codes "end") words ≡ true → 0 < length left →
    IsFirstOf (breaks_behind row [] (lines_cut text)) (refusals.Shape (row + 1))
first_after row words text left is end h =
    let some = some_line [] left (omega (arith, h)) in
    let lines : lines_cut text ≡ words ∷ some.0.0 ∷ some.0.1 = is ∙ ap (λ (ls : List Words). words ∷ ls) some.1 in
    rw (lines, end) refl
