-- Lines in front of any bytes.
use Rattle.std.proofs.Common.{◌≡◌, ◌∙◌, ℕ, List, [], ◌∷◌, ◌++◌, length, take, drop, refl, sym, ap, arith, append_assoc}
use Rattle.std.specs.List.{AllByRecursion}
use Rattle.std.proofs.Math.Seq.{drop-append_seam, take-append_seam}
use Rattle.gic_text.specs.Lines.{line_text, lines_text}
use Rattle.gic_text.specs.Words.{spaced, IsLine}
use Rattle.gic_text.proofs.Injective.{ended_apart, line_text-cons, spaced_injective, no_end_word, no_end_spaced}
use Rattle.gic_text.proofs.Joined.{lines_text-append}
use Rattle.gic_report.specs.SharedLines.{Words}

-- two prefixes of one length, and what follows them
pub split_prefix : {A : Type 0} (xs ys r s : List A) → length xs ≡ length ys → xs ++ r ≡ ys ++ s → (xs ≡ ys) × (r ≡ s)
split_prefix xs ys r s n e = (
  sym (take-append_seam xs r) ∙ ap (λ l. take (length xs) l) e ∙ ap (λ k. take k (ys ++ s)) n ∙ take-append_seam ys s,
  sym (drop-append_seam xs r) ∙ ap (λ l. drop (length xs) l) e ∙ ap (λ k. drop k (ys ++ s)) n ∙ drop-append_seam ys s,
)

line_before : (w : List ℕ) (ws : Words) (r : List ℕ) → line_text (w ∷ ws) ++ r ≡ (w ++ spaced ws) ++ 10 ∷ r
line_before w ws r = ap (λ l. l ++ r) (line_text-cons w ws) ∙ append_assoc (w ++ spaced ws) (10 ∷ []) r

-- a line, and what follows it
pub prefix_line : (x y : Words) (r s : List ℕ) → IsLine x → IsLine y → line_text x ++ r ≡ line_text y ++ s → (x ≡ y) × (r ≡ s)
prefix_line [] y r s h k e = absurd h
prefix_line (w ∷ ws) [] r s h k e = absurd k
prefix_line (w ∷ ws) (v ∷ vs) r s h k e =
    let apart = ended_apart 10 (w ++ spaced ws) (v ++ spaced vs) r s
    (no_end_word w (spaced ws) h.0 (no_end_spaced ws h.1)) (no_end_word v (spaced vs) k.0 (no_end_spaced vs k.1))
    (sym (line_before w ws r) ∙ e ∙ line_before v vs s) in
    (spaced_injective (w ∷ ws) (v ∷ vs) h k (ap (λ l. 32 ∷ l) apart.0), apart.1)

-- as many lines, and what follows them
pub prefix_lines : (xs ys : List Words) (r s : List ℕ) → length xs ≡ length ys → AllByRecursion IsLine xs → AllByRecursion IsLine ys
    → lines_text xs ++ r ≡ lines_text ys ++ s → (xs ≡ ys) × (r ≡ s)
prefix_lines [] [] r s n h k e = (refl, e)
prefix_lines [] (y ∷ ys) r s n h k e = absurd (omega (arith, n))
prefix_lines (x ∷ xs) [] r s n h k e = absurd (omega (arith, n))
prefix_lines (x ∷ xs) (y ∷ ys) r s n h k e =
    let first = prefix_line x y (lines_text xs ++ r) (lines_text ys ++ s) h.0 k.0 (sym (append_assoc (line_text x) (lines_text xs) r) ∙ e ∙ append_assoc (line_text y) (lines_text ys) s) in
    let later = prefix_lines xs ys r s (omega (arith, n)) h.1 k.1 first.1 in
    (ap (λ l. l ∷ xs) first.0 ∙ ap (λ ls. y ∷ ls) later.0, later.1)

-- the first lines, and what follows them
pub cut_lines : (xs ys : List Words) (r : List ℕ) → lines_text (xs ++ ys) ++ r ≡ lines_text xs ++ (lines_text ys ++ r)
cut_lines xs ys r = ap (λ l. l ++ r) (lines_text-append xs ys) ∙ append_assoc (lines_text xs) (lines_text ys) r

-- the first lines of two texts that have as many
pub first_lines : (xs ys more others : List Words) (r s : List ℕ) → length xs ≡ length ys → AllByRecursion IsLine xs → AllByRecursion IsLine ys
    → lines_text (xs ++ more) ++ r ≡ lines_text (ys ++ others) ++ s → (xs ≡ ys) × (lines_text more ++ r ≡ lines_text others ++ s)
first_lines xs ys more others r s n h k e = prefix_lines xs ys (lines_text more ++ r) (lines_text others ++ s) n h k (sym (cut_lines xs more r) ∙ e ∙ cut_lines ys others s)
