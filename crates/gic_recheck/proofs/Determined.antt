-- The text of a report of a certificate determines what it shows.
use Rattle.std.proofs.Common.{◌≡◌, ◌≢◌, ◌∙◌, ℕ, List, [], ◌∷◌, ◌++◌, length, drop, get_or, Option, Some, None, refl, ap, sym, arith}
use Rattle.std.specs.Prelude.{codes}
use Rattle.std.specs.List.{AllByRecursion}
use Rattle.std.proofs.lemmas.List.Elements.{recursion_from_All}
use Rattle.gic_case.specs.Lists.{node_names}
use Rattle.gic_fixed.specs.Ends.{Ends}
use Rattle.gic_text.specs.Words.{IsWord, IsLine}
use Rattle.gic_text.proofs.Injective.{lines_injective}
use Rattle.gic_text.proofs.Words.{word_from_test}
use Rattle.gic_report.specs.ItemText.{ends_words as words_of_ends}
use Rattle.gic_report.specs.SharedLines.{Words, word_line, field_line}
use Rattle.gic_report.proofs.CaseNames.{node_words}
use Rattle.gic_report.proofs.ViewDetermined.{CellInRange, ends_words, same_ends}
use Rattle.gic_report.proofs.WordsDetermined.{field_is_line, same_field_line}
use Rattle.gic_recheck.specs.Determines.{TextDeterminesPotentials}
use Rattle.gic_recheck.specs.RecheckText.{potential_lines, recheck_report}
use Rattle.gic_recheck.proofs.NodeNames.{AreApart, node_names_apart}

-- the last line
abbrev last : List Words
last = word_line (codes "end") ∷ []

-- the lines of the nodes and the last one are lines
are_potential_lines : (names : List (List ℕ)) (intervals : List (Option Ends)) → AllByRecursion IsWord names → AllByRecursion CellInRange intervals
    → AllByRecursion IsLine (potential_lines names intervals ++ last)
are_potential_lines [] intervals words fit = ((word_from_test (codes "end") refl, tt), tt)
are_potential_lines (name ∷ names) [] words fit = ((word_from_test (codes "end") refl, tt), tt)
are_potential_lines (name ∷ names) (None ∷ intervals) words fit = are_potential_lines names intervals words.1 fit.1
are_potential_lines (name ∷ names) (Some ends ∷ intervals) words fit =
    ((word_from_test (codes "node") refl, (words.0, ends_words ends fit.0)), are_potential_lines names intervals words.1 fit.1)

-- the first of these lines isn't that of a node with another name
not_first : (name : List ℕ) (names : List (List ℕ)) (xs : List (Option Ends)) (e : Ends) (more : List Words) → AllByRecursion (λ other. name ≢ other) names
    → potential_lines names xs ++ last ≡ (codes "node" ∷ name ∷ words_of_ends e) ∷ more → ⊥
not_first name [] xs e more apart is =
    let word : codes "end" ≡ codes "node" = ap (λ ls. get_or (get_or ls 0 []) 0 []) is in
    let letters : 3 ≡ 4 = ap length word in
    omega (arith, letters)
not_first name (other ∷ names) [] e more apart is =
    let word : codes "end" ≡ codes "node" = ap (λ ls. get_or (get_or ls 0 []) 0 []) is in
    let letters : 3 ≡ 4 = ap length word in
    omega (arith, letters)
not_first name (other ∷ names) (None ∷ xs) e more apart is = not_first name names xs e more apart.1 is
not_first name (other ∷ names) (Some x ∷ xs) e more apart is = apart.0 (sym (ap (λ ls. get_or (get_or ls 0 []) 1 []) is))

-- where no name comes twice, the lines of the nodes determine the intervals
same_potentials : (names : List (List ℕ)) (xs ys : List (Option Ends)) → AreApart names → length xs ≡ length names → length ys ≡ length names
    → AllByRecursion CellInRange xs → AllByRecursion CellInRange ys
    → potential_lines names xs ++ last ≡ potential_lines names ys ++ last → xs ≡ ys
same_potentials [] [] [] apart p q h k e = refl
same_potentials [] [] (y ∷ ys) apart p q h k e = absurd (omega (arith, q))
same_potentials [] (x ∷ xs) ys apart p q h k e = absurd (omega (arith, p))
same_potentials (name ∷ names) [] ys apart p q h k e = absurd (omega (arith, p))
same_potentials (name ∷ names) (x ∷ xs) [] apart p q h k e = absurd (omega (arith, q))
same_potentials (name ∷ names) (None ∷ xs) (None ∷ ys) apart p q h k e =
    ap (λ l. None ∷ l) (same_potentials names xs ys apart.1 (omega (arith, p)) (omega (arith, q)) h.1 k.1 e)
same_potentials (name ∷ names) (None ∷ xs) (Some y ∷ ys) apart p q h k e = absurd (not_first name names xs y (potential_lines names ys ++ last) apart.0 e)
same_potentials (name ∷ names) (Some x ∷ xs) (None ∷ ys) apart p q h k e = absurd (not_first name names ys x (potential_lines names xs ++ last) apart.0 (sym e))
same_potentials (name ∷ names) (Some x ∷ xs) (Some y ∷ ys) apart p q h k e =
    let line : codes "node" ∷ name ∷ words_of_ends x ≡ codes "node" ∷ name ∷ words_of_ends y = ap (λ ls. get_or ls 0 []) e in
    let here : x ≡ y = same_ends x y h.0 k.0 (ap (drop 2) line) in
    let later : potential_lines names xs ++ last ≡ potential_lines names ys ++ last = ap (drop 1) e in
    let more = same_potentials names xs ys apart.1 (omega (arith, p)) (omega (arith, q)) h.1 k.1 later in
    ap (λ z. Some z ∷ xs) here ∙ ap (λ l. Some y ∷ l) more

pub potentials_determined : TextDeterminesPotentials
potentials_determined case sound north east xs north' east' ys p q e =
    let names = node_names case in
    let words = node_words case sound.names_sound in
    let h = recursion_from_All CellInRange xs p.ends_fit in
    let k = recursion_from_All CellInRange ys q.ends_fit in
    let same = lines_injective (recheck_report case north east xs) (recheck_report case north' east' ys)
    ((word_from_test (codes "recheck") refl, tt), (field_is_line north east p.north_fits p.east_fits, are_potential_lines names xs words h))
    ((word_from_test (codes "recheck") refl, tt), (field_is_line north' east' q.north_fits q.east_fits, are_potential_lines names ys words k)) e in
    let field : field_line north east ≡ field_line north' east' = ap (λ ls. get_or (drop 1 ls) 0 []) same in
    let parts = same_field_line north east north' east' p.north_fits p.east_fits q.north_fits q.east_fits field in
    (parts.0, parts.1, same_potentials names xs ys (node_names_apart case sound) p.count q.count h k (ap (drop 2) same))
