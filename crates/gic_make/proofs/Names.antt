-- A letter and a number are a name.
use Rattle.std.proofs.Common.{◌≡◌, ℕ, ◌+◌, ◌<◌, ◌%◌, ◌^◌, suc, take, true, ◌∙◌, nat_le, List, [], ◌∷◌, ◌++◌, length, decimal, refl, ap, arith}
use Rattle.std.proofs.lemmas.Bool.Decides.{nat_tests}
use Rattle.std.proofs.lemmas.Fmt.{decimal_by_steps, length-decimal-le}
use Rattle.std.proofs.lemmas.List.Folds.{list_all-append}
use Rattle.std.proofs.Math.Seq.{take-append_seam}
use Rattle.std.specs.List.{list_all}
use Rattle.std.proofs.lemmas.Bool.{and_from}
use Rattle.gic_base.specs.Name.{is_name_byte, is_name}
use Rattle.gic_make.specs.MadeCase.{numbered}

digit : (d : ℕ) → d < 10 → is_name_byte (48 + d) ≡ true
digit d h = grind (arith, nat_tests, h)

digit_more : (ds : List ℕ) (d : ℕ) → d < 10 → list_all is_name_byte ds ≡ true → list_all is_name_byte (ds ++ (48 + d) ∷ []) ≡ true
digit_more ds d h all = rw (list_all-append is_name_byte ds ((48 + d) ∷ []), all, digit d h) refl

digits : (n : ℕ) → n < 2 ^ 64 → list_all is_name_byte (decimal n) ≡ true
digits n h =
    decimal_by_steps (λ n ds. list_all is_name_byte ds ≡ true) (λ n lt. rw (digit n lt) refl) (λ n ds le w. digit_more ds (n % 10) (omega arith) w) n h

pub numbered_name : (letter number : ℕ) → is_name_byte letter ≡ true → number < 2 ^ 16 → is_name (numbered letter number) ≡ true
numbered_name letter number h small =
    let few = length-decimal-le 5 number (omega arith) (omega arith) (omega arith) in
    let some : nat_le 1 (length (numbered letter number)) ≡ true = grind (arith, nat_tests) in
    let short : nat_le (length (numbered letter number)) 32 ≡ true = grind (arith, nat_tests, few) in
    and_from _ _ (and_from _ _ some short) (and_from _ _ h (digits number (omega arith)))

-- a letter, and behind it digits among more bytes
pub written : (letter : ℕ) (digits more : List ℕ) → take (1 + length digits) (letter ∷ (digits ++ more)) ≡ letter ∷ digits
written letter digits more =
    let count : 1 + length digits ≡ suc (length digits) = omega arith in
    ap (λ n. take n (letter ∷ (digits ++ more))) count ∙ ap (λ l. letter ∷ l) (take-append_seam digits more)
