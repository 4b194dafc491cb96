-- How many parts an array of them has.
use Rattle.std.proofs.Common.{◌≡◌, ℕ, suc, ◌<◌, ◌&&◌, nat_le, List, [], ◌∷◌, length, Bool, true, false, cond, Option, Some, None, option_and_then, option_map, IfSome, arith, refl, sym, ap, subst}
use Rattle.std.proofs.lemmas.Bool.Decides.{nat_tests}
use Rattle.toml.specs.Data.{Data, as_array}
use Rattle.toml.specs.View.{view, items_view}
use Rattle.toml.specs.declared.value.Value.{Value}
use Rattle.gic_base.specs.declared.limits.TheConstants.{MOST_PARTS}
use Rattle.gic_case_reader.specs.Lines.{read_part, parts_in, are_parts, read_parts}
use Rattle.gic_case_reader.specs.declared.part_row.PartRow.{PartRow}

one_more : (part : Option PartRow) (parts : Option (List PartRow)) (n : ℕ) → IfSome parts (λ ps. length ps ≡ n)
    → IfSome (option_and_then (λ p. option_map (λ ps. p ∷ ps) parts) part) (λ ps. length ps ≡ suc n)
one_more None parts n h = tt
one_more (Some p) None n h = tt
one_more (Some p) (Some ps) n h = ap (λ k. suc k) h

parts_count : (vs : List Value) → IfSome (parts_in (items_view vs)) (λ ps. length ps ≡ length vs)
parts_count [] = refl
parts_count (v ∷ vs) = one_more (read_part (view v)) (parts_in (items_view vs)) (length vs) (parts_count vs)

-- as many parts as values
pub parts_length : (vs : List Value) (ps : List PartRow) → Some ps ≡ parts_in (items_view vs) → length ps ≡ length vs
parts_length vs ps is = subst (λ o. IfSome o (λ qs. length qs ≡ length vs)) (sym is) (parts_count vs)

second_fails : (a b : Bool) → (a && (false && b)) ≡ false
second_fails true b = refl
second_fails false b = refl

too_many : (o : Option (List PartRow)) (n : ℕ) → IfSome o (λ ps. length ps ≡ n) → MOST_PARTS < n → None ≡ option_and_then (λ ps. cond (are_parts ps) (Some ps) None) o
too_many None n h many = refl
too_many (Some ps) n h many =
    let far : nat_le (length ps) MOST_PARTS ≡ false = grind (arith, nat_tests, h, many) in
    rw (far, second_fails)

-- an array of too many values is none of parts
pub read_too_many : (d : Data) (vs : List Value) → Some (items_view vs) ≡ as_array d → MOST_PARTS < length vs → None ≡ read_parts d
read_too_many d vs is many = rw (← is) (too_many (parts_in (items_view vs)) (length vs) (parts_count vs) many)
