-- The set of the marked items.
use Rattle.std.proofs.Common.{◌≡◌, ℕ, zero, suc, ◌+◌, ◌<◌, Bool, true, false, not, cond, ◌||◌, ◌&&◌, nat_eq, List, [], ◌∷◌, length, map, get_or, set, replicate, arith, refl, ap, sym, ◌∙◌, eq-eqb, inl, inr}
use Rattle.std.proofs.Math.Nat.{zero-add}
use Rattle.std.proofs.lemmas.Bool.{cases_eq, ne_eqb}
use Rattle.std.proofs.lemmas.List.{get_or-set_same, get_or-set_other}
use Rattle.std.specs.List.{filter, list_any, enumerate_from}
use Rattle.std.specs.Ordering.{nat_cmp}
use Rattle.std.specs.FinSet.{contains, insert, remove, empty, contains-insert, contains-remove, contains-empty, contains-from_list_nat, same_set, nat_cmp-IsAntisymmetric}
use Rattle.std.specs.Cmp.{nat_cmp_total, unsigned_tied}
use Rattle.gic_model.specs.declared.parts.Item.{Item}
use Rattle.gic_model.specs.Standing.{item_number}
use Rattle.gic_net.specs.Switched.{stands_without}
use Rattle.gic_net.specs.OpenSet.{open_set}

abbrev marked : ℕ → List Bool → List ℕ
marked i opened = map (λ (p : ℕ × Bool). p.0) (filter (λ p. p.1) (enumerate_from i opened))

none_below : (i : ℕ) (opened : List Bool) (n : ℕ) → n < i → list_any (λ y. nat_eq y n) (marked i opened) ≡ false
none_below i [] n h = refl
none_below i (true ∷ bs) n h = ap (λ b. b || list_any (λ y. nat_eq y n) (marked (i + 1) bs)) (ne_eqb i n (λ e. omega arith)) ∙ none_below (i + 1) bs n (omega arith)
none_below i (false ∷ bs) n h = none_below (i + 1) bs n (omega arith)

shifted : (i n : ℕ) (xs : List ℕ) → list_any (λ y. nat_eq y (i + suc n)) xs ≡ list_any (λ y. nat_eq y (i + 1 + n)) xs
shifted i n xs = let same : i + suc n ≡ i + 1 + n = omega arith in ap (λ m. list_any (λ y. nat_eq y m) xs) same

marked_any : (i : ℕ) (opened : List Bool) (n : ℕ) → list_any (λ y. nat_eq y (i + n)) (marked i opened) ≡ get_or opened n false
marked_any i [] n = refl
marked_any i (true ∷ bs) zero = ap (λ b. b || list_any (λ y. nat_eq y (i + zero)) (marked (i + 1) bs)) (eq-eqb i (i + zero) (omega arith))
marked_any i (false ∷ bs) zero = none_below (i + 1) bs (i + zero) (omega arith)
marked_any i (true ∷ bs) (suc n) =
    ap (λ b. b || list_any (λ y. nat_eq y (i + suc n)) (marked (i + 1) bs)) (ne_eqb i (i + suc n) (λ e. omega arith)) ∙ shifted i n (marked (i + 1) bs) ∙ marked_any (i + 1) bs n
marked_any i (false ∷ bs) (suc n) = shifted i n (marked (i + 1) bs) ∙ marked_any (i + 1) bs n

-- a number is in the set where it is marked
pub contains-open_set : (opened : List Bool) (n : ℕ) → contains (open_set opened) n ≡ get_or opened n false
contains-open_set opened n =
    contains-from_list_nat (marked 0 opened) n ∙ ap (λ m. list_any (λ y. nat_eq y m) (marked 0 opened)) (sym (zero-add n)) ∙ marked_any 0 opened n

-- an item stands where it isn't marked
pub stands_unmarked : (opened : List Bool) (item : Item) → stands_without (open_set opened) item ≡ not (get_or opened (item_number item) false)
stands_unmarked opened item = ap not (contains-open_set opened (item_number item))

-- without a mark
pub no_mark : (count n : ℕ) → get_or (replicate count false) n false ≡ false
no_mark zero n = refl
no_mark (suc count) zero = refl
no_mark (suc count) (suc n) = no_mark count n

pub open_set-replicate : (count : ℕ) → open_set (replicate count false) ≡ empty
open_set-replicate count =
    same_set nat_cmp_total nat_cmp-IsAntisymmetric (open_set (replicate count false)) empty
    (λ q. contains-open_set (replicate count false) q ∙ no_mark count q ∙ sym (contains-empty nat_cmp q))

-- with one mark set or taken away
mark_at : (opened : List Bool) (n : ℕ) (opens : Bool) (q : ℕ) → n < length opened → get_or (set opened n opens) q false ≡ cond (nat_eq q n) opens (get_or opened q false)
mark_at opened n opens q h = elim (cases_eq q n) [
  | inl e ↦
      ap (λ m. get_or (set opened n opens) m false) e ∙ get_or-set_same opened n opens false h ∙ sym (ap (λ b. cond b opens (get_or opened q false)) (eq-eqb q n e))
  | inr other ↦ get_or-set_other opened n q opens false other ∙ sym (ap (λ b. cond b opens (get_or opened q false)) (ne_eqb q n other))
]

as_or : (b c : Bool) → cond b true c ≡ (b || c)
as_or true c = refl
as_or false c = refl

as_and : (b c : Bool) → cond b false c ≡ (not b && c)
as_and true c = refl
as_and false c = refl

pub open_set-set : (opened : List Bool) (n : ℕ) (opens : Bool) → n < length opened → open_set (set opened n opens) ≡ cond opens (insert (open_set opened) n) (remove (open_set opened) n)
open_set-set opened n true h =
    same_set nat_cmp_total nat_cmp-IsAntisymmetric (open_set (set opened n true)) (insert (open_set opened) n)
    (λ q.
    contains-open_set (set opened n true) q ∙ mark_at opened n true q h ∙ as_or (nat_eq q n) (get_or opened q false) ∙
    ap (λ b. nat_eq q n || b) (sym (contains-open_set opened q)) ∙ ap (λ b. b || contains (open_set opened) q) (sym (unsigned_tied q n)) ∙
    sym (contains-insert nat_cmp_total (open_set opened) n q))
open_set-set opened n false h =
    same_set nat_cmp_total nat_cmp-IsAntisymmetric (open_set (set opened n false)) (remove (open_set opened) n)
    (λ q.
    contains-open_set (set opened n false) q ∙ mark_at opened n false q h ∙ as_and (nat_eq q n) (get_or opened q false) ∙
    ap (λ b. not (nat_eq q n) && b) (sym (contains-open_set opened q)) ∙ ap (λ b. not b && contains (open_set opened) q) (sym (unsigned_tied q n)) ∙
    sym (contains-remove nat_cmp_total (open_set opened) n q))
