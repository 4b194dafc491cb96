-- A walk along a list that changes each element.
use Rattle.std.proofs.Common.{◌≡◌, ℕ, ◌<◌, ◌≤◌, ◌+◌, suc, List, [], ◌∷◌, ◌++◌, map, take, drop, set, get_or, length, sym, ap, ◌∙◌, subst, arith, drop-cons, add-one}
use Rattle.std.proofs.lemmas.List.{take-set, drop-set-lt, get_or-set_same, map-append, get_or-map, length-set}
use Rattle.std.proofs.Math.Seq.{take-suc}
use Rattle.std.proofs.lemmas.List.{take_all, take-append-le}

-- what is ahead is as it was, and each element behind has, by f, what its first state had by p
pub record Walked {M X Y : Type 0} (f p : Y → M → X) (init items : List M) (i : ℕ) : Type 0 where
  pub ahead : drop i items ≡ drop i init
  pub behind : (y : Y) → map (f y) (take i items) ≡ map (p y) (take i init)

-- what f gives of the first i + 1
map_next : {M X : Type 0} (f : M → X) (xs : List M) (i : ℕ) (d : M) → i < length xs → map f (take (suc i) xs) ≡ map f (take i xs) ++ f (get_or xs i d) ∷ []
map_next f xs i d lt = ap (map f) (take-suc xs i d lt) ∙ map-append f (take i xs) (get_or xs i d ∷ [])

-- the next element is as it was, and so are those ahead of it
ahead_at : {M : Type 0} (init items : List M) (i : ℕ) (x : M) → i < length init → i < length items → drop i items ≡ drop i init
    → get_or items i x ∷ drop (suc i) items ≡ get_or init i x ∷ drop (suc i) init
ahead_at init items i x lt lt' e = sym (drop-cons items i x lt') ∙ e ∙ drop-cons init i x lt

-- one step: the next element x is x' from now on
pub walk : {M X Y : Type 0} (f p : Y → M → X) (init items : List M) (i : ℕ) (x x' : M) → i < length init → length items ≡ length init
    → ((y : Y) → f y x' ≡ p y (get_or items i x)) → Walked f p init items i → Walked f p init (set items i x') (i + 1)
walk f p init items i x x' lt same_length e w =
    let lt' : i < length items = omega arith in
    let here = ahead_at init items i x lt lt' w.ahead in
    let len : i < length (set items i x') = subst (λ n. i < n) (sym (length-set items i x')) lt' in
    subst (λ k. Walked f p init (set items i x') k) (sym (add-one i)) (record {
      ahead = drop-set-lt (suc i) items i x' (omega arith) ∙ ap (drop 1) here;
      behind = λ y. map_next (f y) (set items i x') i x' len
          ∙ ap (λ l. map (f y) l ++ f y (get_or (set items i x') i x') ∷ []) (take-set items i x')
          ∙ ap (λ z. map (f y) (take i items) ++ f y z ∷ []) (get_or-set_same items i x' x' lt')
          ∙ ap (λ l. l ++ f y x' ∷ []) (w.behind y)
          ∙ ap (λ z. map (p y) (take i init) ++ z ∷ []) (e y ∙ ap (λ l. p y (get_or l 0 x)) here)
          ∙ sym (map_next (p y) init i x lt);
    })

-- at the end each element has, by f, what its first state had by p
pub walked : {M X Y : Type 0} (f p : Y → M → X) (init items : List M) (i : ℕ) → length init ≤ i → length items ≡ length init → Walked f p init items i
    → (y : Y) → map (f y) items ≡ map (p y) init
walked f p init items i past same_length w y =
    ap (map (f y)) (sym (take_all i items (omega arith))) ∙ w.behind y ∙ ap (map (p y)) (take_all i init past)

-- what f gives of the element at a place
pub at_place : {M X : Type 0} (f : M → X) (xs : List M) (i : ℕ) (x : M) (e : X) → i < length xs → x ≡ get_or xs i x → f x ≡ get_or (map f xs) i e
at_place f xs i x e lt is = ap f is ∙ sym (get_or-map f xs i x e lt)

-- a vector whose elements were changed through a slice
pub written_back : {M : Type 0} (old new : List M) (n : ℕ) → length old ≡ n → length new ≡ length old → take n (new ++ drop (length new) old) ≡ new
written_back old new n len same_length = take-append-le n new (drop (length new) old) (omega arith) ∙ take_all n new (omega arith)
