-- What filters keep of lists with places.
use Rattle.std.proofs.Common.{◌≡◌, ℕ, ◌+◌, ◌<◌, Bool, true, false, cond, List, [], ◌∷◌, ◌++◌, length, map, get_or, arith, refl, ap, sym, ◌∙◌, subst, append_assoc, length-append}
use Rattle.std.specs.List.{AllByRecursion, filter, enumerate_from}
use Rattle.gic_model.specs.declared.parts.Element.{Element}
use Rattle.gic_model.specs.declared.parts.Item.{Item}
use Rattle.gic_model.specs.Network.{Network, ends_at}
use Rattle.gic_model.specs.Standing.{standing_elements, elements_at}
use Rattle.gic_model.specs.Sums.{Placed}
use Rattle.gic_model.proofs.Members.{kept, filter_same}
use Rattle.gic_net.specs.Net.{no_element}
use Rattle.gic_net.specs.Rows.{places_from}

-- two filters in either order
pub filter_comm : {X : Type 0} (p q : X → Bool) (xs : List X) → filter p (filter q xs) ≡ filter q (filter p xs)
filter_comm p q [] = refl
filter_comm p q (x ∷ xs) = by (p x) (q x) refl refl (filter_comm p q xs)
  where
    by : (a b : Bool) → p x ≡ a → q x ≡ b → filter p (filter q xs) ≡ filter q (filter p xs) →
        filter p (cond b (x ∷ filter q xs) (filter q xs)) ≡ filter q (cond a (x ∷ filter p xs) (filter p xs))
    by true true first second rest = rw (first, second) (ap (λ ys. x ∷ ys) rest)
    by true false first second rest = rw second rest
    by false true first second rest = rw first rest
    by false false first second rest = rest

-- a filter over what f gives
pub filter-map : {X Y : Type 0} (p : Y → Bool) (f : X → Y) (xs : List X) → filter p (map f xs) ≡ map f (filter (λ x. p (f x)) xs)
filter-map p f [] = refl
filter-map p f (x ∷ xs) = by (p (f x)) (filter-map p f xs)
  where
    by : (b : Bool) → filter p (map f xs) ≡ map f (filter (λ y. p (f y)) xs) → cond b (f x ∷ filter p (map f xs)) (filter p (map f xs)) ≡ map f (cond b (x ∷ filter (λ y. p (f y)) xs) (filter (λ y. p (f y)) xs))
    by true rest = ap (λ ys. f x ∷ ys) rest
    by false rest = rest

-- a filter whose test all pass
pub filter_all : {X : Type 0} (p : X → Bool) (xs : List X) → ((x : X) → p x ≡ true) → filter p xs ≡ xs
filter_all p [] h = refl
filter_all p (x ∷ xs) h = ap (λ b. cond b (x ∷ filter p xs) (filter p xs)) (h x) ∙ ap (λ ys. x ∷ ys) (filter_all p xs h)

pub each_of : {X : Type 0} (P : X → Type 0) (xs : List X) → ((x : X) → P x) → AllByRecursion P xs
each_of P [] h = tt
each_of P (x ∷ xs) h = (h x, each_of P xs h)

each_mapped : {X Y : Type 0} (P : Y → Type 0) (f : X → Y) (xs : List X) → AllByRecursion (λ x. P (f x)) xs → AllByRecursion P (map f xs)
each_mapped P f [] h = tt
each_mapped P f (x ∷ xs) h = (h.0, each_mapped P f xs h.1)

-- a place of the list, with the element there
abbrev pub IsIn : List Element → Placed → Type 0
IsIn all p = (p.0 < length all) × (p.1 ≡ get_or all p.0 no_element)

get_or_middle : (before after : List Element) (e d : Element) → get_or (before ++ e ∷ after) (length before) d ≡ e
get_or_middle [] after e d = refl
get_or_middle (b ∷ before) after e d = get_or_middle before after e d

numbered : (before after : List Element) → AllByRecursion (IsIn (before ++ after)) (enumerate_from (length before) after)
numbered before [] = tt
numbered before (e ∷ after) =
    let rest = numbered (before ++ e ∷ []) after in
    let same : (before ++ e ∷ []) ++ after ≡ before ++ e ∷ after = append_assoc before (e ∷ []) after in
    let len : length (before ++ e ∷ []) ≡ length before + 1 = omega (arith, length-append before (e ∷ [])) in
    let moved = subst (λ (all : List Element). AllByRecursion (IsIn all) (enumerate_from (length (before ++ e ∷ [])) after)) same rest in (
      (omega (arith, length-append before (e ∷ after)), sym (get_or_middle before after e no_element)),
      subst (λ (n : ℕ). AllByRecursion (IsIn (before ++ e ∷ after)) (enumerate_from n after)) len moved,
    )

-- each element with its place
pub each_in : (list : List Element) → AllByRecursion (IsIn list) (enumerate_from 0 list)
each_in list = numbered [] list

-- a place of the list, whose element ends at the node k
abbrev pub EndsAt : List Element → ℕ → ℕ → Type 0
EndsAt list k place = (place < length list) × (ends_at (get_or list place no_element) k ≡ true)

-- so is each of the places of the elements that end there
pub each_ends : (list : List Element) (k : ℕ) → AllByRecursion (EndsAt list k) (places_from 0 list k)
each_ends list k =
    each_mapped (EndsAt list k) (λ (p : Placed). p.0) (filter (λ p. ends_at p.1 k) (enumerate_from 0 list))
    (kept (λ p. ends_at p.1 k) (IsIn list) (λ p. EndsAt list k p.0) (λ p is h. (h.0, ap (λ e. ends_at e k) (sym h.1) ∙ is)) (enumerate_from 0 list) (each_in list))

-- the places of the elements at the node k whose items pass a test
pub kept_places : (network : Network) (t : Item → Bool) (k : ℕ) →
    filter (λ place. t (get_or network.list place no_element).item) (places_from 0 network.list k) ≡ map (λ (p : Placed). p.0) (elements_at (standing_elements network t) k)
kept_places network t k =
    let at_k = filter (λ (p : Placed). ends_at p.1 k) (enumerate_from 0 network.list) in
    filter-map (λ place. t (get_or network.list place no_element).item) (λ (p : Placed). p.0) at_k ∙
    ap (map (λ (p : Placed). p.0))
    (filter_same (λ (p : Placed). t (get_or network.list p.0 no_element).item) (λ (p : Placed). t p.1.item) at_k
    (kept (λ p. ends_at p.1 k) (IsIn network.list) (λ p. t (get_or network.list p.0 no_element).item ≡ t p.1.item) (λ p is h. ap (λ (e : Element). t e.item) (sym h.1)) (enumerate_from 0 network.list) (each_in network.list)) ∙
    filter_comm (λ (p : Placed). t p.1.item) (λ (p : Placed). ends_at p.1 k) (enumerate_from 0 network.list))
