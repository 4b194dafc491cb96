-- The windings of a transformer stand together behind all that comes before them.
use Rattle.std.proofs.Common.{◌≡◌, ℕ, zero, suc, ◌+◌, ◌<◌, ◌≤◌, true, false, List, [], ◌∷◌, ◌++◌, length, get_or, map, Option, Some, None, IfSome, refl, ap, sym, subst, ◌∙◌, arith, length-append}
use Rattle.std.proofs.lemmas.List.{get_or_default, length-map}
use Rattle.std.proofs.lemmas.List.FromFn.{length-enumerate_from}
use Rattle.std.proofs.lemmas.Option.{slice_get_within}
use Rattle.std.specs.Option.{option_map, option_to_list}
use Rattle.std.specs.List.{AllByRecursion, enumerate_from, filter}
use Rattle.gic_base.specs.declared.id.ElementId.{ElementId}
use Rattle.gic_base.proofs.Each.{all_joined, weaker}
use Rattle.gic_case.specs.declared.item.Transformer.{Transformer}
use Rattle.gic_case.specs.declared.winding.Winding.{Winding}
use Rattle.gic_case.specs.Lists.{Lists, neutrals_of}
use Rattle.gic_case.specs.Windings.{windings_of}
use Rattle.gic_model.specs.declared.parts.Element.{Element}
use Rattle.gic_model.specs.Network.{Network}
use Rattle.gic_winding.specs.ElementList.{winding_element, winding_elements, elements_of}
use Rattle.gic_winding.specs.declared.weights.Weights.{Weights}
use Rattle.std.specs.Prelude.{slice_get}
use Rattle.gic_winding.specs.Weights.{weight_of, windings_at, weighed_by, weighted_windings, transformer_at, no_transformer}
use Rattle.gic_winding.specs.WeightParts.{weights_of}
use Rattle.gic_winding.specs.Order.{comes_before, weighted_from}
use Rattle.gic_winding.proofs.Neutrals.{transformer_of}
use Rattle.gic_winding.proofs.Parts.{winding_part}
use Rattle.gic_winding.proofs.Parted.{middle_kept}
use Rattle.gic_winding.proofs.Around.{is_its, IsBefore, IsAfter, IsIts, prefix_of, suffix_of, prefix_before, suffix_after, windings_its, around}

-- the place that parts what comes before from the rest
pub first_place : (c : Lists) (t : ℕ) (list : List Element) (result : ℕ) → t < length c.transformers → list ≡ (elements_of c).list
    → ((prefix suffix : List Element) → list ≡ prefix ++ suffix → AllByRecursion (λ e. comes_before e.item t ≡ true) prefix → AllByRecursion (λ e. comes_before e.item t ≡ false) suffix → result ≡ length prefix)
    → result ≡ length (prefix_of c t)
unfolding elements_of
first_place c t list result inside is found =
    let d : ℕ × Transformer = (0, no_transformer) in
    let its = winding_part c (t, get_or (neutrals_of c) t d) in
    let later = λ (e : Element). comes_before e.item t ≡ false in
    found (prefix_of c t) (its ++ suffix_of c t) (is ∙ around c t d inside)
    (weaker (IsBefore t) (λ e. comes_before e.item t ≡ true) (λ e h. h.first) (prefix_of c t) (prefix_before c t))
    (all_joined later its (suffix_of c t)
    (weaker (IsIts t) later (λ e h. h.later) its (windings_its (length c.substations) t (get_or (neutrals_of c) t d).0 (windings_of (get_or (neutrals_of c) t d).1)))
    (weaker (IsAfter t) later (λ e h. h.later) (suffix_of c t) (suffix_after c t)))

windings_there : (c : Lists) (t : ℕ) (d : ℕ × Transformer) → t < length c.transformers
    → windings_at (elements_of c) t ≡ enumerate_from (length (prefix_of c t)) (winding_part c (t, get_or (neutrals_of c) t d))
unfolding elements_of
windings_there c t d inside =
    let its = winding_part c (t, get_or (neutrals_of c) t d) in
    ap (λ es. filter (λ p. is_its t p.1) (enumerate_from 0 es)) (around c t d inside)
    ∙ middle_kept (is_its t) 0 (prefix_of c t) its (suffix_of c t)
    (weaker (IsBefore t) (λ e. is_its t e ≡ false) (λ e h. h.other) (prefix_of c t) (prefix_before c t))
    (weaker (IsIts t) (λ e. is_its t e ≡ true) (λ e h. h.its) its (windings_its (length c.substations) t (get_or (neutrals_of c) t d).0 (windings_of (get_or (neutrals_of c) t d).1)))
    (weaker (IsAfter t) (λ e. is_its t e ≡ false) (λ e h. h.other) (suffix_of c t) (suffix_after c t))
    ∙ ap (λ n. enumerate_from n its) (omega arith)

-- a winding's place with its weight
abbrev pub weighed : (Winding → ℕ) → ℕ → Winding → ElementId × ℕ
weighed weight place w = (record { 0 = place }, weight w)

-- elements that are made of windings have the weights of these
in_turn : (weight : Winding → ℕ) (part : Winding → Element) (n : ℕ) (ws : List Winding)
    → weighed_by weight (enumerate_from n (map part ws)) ws ≡ map (λ p. weighed weight p.0 p.1) (enumerate_from n ws)
in_turn weight part n [] = refl
in_turn weight part n (w ∷ ws) = ap (λ l. weighed weight n w ∷ l) (in_turn weight part (n + 1) ws)

-- the winding whose turn it is
turn_at : {X Y : Type 0} (f : ℕ × X → Y) (n : ℕ) (xs : List X) (k : ℕ) → slice_get (map f (enumerate_from n xs)) k ≡ option_map (λ x. f (n + k, x)) (slice_get xs k)
turn_at f n [] k = refl
turn_at f n (x ∷ xs) zero = let same : n ≡ n + 0 = omega arith in ap (λ (m : ℕ). Some (f (m, x))) same
turn_at f n (x ∷ xs) (suc k) =
    let same : n + 1 + k ≡ n + suc k = omega arith in
    turn_at f (n + 1) xs k ∙ ap (λ (m : ℕ). option_map (λ x. f (m, x)) (slice_get xs k)) same

pub weighed_turn : (t : Transformer) (first turn : ℕ) → slice_get (weighted_from t first) turn ≡ option_map (λ w. weighed (weight_of t) (first + turn) w) (slice_get (windings_of t) turn)
weighed_turn t first turn = turn_at (λ p. weighed (weight_of t) p.0 p.1) first (windings_of t) turn

-- three items of a list with no more are the whole list
pub whole_of_three : {X : Type 0} (xs : List X) → length xs ≤ 3 → xs ≡ option_to_list (slice_get xs 0) ++ (option_to_list (slice_get xs 1) ++ option_to_list (slice_get xs 2))
whole_of_three [] few = refl
whole_of_three (a ∷ []) few = refl
whole_of_three (a ∷ b ∷ []) few = refl
whole_of_three (a ∷ b ∷ c ∷ []) few = refl
whole_of_three (a ∷ b ∷ c ∷ d ∷ xs) few = absurd (omega arith)

pub length-weighted_from : (t : Transformer) (first : ℕ) → length (weighted_from t first) ≡ length (windings_of t)
length-weighted_from t first = length-map (enumerate_from first (windings_of t)) (λ p. weighed (weight_of t) p.0 p.1) ∙ length-enumerate_from first (windings_of t)

-- the place of the winding whose turn it is
pub turn_inside : (t : Transformer) (first turn : ℕ) → IfSome (slice_get (weighted_from t first) turn) (λ w. w.0.0 < first + length (windings_of t))
turn_inside t first turn = subst (λ o. IfSome o (λ w. w.0.0 < first + length (windings_of t))) (sym (weighed_turn t first turn)) (by (slice_get (windings_of t) turn) (λ w is. slice_get_within (windings_of t) turn w is))
  where
    by : (o : Option Winding) → ((w : Winding) → o ≡ Some w → turn < length (windings_of t)) → IfSome (option_map (λ w. weighed (weight_of t) (first + turn) w) o) (λ w. w.0.0 < first + length (windings_of t))
    by None h = tt
    by (Some w) h = omega (arith, h w refl)

pub weighted_there : (c : Lists) (t : ℕ) (row : Transformer) → t < length c.transformers → row ≡ get_or c.transformers t row → weighted_windings c t ≡ weighted_from row (length (prefix_of c t))
weighted_there c t row inside at =
    let d : ℕ × Transformer = (0, row) in
    let first_bus = length c.substations in
    let n = length (prefix_of c t) in
    let neutral = (get_or (neutrals_of c) t d).0 in
    let it : (get_or (neutrals_of c) t d).1 ≡ row = transformer_of c t 0 row inside at in
    let same : transformer_at c t ≡ row = get_or_default c.transformers t no_transformer row inside ∙ sym at in
    ap (λ (w : Transformer). weighed_by (weight_of w) (windings_at (elements_of c) t) (windings_of w)) same
    ∙ ap (λ ps. weighed_by (weight_of row) ps (windings_of row)) (windings_there c t d inside)
    ∙ ap (λ (w : Transformer). weighed_by (weight_of row) (enumerate_from n (winding_elements first_bus t neutral (windings_of w))) (windings_of row)) it
    ∙ in_turn (weight_of row) (winding_element first_bus t neutral) n (windings_of row)

pub windings_fit : (c : Lists) (t : ℕ) (row : Transformer) → t < length c.transformers → row ≡ get_or c.transformers t row → length (prefix_of c t) + length (windings_of row) ≤ length (elements_of c).list
unfolding elements_of
windings_fit c t row inside at =
    let d : ℕ × Transformer = (0, row) in
    let neutral = (get_or (neutrals_of c) t d).0 in
    let its = winding_part c (t, get_or (neutrals_of c) t d) in
    let it : (get_or (neutrals_of c) t d).1 ≡ row = transformer_of c t 0 row inside at in
    let count : length its ≡ length (windings_of row) =
    length-map (windings_of (get_or (neutrals_of c) t d).1) (winding_element (length c.substations) t neutral) ∙ ap (λ (w : Transformer). length (windings_of w)) it in
    let whole = ap length (around c t d inside) in
    let outer = length-append (prefix_of c t) (its ++ suffix_of c t) in
    let inner = length-append its (suffix_of c t) in
    omega (arith, count, whole, outer, inner)

-- where the windings of a transformer are, and what they weigh
pub record IsThere (c : Lists) (network : Network) (t first : ℕ) (row : Transformer) : Type 0 where
  pub windings : weighted_windings c t ≡ weighted_from row first
  pub fit : first + length (windings_of row) ≤ length network.list
  pub row_at : transformer_at c t ≡ row

pub is_there : (c : Lists) (network : Network) (t first : ℕ) (row : Transformer) → t < length c.transformers → network ≡ elements_of c
    → ((prefix suffix : List Element) → network.list ≡ prefix ++ suffix → AllByRecursion (λ e. comes_before e.item t ≡ true) prefix → AllByRecursion (λ e. comes_before e.item t ≡ false) suffix → first ≡ length prefix)
    → row ≡ get_or c.transformers t row → IsThere c network t first row
is_there c network t first row inside is found at =
    let place = first_place c t network.list first inside (ap (λ n. n.list) is) found in
    record {
      windings = weighted_there c t row inside at ∙ ap (weighted_from row) (sym place);
      fit = omega (arith, place, windings_fit c t row inside at, ap (λ (n : Network). length n.list) is);
      row_at = get_or_default c.transformers t no_transformer row inside ∙ sym at;
    }

abbrev the_weights : Option (ElementId × ℕ) → Option (ElementId × ℕ) → Option (ElementId × ℕ) → ℕ → Weights
the_weights a b e v = record { first = a; second = b; third = e; high_volts = v }

weights_are : (a x b y e z : Option (ElementId × ℕ)) (v w : ℕ) → a ≡ x → b ≡ y → e ≡ z → v ≡ w → the_weights a b e v ≡ the_weights x y z w
weights_are a x b y e z v w first second third volts = cc

pub value_there : (c : Lists) (network : Network) (t first : ℕ) (row : Transformer) (w : Weights) → IsThere c network t first row → w.first ≡ slice_get (weighted_from row first) 0
    → w.second ≡ slice_get (weighted_from row first) 1 → w.third ≡ slice_get (weighted_from row first) 2 → w.high_volts ≡ row.high_volts → w ≡ weights_of c t
value_there c network t first row w there one other last volts =
    let first_is = one ∙ ap (λ ws. slice_get ws 0) (sym there.windings) in
    let second_is = other ∙ ap (λ ws. slice_get ws 1) (sym there.windings) in
    let third_is = last ∙ ap (λ ws. slice_get ws 2) (sym there.windings) in
    let volts_is = volts ∙ ap (λ (r : Transformer). r.high_volts) (sym there.row_at) in
    weights_are w.first (slice_get (weighted_windings c t) 0) w.second (slice_get (weighted_windings c t) 1) w.third (slice_get (weighted_windings c t) 2) w.high_volts (transformer_at c t).high_volts
    first_is second_is third_is volts_is

-- a place below one bound is below a greater one
pub inside_by : (w : Option (ElementId × ℕ)) (low high : ℕ) → low ≤ high → IfSome w (λ x. x.0.0 < low) → IfSome w (λ x. x.0.0 < high)
inside_by None low high order h = tt
inside_by (Some x) low high order h = omega arith
