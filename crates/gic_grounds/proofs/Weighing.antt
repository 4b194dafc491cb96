-- The weights of a transformer's windings, by places.
use Rattle.std.proofs.Common.{◌≡◌, ℕ, zero, suc, ◌+◌, ◌-◌, ◌*◌, ◌/◌, ◌^◌, ◌<◌, ◌≤◌, ◌==◌, Bool, true, false, cond, List, [], ◌∷◌, ◌++◌, length, get_or, map, arith, refl, ap, sym, subst, ◌∙◌, ⊎_elim, inl, inr, ◌⊎◌, ℤ, pos, ◌+ℤ◌, ◌*ℤ◌, ◌≤ℤ◌, eqb-true}
use Rattle.std.proofs.Math.Nat.{mul-le-mul, mul-le-mul_left, mul-le-mul_right, mul-div-le, lt-mul-div-succ}
use Rattle.std.proofs.lemmas.Bool.{cases_lt, ne_eqb}
use Rattle.std.proofs.lemmas.Int.{ints}
use Rattle.std.proofs.lemmas.List.{get_or_past, get_or_default, get_or-append_right, get_or_append_left, length-map}
use Rattle.std.proofs.lemmas.List.Elements.{All-from_recursion, All-get_or}
use Rattle.std.proofs.lemmas.List.Sums.{sum_by-cons}
use Rattle.std.specs.List.{AllByRecursion, enumerate_from, sum_by}
use lib.IntN.{*ℤ-zero}
use Rattle.gic_base.specs.declared.id.ElementId.{ElementId}
use Rattle.gic_case.specs.declared.item.Transformer.{Transformer}
use Rattle.gic_case.specs.declared.winding.Winding.{Winding}
use Rattle.gic_case.specs.Lists.{Lists, neutrals_of}
use Rattle.gic_case.specs.Sound.{IsRated, IsSound, IsSoundTransformer}
use Rattle.gic_case.specs.Windings.{windings_of}
use Rattle.gic_case.proofs.SoundWindings.{few_windings}
use Rattle.gic_fixed.proofs.Integers.{linear}
use Rattle.gic_model.specs.declared.parts.Element.{Element}
use Rattle.gic_model.specs.declared.parts.Item.{Item}
use Rattle.gic_model.specs.Limits.{most_wide_volts}
use Rattle.gic_model.specs.Standing.{standing_elements}
use Rattle.gic_model.specs.Sums.{Placed}
use Rattle.gic_model.specs.Voltages.{number_at}
use Rattle.gic_model.proofs.Members.{kept}
use Rattle.gic_net.proofs.Kept.{IsIn, each_in}
use Rattle.gic_net.specs.Net.{no_element}
use Rattle.gic_varied.specs.Grounds.{is_ground, HaveNoGroundVolts}
use Rattle.gic_varied.specs.Reciprocal.{weights_from}
use Rattle.gic_effective.proofs.Weighings.{weights_at_most}
use Rattle.gic_winding.specs.declared.weights.Weights.{Weights}
use Rattle.gic_winding.specs.ElementList.{elements_of, winding_element, winding_elements}
use Rattle.gic_winding.specs.WeightParts.{weights_of}
use Rattle.gic_winding.specs.Weights.{weight_of, windings_at, weighed_by, transformer_at, no_transformer, weighted_windings}
use Rattle.gic_winding.proofs.Around.{prefix_of, suffix_of, around}
use Rattle.gic_winding.proofs.Parts.{winding_part}
use Rattle.gic_winding.proofs.Neutrals.{transformer_of}
use Rattle.gic_winding.proofs.Weighted.{weighed, weighted_there, windings_fit}
use Rattle.gic_grounds.specs.Scale.{most_weight_volts, windings_in, weight_at}

-- the greatest multiple leaves each weight's voltage within its limit
pub multiple_space : (high unit : ℕ) → most_weight_volts / (high * (2 * unit)) * (2 * unit) * high ≤ most_weight_volts
multiple_space high unit = let below = mul-div-le most_weight_volts (high * (2 * unit)) in omega (arith, below)

-- and is great enough for stray powers
pub multiple_enough : (high unit : ℕ) → IsRated high → 0 < unit → unit < 2 ^ 7 → 2 ^ 22 ≤ 3 * high * (most_weight_volts / (high * (2 * unit)))
multiple_enough high unit rated some small =
    let m = most_weight_volts / (high * (2 * unit)) in
    let first_one : 1 ≤ high = omega (arith, rated.0) in
    let product : 1 * 1 ≤ high * unit = mul-le-mul first_one some in
    let above : most_weight_volts < high * (2 * unit) * (m + 1) = lt-mul-div-succ most_weight_volts (omega (arith, product)) in
    let few : unit ≤ 128 = omega (arith, small) in
    let size : high * unit ≤ 2000000 * 128 = mul-le-mul rated.1 few in
    ⊎_elim
    (λ none.
    let zero_is : m ≡ 0 = omega (arith, none) in
    let over : most_weight_volts < high * (2 * unit) * (0 + 1) = subst (λ k. most_weight_volts < high * (2 * unit) * (k + 1)) zero_is above in
    absurd (omega (arith, over, size)))
    (λ one.
    let more : high * unit * 1 ≤ high * unit * m = mul-le-mul_left (high * unit) one in
    let less : high * m * unit ≤ high * m * 128 = mul-le-mul_left (high * m) (omega (arith, small)) in
    omega (arith, above, more, less))
    (cases_lt m 1)

-- its divisor fits
pub divisor_fits : (high unit : ℕ) → IsRated high → unit < 2 ^ 7 → high * (2 * unit) < 2 ^ 64
divisor_fits high unit rated small =
    let few : 2 * unit ≤ 2 * 128 = omega (arith, small) in
    let size : high * (2 * unit) ≤ 2000000 * (2 * 128) = mul-le-mul rated.1 few in
    omega (arith, size)

-- and is above 0
pub divisor_above : (high unit : ℕ) → IsRated high → 0 < unit → 0 < high * (2 * unit)
divisor_above high unit rated some =
    let one : 1 ≤ high = omega (arith, rated.0) in
    let other : 1 ≤ 2 * unit = omega (arith, some) in
    let product : 1 * 1 ≤ high * (2 * unit) = mul-le-mul one other in
    omega (arith, product)

-- the unit of stray powers fits
pub stray_fits : (high unit m : ℕ) → 0 < unit → m * (2 * unit) * high ≤ most_weight_volts → 3 * high * m < 2 ^ 64
stray_fits high unit m some space = let more : high * m * 1 ≤ high * m * unit = mul-le-mul_left (high * m) some in omega (arith, space, more)

-- so does the number of nanovolts in a weight's volt
pub times_fits : (high unit m : ℕ) → IsRated high → m * (2 * unit) * high ≤ most_weight_volts → m * (2 * unit) < 2 ^ 64
times_fits high unit m rated space = let more : m * (2 * unit) * 1 ≤ m * (2 * unit) * high = mul-le-mul_left (m * (2 * unit)) (omega (arith, rated.0)) in omega (arith, space, more)

-- and a weight so many times stays within the limit
pub scaled_fits : (times weight high : ℕ) (z : ℤ) → pos weight ≡ z → z ≤ℤ pos high → times * high ≤ most_weight_volts → times * weight ≤ most_wide_volts
scaled_fits times weight high z is most space = let less : times * weight ≤ times * high = mul-le-mul_left times (omega (arith, ints, is, most)) in omega (arith, space, less)

-- listed weights add up to at most as many times the greatest as there are windings
weighed_reach : (weight : Winding → ℕ) (most : ℕ) (ps : List Placed) (ws : List Winding) → AllByRecursion (λ w. weight w ≤ most) ws →
    sum_by (λ v. v.1) (weighed_by weight ps ws) ≤ length ws * most
weighed_reach weight most [] ws h = omega arith
weighed_reach weight most (p ∷ ps) [] h = omega arith
weighed_reach weight most (p ∷ ps) (w ∷ ws) h =
    let rest = weighed_reach weight most ps ws h.1 in
    let sum = sum_by-cons (λ (v : ElementId × ℕ). v.1) (record { 0 = p.0 }, weight w) (weighed_by weight ps ws) in
    omega (arith, h.0, rest, sum)

-- so the weights of a transformer, which are at most three, add up to at most three times its high voltage
pub weights_sum : (c : Lists) (t : ℕ) → IsSound c → t < length c.transformers → sum_by (λ w. w.1) (weighted_windings c t) ≤ 3 * (transformer_at c t).high_volts
weights_sum c t sound inside =
    let row = transformer_at c t in
    let row_sound = All-get_or (IsSoundTransformer c) c.transformers t no_transformer inside sound.transformers_sound in
    let few : length (windings_of row) ≤ 3 = few_windings row.high_volts row.kind in
    let sum = weighed_reach (weight_of row) row.high_volts (windings_at (elements_of c) t) (windings_of row) (weights_at_most c row row_sound) in
    let three : length (windings_of row) * row.high_volts ≤ 3 * row.high_volts = mul-le-mul_right row.high_volts few in
    omega (arith, sum, three)

-- windings that stand one after another have no weight before the first place
none_before : (weight : Winding → ℕ) (n place : ℕ) (ws : List Winding) → place < n → weight_at (map (λ p. weighed weight p.0 p.1) (enumerate_from n ws)) place ≡ pos 0
none_before weight n place [] less = refl
none_before weight n place (w ∷ ws) less =
    let rest = none_before weight (n + 1) place ws (omega (arith, less)) in
    let other : (n == place) ≡ false = ne_eqb n place (λ same. absurd (omega (arith, less, same))) in
    ap (λ b. cond b (pos (weight w)) (pos 0) +ℤ weight_at (map (λ p. weighed weight p.0 p.1) (enumerate_from (n + 1) ws)) place) other ∙ omega (arith, linear, rest)

-- nor behind the last
none_after : (weight : Winding → ℕ) (n place : ℕ) (ws : List Winding) → n + length ws ≤ place → weight_at (map (λ p. weighed weight p.0 p.1) (enumerate_from n ws)) place ≡ pos 0
none_after weight n place [] past = refl
none_after weight n place (w ∷ ws) past =
    let rest = none_after weight (n + 1) place ws (omega (arith, past)) in
    let other : (n == place) ≡ false = ne_eqb n place (λ same. absurd (omega (arith, past, same))) in
    ap (λ b. cond b (pos (weight w)) (pos 0) +ℤ weight_at (map (λ p. weighed weight p.0 p.1) (enumerate_from (n + 1) ws)) place) other ∙ omega (arith, linear, rest)

-- and no more than the greatest at any place, since at most one is there
one_most : (weight : Winding → ℕ) (n place most : ℕ) (ws : List Winding) → AllByRecursion (λ w. weight w ≤ most) ws →
    weight_at (map (λ p. weighed weight p.0 p.1) (enumerate_from n ws)) place ≤ℤ pos most
one_most weight n place most [] h = omega (arith, ints)
one_most weight n place most (w ∷ ws) h = by (n == place) refl (one_most weight (n + 1) place most ws h.1)
  where
    rest : ℤ
    rest = weight_at (map (λ p. weighed weight p.0 p.1) (enumerate_from (n + 1) ws)) place

    by : (b : Bool) → (n == place) ≡ b → rest ≤ℤ pos most → (cond b (pos (weight w)) (pos 0) +ℤ rest) ≤ℤ pos most
    by true is later =
        let same = eqb-true n place is in
        let none = none_before weight (n + 1) place ws (omega (arith, same)) in
        omega (arith, linear, none, h.0)
    by false is later = omega (arith, linear, later)

-- a winding is no ground
winding_is_none : (place first_bus neutral : ℕ) (ws : List Winding) (i : ℕ) (d : Element) → i < length ws → is_ground (get_or (winding_elements first_bus place neutral ws) i d) ≡ false
winding_is_none place first_bus neutral [] i d inside = absurd (omega (arith, inside))
winding_is_none place first_bus neutral (w ∷ ws) zero d inside = refl
winding_is_none place first_bus neutral (w ∷ ws) (suc i) d inside = winding_is_none place first_bus neutral ws i d (omega (arith, inside))

-- two values of a test that differ
no_way : false ≡ true → ⊥
no_way e = cc

module _ (c : Lists) (t : ℕ) (row : Transformer) (inside : t < length c.transformers) (at : row ≡ get_or c.transformers t row) where
  -- the weighted windings are at the places from here on
  abbrev first : ℕ
  first = length (prefix_of c t)

  -- where they aren't there is no weight
  outside : (place : ℕ) → (place < first) ⊎ (first + length (windings_of row) ≤ place) → weight_at (weighted_windings c t) place ≡ pos 0
  outside place (inl before) = ap (λ l. weight_at l place) (weighted_there c t row inside at) ∙ none_before (weight_of row) first place (windings_of row) before
  outside place (inr behind) = ap (λ l. weight_at l place) (weighted_there c t row inside at) ∙ none_after (weight_of row) first place (windings_of row) behind

  -- no place has more weight than the high voltage
  pub weight_most : (place : ℕ) → IsSoundTransformer c row → weight_at (weighted_windings c t) place ≤ℤ pos row.high_volts
  weight_most place sound =
      subst (λ l. weight_at l place ≤ℤ pos row.high_volts) (sym (weighted_there c t row inside at))
      (one_most (weight_of row) first place row.high_volts (windings_of row) (weights_at_most c row sound))

  -- past all elements there is none
  pub past_all : (place : ℕ) → length (elements_of c).list ≤ place → weight_at (weighted_windings c t) place ≡ pos 0
  past_all place past = outside place (inr (omega (arith, past, windings_fit c t row inside at)))

  -- none is at a ground
  pub its_none : (place : ℕ) → first ≤ place → place < first + length (windings_of row) → is_ground (get_or (elements_of c).list place no_element) ≡ false
  unfolding elements_of
  its_none place from below =
      let d : ℕ × Transformer = (0, row) in
      let neutral = (get_or (neutrals_of c) t d).0 in
      let its = winding_part c (t, get_or (neutrals_of c) t d) in
      let it : (get_or (neutrals_of c) t d).1 ≡ row = transformer_of c t 0 row inside at in
      let count : length its ≡ length (windings_of row) =
      length-map (windings_of (get_or (neutrals_of c) t d).1) (winding_element (length c.substations) t neutral) ∙ ap (λ (w : Transformer). length (windings_of w)) it in
      let many : place - first < length (windings_of (get_or (neutrals_of c) t d).1) = subst (λ (w : Transformer). place - first < length (windings_of w)) (sym it) (omega (arith, from, below)) in
      ap (λ l. is_ground (get_or l place no_element)) (around c t d inside)
      ∙ ap is_ground (get_or-append_right (prefix_of c t) (its ++ suffix_of c t) first place no_element refl from)
      ∙ ap is_ground (get_or_append_left its (suffix_of c t) no_element (place - first) (omega (arith, from, below, count)))
      ∙ winding_is_none t (length c.substations) neutral (windings_of (get_or (neutrals_of c) t d).1) (place - first) no_element many

  -- so no ground has a weight
  pub no_ground_weight : (place : ℕ) → is_ground (get_or (elements_of c).list place no_element) ≡ true → weight_at (weighted_windings c t) place ≡ pos 0
  no_ground_weight place ground = ⊎_elim
      (λ before. outside place (inl before))
      (λ from. ⊎_elim
      (λ below. absurd (no_way (sym (its_none place from below) ∙ ground)))
      (λ behind. outside place (inr behind))
      (cases_lt place (first + length (windings_of row))))
      (cases_lt place first)

  -- the voltages that were filled in are the weights, at every place
  pub filled_weights : (times : ℕ) (volts : List ℤ) → length volts ≡ length (elements_of c).list →
      ((place : ℕ) → place < length (elements_of c).list → number_at volts place ≡ weights_from times (weighted_windings c t) place) →
      (place : ℕ) → number_at volts place ≡ weights_from times (weighted_windings c t) place
  filled_weights times volts count each place = ⊎_elim
      (λ less. each place less)
      (λ past. get_or_past volts place (pos 0) (omega (arith, past, count)) ∙ sym (ap (λ z. pos times *ℤ z) (past_all place past) ∙ *ℤ-zero (pos times)))
      (cases_lt place (length (elements_of c).list))

  -- and no ground has one
  pub none_at_grounds : (times : ℕ) (volts : ℕ → ℤ) → ((place : ℕ) → volts place ≡ weights_from times (weighted_windings c t) place) →
      (stands : Item → Bool) → HaveNoGroundVolts (standing_elements (elements_of c) stands) volts
  none_at_grounds times volts are stands =
      let Q = λ (p : Placed). is_ground p.1 ≡ true → volts p.0 ≡ pos 0 in
      All-from_recursion Q (standing_elements (elements_of c) stands)
      (kept (λ p. stands p.1.item) (IsIn (elements_of c).list) Q
      (λ p is in_list ground. are p.0
      ∙ ap (λ z. pos times *ℤ z) (no_ground_weight p.0 (ap is_ground (sym in_list.1) ∙ ground))
      ∙ *ℤ-zero (pos times))
      (enumerate_from 0 (elements_of c).list) (each_in (elements_of c).list))

-- what the weights of a case's transformer weigh at a place
pub weights_most_at : (c : Lists) (t : ℕ) (w : Weights) → IsSound c → t < length c.transformers → w ≡ weights_of c t → weighted_windings c t ≡ windings_in w →
    (place : ℕ) → weight_at (windings_in w) place ≤ℤ pos w.high_volts
weights_most_at c t w sound inside is all place =
    let row = transformer_at c t in
    let at = get_or_default c.transformers t no_transformer row inside in
    subst (λ l. weight_at l place ≤ℤ pos w.high_volts) all
    (subst (λ (v : ℕ). weight_at (weighted_windings c t) place ≤ℤ pos v) (sym (ap (λ (x : Weights). x.high_volts) is))
    (weight_most c t row inside at place (All-get_or (IsSoundTransformer c) c.transformers t no_transformer inside sound.transformers_sound)))

-- no ground has a voltage where these are filled in
pub none_filled_in : (c : Lists) (t times : ℕ) (w : Weights) (volts : List ℤ) → t < length c.transformers → weighted_windings c t ≡ windings_in w → length volts ≡ length (elements_of c).list →
    ((place : ℕ) → place < length (elements_of c).list → number_at volts place ≡ weights_from times (windings_in w) place) →
    (stands : Item → Bool) → HaveNoGroundVolts (standing_elements (elements_of c) stands) (number_at volts)
none_filled_in c t times w volts inside all count each stands =
    let row = transformer_at c t in
    let at = get_or_default c.transformers t no_transformer row inside in
    none_at_grounds c t row inside at times (number_at volts)
    (filled_weights c t row inside at times volts count (λ place less. each place less ∙ ap (λ l. weights_from times l place) (sym all))) stands
