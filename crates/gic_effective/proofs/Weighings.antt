-- The windings of a transformer, as its weights name them.
use Rattle.std.proofs.Common.{◌≡◌, ℕ, ◌*◌, ◌≤◌, ◌<◌, List, [], ◌∷◌, ◌++◌, Option, Some, None, IfSome, All, IsTrue, ℤ, pos, ◌+ℤ◌, ◌*ℤ◌, arith, refl, ap, ap₂, subst, inl, inr, ◌∙◌}
use Rattle.std.proofs.lemmas.Bool.{cases_Bool}
use Rattle.std.proofs.lemmas.Int.{ints}
use Rattle.std.proofs.lemmas.List.Elements.{recursion_from_All}
use Rattle.std.specs.List.{AllByRecursion}
use Rattle.std.specs.Option.{option_to_list}
use lib.IntN.{*ℤ_comm, *ℤ-zero}
use Rattle.gic_base.specs.declared.id.ElementId.{ElementId}
use Rattle.gic_case.specs.declared.item.Transformer.{Transformer}
use Rattle.gic_case.specs.declared.winding.Winding.{Winding}
use Rattle.gic_case.specs.Lists.{Lists, has_effect}
use Rattle.gic_case.specs.Windings.{windings_of}
use Rattle.gic_case.specs.Sound.{IsSoundWinding, IsSoundTransformer}
use Rattle.gic_base.proofs.Each.{weaker}
use Rattle.gic_fixed.specs.Encloses.{Encloses}
use Rattle.gic_fixed.specs.Rounding.{floor_div, ceil_div}
use Rattle.gic_fixed.specs.Ends.{Ends, zero_ends, IsAtMostWide}
use Rattle.gic_fixed.proofs.Divisions.{floor_is, ceil_is}
use Rattle.gic_fixed.proofs.Integers.{linear}
use Rattle.gic_model.specs.Solution.{Solution, IsSolution}
use Rattle.gic_model.specs.Standing.{is_standing}
use Rattle.gic_model.specs.Sums.{Placed, sum_of}
use Rattle.gic_winding.specs.declared.weights.Weights.{Weights}
use Rattle.gic_winding.specs.Weights.{weight_of, weighed_by}
use Rattle.gic_effective.specs.Holds.{HoldsSolution}
use Rattle.gic_effective.specs.Shown.{AreSharp, IsShownWinding}
use Rattle.gic_effective.specs.WeightedSum.{weighted, weighted_sum, weight_in, total_weight}
use Rattle.gic_effective.proofs.Currents.{Encloses-same}
use Rattle.gic_effective.proofs.Widths.{same_width}

-- the current of a winding in a solution; 0 where there is none
abbrev pub current_in : Solution → Option (ElementId × ℕ) → ℤ
current_in s None = pos 0
current_in s (Some winding) = s.current winding.0.0

-- a winding in front of a list adds its current
abbrev current_of : Solution → ElementId × ℕ → ℤ
current_of s w = pos w.1 *ℤ s.current w.0.0

before : (s : Solution) (winding : Option (ElementId × ℕ)) (rest : List (ElementId × ℕ))
    → weighted winding (current_in s winding) +ℤ sum_of (current_of s) rest ≡ sum_of (current_of s) (option_to_list winding ++ rest)
before s None rest = omega (arith, linear)
before s (Some w) rest = refl

alone : (s : Solution) (winding : Option (ElementId × ℕ)) → weighted winding (current_in s winding) ≡ sum_of (current_of s) (option_to_list winding)
alone s None = refl
alone s (Some w) = omega (arith, linear)

-- so three windings in one list add up as they do one by one
pub all_summed : (s : Solution) (w : Weights) →
    weighted_sum w (current_in s w.first) (current_in s w.second) (current_in s w.third) ≡
    sum_of (λ v. pos v.1 *ℤ s.current v.0.0) (option_to_list w.first ++ (option_to_list w.second ++ option_to_list w.third))
all_summed s w =
    let first = before s w.first (option_to_list w.second ++ option_to_list w.third) in
    let second = before s w.second (option_to_list w.third) in
    let third = alone s w.third in
    omega (arith, linear, first, second, third)

module _ (standing : List Placed) (volts : ℕ → ℤ) (potentials : List Ends) where
  pub winding_holds : (winding : Option (ElementId × ℕ)) (lo hi : ℤ) (s : Solution) → IsShownWinding standing volts potentials winding lo hi → IsSolution standing volts s → HoldsSolution standing potentials s →
      Encloses lo hi (current_in s winding) s.denominator
  winding_holds None lo hi s shown solves holds = Encloses-same lo hi (pos 0) (pos 0) (pos 0) s.denominator shown.0 shown.1 (record { above_lo = omega (arith, ints); below_hi = omega (arith, ints) })
  winding_holds (Some w) lo hi s shown solves holds = shown.holds s solves holds

  pub winding_narrow : (winding : Option (ElementId × ℕ)) (lo hi : ℤ) (width : ℕ) → IsShownWinding standing volts potentials winding lo hi → AreSharp standing volts potentials width →
      IsAtMostWide width (floor_div lo (pos 1000000)) (ceil_div hi (pos 1000000))
  winding_narrow None lo hi width shown sharp =
      same_width (floor_div lo (pos 1000000)) (ceil_div hi (pos 1000000)) (pos 0) (pos 0) width (ap (λ z. floor_div z (pos 1000000)) shown.0) (ap (λ z. ceil_div z (pos 1000000)) shown.1) (omega (arith, ints))
  winding_narrow (Some w) lo hi width shown sharp = shown.narrow width sharp

-- the winding, if there is one, has no weight where it stands
abbrev pub HasNone : List Placed → ElementId × ℕ → Type 0
HasNone standing w = IsTrue (is_standing standing w.0.0) → w.1 ≡ 0

prefix_of_all : {X : Type 0} (P : X → Type 0) (a : Option X) (rest : List X) → AllByRecursion P (option_to_list a ++ rest) → IfSome a P × AllByRecursion P rest
prefix_of_all P None rest h = (tt, h)
prefix_of_all P (Some x) rest h = h

last_of_all : {X : Type 0} (P : X → Type 0) (a : Option X) → AllByRecursion P (option_to_list a) → IfSome a P
last_of_all P None h = tt
last_of_all P (Some x) h = h.0

no_weight : (n : ℕ) (z : ℤ) → n ≡ 0 → pos n *ℤ z ≡ pos 0
no_weight n z e = ap (λ (m : ℕ). pos m *ℤ z) e ∙ *ℤ_comm (pos 0) z ∙ *ℤ-zero z

no_current : (n : ℕ) (z : ℤ) → z ≡ pos 0 → pos n *ℤ z ≡ pos 0
no_current n z e = ap (λ (y : ℤ). pos n *ℤ y) e ∙ omega (arith, linear)

module _ (standing : List Placed) (volts : ℕ → ℤ) (potentials : List Ends) where
  weighted_zero : (winding : Option (ElementId × ℕ)) (lo hi : ℤ) → IsShownWinding standing volts potentials winding lo hi → IfSome winding (HasNone standing)
      → (weighted winding lo ≡ pos 0) × (weighted winding hi ≡ pos 0)
  weighted_zero None lo hi shown none = (refl, refl)
  weighted_zero (Some w) lo hi shown none = elim (cases_Bool (is_standing standing w.0.0)) [
    | inl stands ↦ (no_weight w.1 lo (none stands), no_weight w.1 hi (none stands))
    | inr out ↦ (no_current w.1 lo (shown.zeroed out).0, no_current w.1 hi (shown.zeroed out).1)
  ]

  -- where no winding that stands has a weight, the weighted sums of the ends are 0
  pub sums_zero : (ws : List (ElementId × ℕ)) (w : Weights) (lo hi lo' hi' lo'' hi'' : ℤ)
      → ws ≡ option_to_list w.first ++ (option_to_list w.second ++ option_to_list w.third)
      → IsShownWinding standing volts potentials w.first lo hi → IsShownWinding standing volts potentials w.second lo' hi' → IsShownWinding standing volts potentials w.third lo'' hi''
      → All (HasNone standing) ws → (weighted_sum w lo lo' lo'' ≡ pos 0) × (weighted_sum w hi hi' hi'' ≡ pos 0)
  sums_zero ws w lo hi lo' hi' lo'' hi'' is one other last none =
      let all = subst (AllByRecursion (HasNone standing)) is (recursion_from_All (HasNone standing) ws none) in
      let prefix = prefix_of_all (HasNone standing) w.first _ all in
      let behind = prefix_of_all (HasNone standing) w.second _ prefix.1 in
      let first = weighted_zero w.first lo hi one prefix.0 in
      let second = weighted_zero w.second lo' hi' other behind.0 in
      let third = weighted_zero w.third lo'' hi'' last (last_of_all (HasNone standing) w.third behind.1) in
      (omega (arith, linear, first.0, second.0, third.0), omega (arith, linear, first.1, second.1, third.1))

-- and so are their quotients
abbrev pub ends_by : ℤ → ℤ → Ends
ends_by lo hi = record { low = lo; high = hi }

pub quotients_zero : (a b lo hi : ℤ) (d : ℕ) → 0 < d → lo ≡ floor_div a (pos d) → hi ≡ ceil_div b (pos d) → a ≡ pos 0 → b ≡ pos 0 → ends_by lo hi ≡ zero_ends
quotients_zero a b lo hi d some low high e f =
    let least = low ∙ ap (λ (z : ℤ). floor_div z (pos d)) e ∙ floor_is (pos 0) d (pos 0) some (omega (arith, linear)) (omega (arith, linear)) in
    let most = high ∙ ap (λ (z : ℤ). ceil_div z (pos d)) f ∙ ceil_is (pos 0) d (pos 0) some (omega (arith, linear)) (omega (arith, linear)) in
    ap₂ ends_by least most

-- no winding's weight is above the high voltage
abbrev pub AreAtMost : Transformer → Type 0
AreAtMost t = AllByRecursion (λ w. weight_of t w ≤ t.high_volts) (windings_of t)

weight_most : (t : Transformer) (w : Winding) → w.from.volts ≤ t.high_volts → weight_of t w ≤ t.high_volts
weight_most t w h = elim (cases_Bool (has_effect t.kind)) [
  | inl has ↦ rw has (omega (arith, h))
  | inr none ↦ rw none (omega arith)
]

-- so it is where the transformer is sound
pub weights_at_most : (c : Lists) (t : Transformer) → IsSoundTransformer c t → AreAtMost t
weights_at_most c t h =
    weaker (IsSoundWinding c t.high_volts) (λ w. weight_of t w ≤ t.high_volts) (λ w sound. weight_most t w sound.order) (windings_of t)
    (recursion_from_All (IsSoundWinding c t.high_volts) (windings_of t) h.windings_sound)

each_most : (weight : Winding → ℕ) (most : ℕ) (ps : List Placed) (ws : List Winding) → AllByRecursion (λ w. weight w ≤ most) ws → AllByRecursion (λ v. v.1 ≤ most) (weighed_by weight ps ws)
each_most weight most [] ws h = tt
each_most weight most (p ∷ ps) [] h = tt
each_most weight most (p ∷ ps) (w ∷ ws) h = (h.0, each_most weight most ps ws h.1)

one_most : (a : Option (ElementId × ℕ)) (volts : ℕ) → IfSome a (λ w. w.1 ≤ volts) → weight_in a ≤ volts
one_most None volts h = omega arith
one_most (Some w) volts h = h

-- and three weights are together at most three times the high voltage
pub weights_most : (t : Transformer) (ps : List Placed) (w : Weights) → AreAtMost t →
    weighed_by (weight_of t) ps (windings_of t) ≡ option_to_list w.first ++ (option_to_list w.second ++ option_to_list w.third) → total_weight w ≤ 3 * t.high_volts
weights_most t ps w h is =
    let all = subst (AllByRecursion (λ v. v.1 ≤ t.high_volts)) is (each_most (weight_of t) t.high_volts ps (windings_of t) h) in
    let prefix = prefix_of_all (λ v. v.1 ≤ t.high_volts) w.first _ all in
    let behind = prefix_of_all (λ v. v.1 ≤ t.high_volts) w.second _ prefix.1 in
    let first = one_most w.first t.high_volts prefix.0 in
    let second = one_most w.second t.high_volts behind.0 in
    let third = one_most w.third t.high_volts (last_of_all (λ v. v.1 ≤ t.high_volts) w.third behind.1) in
    omega (arith, first, second, third)
