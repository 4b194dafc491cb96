-- The standing elements of a network with other grounds are those of the network, each with its own resistance or its ground's.
use Rattle.std.proofs.Common.{◌≡◌, ℕ, ◌+◌, Bool, true, false, cond, ◌||◌, ◌==◌, ◌<◌, List, [], ◌∷◌, map, ℤ, pos, ◌+ℤ◌, refl, ap, sym, subst, ◌∙◌}
use Rattle.std.specs.List.{AllByRecursion, filter, list_any, enumerate_from}
use Rattle.std.proofs.lemmas.List.Elements.{recursion_from_All}
use Rattle.gic_model.specs.declared.parts.Item.{Item}
use Rattle.gic_model.specs.declared.parts.Element.{Element}
use Rattle.gic_model.specs.Network.{Network, ends_at}
use Rattle.gic_model.specs.Standing.{standing_elements, is_live, IsLive, is_standing, elements_at, leaving}
use Rattle.gic_model.specs.Sums.{Placed, sum_of}
use Rattle.gic_model.specs.Solution.{Solution, IsOhm, IsSolution}
use Rattle.gic_varied.specs.Grounds.{regrounded, with_grounds}

-- an element at its place, with the other resistance
abbrev pub placed_with : (Element → ℕ) → Placed → Placed
placed_with ohm p = (p.0, regrounded ohm p.1)

-- what is made of each item, under the words of lists
pub filter-map : {X Y : Type 0} (f : X → Y) (test : Y → Bool) (xs : List X) → filter test (map f xs) ≡ map f (filter (λ x. test (f x)) xs)
filter-map f test [] = refl
filter-map {X} {Y} f test (x ∷ xs) = by (test (f x)) (filter-map f test xs)
  where
    by : (b : Bool) → filter test (map f xs) ≡ map f (filter (λ y. test (f y)) xs) →
        cond b (f x ∷ filter test (map f xs)) (filter test (map f xs)) ≡ map f (cond b (x ∷ filter (λ y. test (f y)) xs) (filter (λ y. test (f y)) xs))
    by true rest = ap (λ ys. f x ∷ ys) rest
    by false rest = rest

pub list_any-map : {X Y : Type 0} (f : X → Y) (test : Y → Bool) (xs : List X) → list_any test (map f xs) ≡ list_any (λ x. test (f x)) xs
list_any-map f test [] = refl
list_any-map f test (x ∷ xs) = ap (λ b. test (f x) || b) (list_any-map f test xs)

pub sum_of-map : {X Y : Type 0} (f : X → Y) (g : Y → ℤ) (xs : List X) → sum_of g (map f xs) ≡ sum_of (λ x. g (f x)) xs
sum_of-map f g [] = refl
sum_of-map f g (x ∷ xs) = ap (λ z. g (f x) +ℤ z) (sum_of-map f g xs)

pub all_unmapped : {X Y : Type 0} (f : X → Y) (P : Y → Type 0) (xs : List X) → AllByRecursion P (map f xs) → AllByRecursion (λ x. P (f x)) xs
all_unmapped f P [] h = tt
all_unmapped f P (x ∷ xs) h = (h.0, all_unmapped f P xs h.1)

enumerated : (ohm : Element → ℕ) (i : ℕ) (es : List Element) → enumerate_from i (map (regrounded ohm) es) ≡ map (placed_with ohm) (enumerate_from i es)
enumerated ohm i [] = refl
enumerated ohm i (e ∷ es) = ap (λ ps. (i, regrounded ohm e) ∷ ps) (enumerated ohm (i + 1) es)

pub standing_with : (network : Network) (stands : Item → Bool) (ohm : Element → ℕ) →
    standing_elements (with_grounds ohm network) stands ≡ map (placed_with ohm) (standing_elements network stands)
standing_with network stands ohm =
    ap (filter (λ p. stands p.1.item)) (enumerated ohm 0 network.list) ∙
    filter-map (placed_with ohm) (λ p. stands p.1.item) (enumerate_from 0 network.list)

-- the same nodes are live
pub live_with : (ohm : Element → ℕ) (standing : List Placed) (k : ℕ) → is_live (map (placed_with ohm) standing) k ≡ is_live standing k
live_with ohm standing k = list_any-map (placed_with ohm) (λ p. ends_at p.1 k) standing

-- a solution with these resistances at the grounds, seen over the elements of the network itself
pub record SolvesWith (standing : List Placed) (ohm : Element → ℕ) (volts : ℕ → ℤ) (s : Solution) : Type 0 where
  pub denominator_above_0 : 0 < s.denominator
  pub by_ohm : AllByRecursion (λ p. IsOhm volts s (placed_with ohm p)) standing
  pub none_if_open : (place : ℕ) → is_standing standing place ≡ false → s.current place ≡ pos 0
  pub kirchhoff : (k : ℕ) → IsLive standing k → sum_of (λ p. leaving k p.1 (s.current p.0)) (elements_at standing k) ≡ pos 0

pub solves_with : (network : Network) (stands : Item → Bool) (ohm : Element → ℕ) (volts : ℕ → ℤ) (s : Solution) →
    IsSolution (standing_elements (with_grounds ohm network) stands) volts s → SolvesWith (standing_elements network stands) ohm volts s
solves_with network stands ohm volts s solves = over (standing_elements network stands) (subst (λ (ps : List Placed). IsSolution ps volts s) (standing_with network stands ohm) solves)
  where
    over : (ps : List Placed) → IsSolution (map (placed_with ohm) ps) volts s → SolvesWith ps ohm volts s
    over ps h = record {
      denominator_above_0 = h.denominator_above_0;
      by_ohm = all_unmapped (placed_with ohm) (IsOhm volts s) ps (recursion_from_All (IsOhm volts s) (map (placed_with ohm) ps) h.ohm);
      none_if_open = λ place not_in. h.none_if_open place (list_any-map (placed_with ohm) (λ p. p.0 == place) ps ∙ not_in);
      kirchhoff = λ k live.
          sym (ap (sum_of (λ p. leaving k p.1 (s.current p.0))) (filter-map (placed_with ohm) (λ p. ends_at p.1 k) ps) ∙
          sum_of-map (placed_with ohm) (λ p. leaving k p.1 (s.current p.0)) (elements_at ps k)) ∙
          h.kirchhoff k (live_with ohm ps k ∙ live);
    }
