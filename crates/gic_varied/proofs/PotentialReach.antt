-- No live node's potential is further from 0 than all voltages add up to. At each whole threshold under it some element crosses whose fall its own voltage can hold, since else current would leave the nodes above the threshold and none enter; so each threshold is in the interval of such an element, and these intervals are no longer than the voltages.
use Rattle.std.proofs.Common.{◌≡◌, ◌⊎◌, ℕ, zero, suc, ◌+◌, ◌-◌, ◌*◌, ◌<◌, ◌≤◌, min, true, ◌&&◌, ◌==◌, List, [], ◌∷◌, inl, inr, ⊎_elim, ℤ, pos, negsuc, neg_ℤ, ◌+ℤ◌, ◌-ℤ◌, ◌*ℤ◌, ◌≤ℤ◌, ◌<ℤ◌, unsigned_abs, arith, refl, ap, sym, ◌∙◌, eqb-true}
use lib.IntN.{*ℤ-zero}
use borrow.Author.Differences.{up, same_in}
use Rattle.std.specs.List.{AllByRecursion, sum_by}
use Rattle.std.proofs.lemmas.Bool.{cases_lt}
use Rattle.std.proofs.lemmas.List.Elements.{recursion_from_All}
use Rattle.std.proofs.lemmas.List.Sums.{sum_by-cons, sum_by-le-sum_by}
use Rattle.gic_base.proofs.Each.{weaker}
use Rattle.gic_fixed.proofs.Integers.{linear, up-*ℤ, down-*ℤ, *ℤ-neg_ℤ, abs-neg_ℤ}
use Rattle.gic_model.specs.declared.parts.End.{End}
use Rattle.gic_model.specs.declared.parts.End.TheVariants.{Node, Earth}
use Rattle.gic_model.specs.Network.{is_node}
use Rattle.gic_model.specs.Earthing.{is_earth, joins, IsChainToEarth, AreEarthed}
use Rattle.gic_model.specs.Limits.{IsElementWithin}
use Rattle.gic_model.specs.Solution.{Solution, IsOhm}
use Rattle.gic_model.specs.Standing.{IsLive, elements_at, value_at, leaving, standing_elements}
use Rattle.gic_model.specs.Sums.{Placed, sum_of}
use Rattle.gic_model.proofs.Ends.{standing_within, some_times}
use Rattle.gic_model.proofs.Members.{by_any, or_cases, and_first, and_second}
use Rattle.gic_model.proofs.Pushes.{product_within}
use Rattle.gic_model.proofs.Residual.{value-node}
use Rattle.gic_varied.specs.Reach.{PotentialsReachNoFurther}
use Rattle.gic_varied.proofs.LiftsCompared.{below_from}
use Rattle.gic_varied.proofs.Lowest.{each_nothing}
use Rattle.gic_varied.proofs.Tellegen.{along, carries_nothing}
use Rattle.gic_varied.proofs.Turned.{turned, turned_volts, ohm_turned, kirchhoff_turned}
use Rattle.gic_varied.proofs.Within.{value_earth}

-- of the thresholds under n, how many lie between a and b, and w at most
abbrev part : (a b w n : ℕ) → ℕ
part a b w n = min w (((n - a) - (n - b)) + ((n - b) - (n - a)))

part_most : (a b w n : ℕ) → part a b w n ≤ w
part_most a b w n = omega arith

part_grows : (a b w n : ℕ) → part a b w n ≤ part a b w (suc n)
part_grows a b w n = omega arith

-- where the threshold t lies between them and is not counted, they are more than w apart
wide_down : (a b w t : ℕ) → t < a → b ≤ t → part a b w (suc t) ≤ part a b w t → w + b < a
wide_down a b w t over under stuck = omega arith

wide_up : (a b w t : ℕ) → a ≤ t → t < b → part a b w (suc t) ≤ part a b w t → w + a < b
wide_up a b w t under over stuck = omega arith

-- of two sums of terms that don't fall, the second is greater, or no term of it is
greater_or_stuck : {X : Type 0} (f g : X → ℕ) → ((x : X) → f x ≤ g x) → (xs : List X) → (sum_by f xs < sum_by g xs) ⊎ AllByRecursion (λ x. g x ≤ f x) xs
greater_or_stuck f g order [] = inr tt
greater_or_stuck f g order (x ∷ xs) =
    let here = order x in
    let first = sum_by-cons f x xs in
    let second = sum_by-cons g x xs in
    ⊎_elim (λ more. inl (omega arith))
    (λ stuck.
    let rest = sum_by-le-sum_by f g xs order in
    ⊎_elim (λ more. inl (omega arith)) (λ same. inr (same, stuck)) (cases_lt (f x) (g x)))
    (greater_or_stuck f g order xs)

-- a factor of each term
sum_by_times : {X : Type 0} (f : X → ℕ) (d : ℕ) (xs : List X) → sum_by (λ x. f x * d) xs ≡ sum_by f xs * d
sum_by_times f d [] = omega arith
sum_by_times f d (x ∷ xs) =
    let first = sum_by-cons (λ y. f y * d) x xs in
    let second = ap (λ n. n * d) (sum_by-cons f x xs) in
    let rest = sum_by_times f d xs in
    omega arith

-- 1 where n is above the threshold t, else 0
abbrev over : (t n : ℕ) → ℕ
over t n = min 1 (n - t)

-- the same of a whole number, below 0
abbrev mark : ℕ → ℤ → ℤ
mark t z = neg_ℤ (pos (over t (up z)))

-- over plain numbers: numbers that are apart above 0
apart : (f g : ℤ) (w : ℕ) → w + up g < up f → pos w <ℤ (f -ℤ g)
apart (pos n) g w h = omega (arith, linear)
apart (negsuc n) g w h = absurd (omega arith)

times_1 : (c : ℤ) → c *ℤ pos 1 ≡ c
times_1 c = same_in _ _ (simp (up-*ℤ, down-*ℤ) (omega arith))

times_below : (c : ℤ) → c *ℤ negsuc 0 ≡ neg_ℤ c
times_below c = let minus = *ℤ-neg_ℤ c (pos 1) in let one = times_1 c in omega (arith, linear)

-- what an element carries that has ends f and g, over the marks of its ends: where the current goes down a fall of more than w, it is not above 0, and where it is 0 either both ends are above the threshold or none
carried_level : (t w : ℕ) (c f g z : ℤ) → z ≡ mark t f -ℤ mark t g → (pos w <ℤ (f -ℤ g) → pos 0 <ℤ c) → (pos w <ℤ (g -ℤ f) → c <ℤ pos 0) →
    part (up f) (up g) w (suc t) ≤ part (up f) (up g) w t → ((c *ℤ z) ≤ℤ pos 0) × (c *ℤ z ≡ pos 0 → over t (up f) ≡ over t (up g))
carried_level t w c f g z is down_hill up_hill stuck = by (cases_lt t (up f)) (cases_lt t (up g))
  where
    level : over t (up f) ≡ over t (up g) → ((c *ℤ z) ≤ℤ pos 0) × (c *ℤ z ≡ pos 0 → over t (up f) ≡ over t (up g))
    level same =
        let inner : z ≡ pos 0 = omega (arith, linear) in
        let nothing = ap (λ y. c *ℤ y) inner ∙ *ℤ-zero c in
        (omega (arith, linear), λ none. same)

    by : (t < up f) ⊎ (up f ≤ t) → (t < up g) ⊎ (up g ≤ t) → ((c *ℤ z) ≤ℤ pos 0) × (c *ℤ z ≡ pos 0 → over t (up f) ≡ over t (up g))
    by (inl one) (inl other) = level (omega arith)
    by (inr one) (inr other) = level (omega arith)
    by (inl one) (inr other) =
        let leaves = down_hill (apart f g w (wide_down (up f) (up g) w t one other stuck)) in
        let here : over t (up f) ≡ 1 = omega arith in
        let there : over t (up g) ≡ 0 = omega arith in
        let inner : z ≡ negsuc 0 = omega (arith, linear) in
        let carried = ap (λ y. c *ℤ y) inner ∙ times_below c in
        (omega (arith, linear), λ none. absurd (not_above c leaves (sym carried ∙ none)))
      where
        not_above : (a : ℤ) → pos 0 <ℤ a → neg_ℤ a ≡ pos 0 → ⊥
        not_above a h none = omega (arith, linear)
    by (inr one) (inl other) =
        let enters = up_hill (apart g f w (wide_up (up f) (up g) w t one other stuck)) in
        let here : over t (up f) ≡ 0 = omega arith in
        let there : over t (up g) ≡ 1 = omega arith in
        let inner : z ≡ pos 1 = omega (arith, linear) in
        let carried = ap (λ y. c *ℤ y) inner ∙ times_1 c in
        (omega (arith, linear), λ none. absurd (not_below c enters (sym carried ∙ none)))
      where
        not_below : (a : ℤ) → a <ℤ pos 0 → a ≡ pos 0 → ⊥
        not_below a h none = omega (arith, linear)

-- over plain numbers: a current by Ohm's law with a voltage goes down a fall that the voltage can't hold
goes_down : (n p d : ℕ) (c f g u : ℤ) → 0 < p → pos n *ℤ c ≡ pos p *ℤ (f -ℤ g +ℤ pos d *ℤ u) → pos (unsigned_abs u * d) <ℤ (f -ℤ g) → pos 0 <ℤ c
goes_down n p d c f g u some ohm wide =
    let drive = f -ℤ g +ℤ pos d *ℤ u in
    let volt = (product_within d (unsigned_abs u) u (omega arith)).1 in
    let product : pos (unsigned_abs u) *ℤ pos d ≡ pos (unsigned_abs u * d) = refl in
    let below = below_from n p (neg_ℤ c) (neg_ℤ drive) some
    (*ℤ-neg_ℤ (pos n) c ∙ ap neg_ℤ ohm ∙ sym (*ℤ-neg_ℤ (pos p) drive)) (omega (arith, linear)) in
    omega (arith, linear)

goes_up : (n p d : ℕ) (c f g u : ℤ) → 0 < p → pos n *ℤ c ≡ pos p *ℤ (f -ℤ g +ℤ pos d *ℤ u) → pos (unsigned_abs u * d) <ℤ (g -ℤ f) → c <ℤ pos 0
goes_up n p d c f g u some ohm wide =
    let volt = (product_within d (unsigned_abs u) u (omega arith)).0 in
    let product : pos (unsigned_abs u) *ℤ pos d ≡ pos (unsigned_abs u * d) = refl in
    below_from n p c (f -ℤ g +ℤ pos d *ℤ u) some ohm (omega (arith, linear))

module _ (nodes : ℕ) (standing : List Placed) (within : AllByRecursion (λ p. IsElementWithin nodes p.1) standing) (earthed : AreEarthed standing)
    (volts : ℕ → ℤ) (s : Solution) (by_ohm : AllByRecursion (IsOhm volts s) standing)
    (kirchhoff : (k : ℕ) → IsLive standing k → sum_of (λ p. leaving k p.1 (s.current p.0)) (elements_at standing k) ≡ pos 0) where
  -- how far an element's voltage lifts
  abbrev width : Placed → ℕ
  width p = unsigned_abs (volts p.0) * s.denominator

  -- of the thresholds under n, how many an element takes
  abbrev taken : ℕ → Placed → ℕ
  taken n p = part (up (s.potential p.1.from.0)) (up (value_at s.potential p.1.to)) (width p) n

  -- both ends of an element are above the threshold, or none
  abbrev IsLevel : ℕ → Placed → Type 0
  IsLevel t p = over t (up (s.potential p.1.from.0)) ≡ over t (up (value_at s.potential p.1.to))

  abbrev marks : ℕ → ℕ → ℤ
  marks t m = mark t (s.potential m)

  mark_there : (t : ℕ) (e : End) → value_at (marks t) e ≡ mark t (value_at s.potential e)
  mark_there t (Node m) = refl
  mark_there t Earth = let none : over t 0 ≡ 0 = omega arith in ap (λ n. neg_ℤ (pos n)) (sym none)

  -- where no element takes the threshold, each is level
  all_level : (t : ℕ) → AllByRecursion (λ p. taken (suc t) p ≤ taken t p) standing → AllByRecursion (IsLevel t) standing
  all_level t stuck =
      levels standing each
      (each_nothing carried standing (weaker Both (λ p. carried p ≤ℤ pos 0) (λ p h. h.0) standing each) (carries_nothing nodes standing within s.current kirchhoff (marks t)))
    where
      carried : Placed → ℤ
      carried p = s.current p.0 *ℤ along (marks t) p.1

      Both : Placed → Type 0
      Both p = (carried p ≤ℤ pos 0) × (carried p ≡ pos 0 → IsLevel t p)

      one : (p : Placed) → IsElementWithin nodes p.1 → IsOhm volts s p → taken (suc t) p ≤ taken t p → Both p
      one p limits ohm stuck_here =
          let some = some_times nodes p limits in
          let from = s.potential p.1.from.0 in
          let to = value_at s.potential p.1.to in
          carried_level t (width p) (s.current p.0) from to (along (marks t) p.1) (ap (λ z. mark t from -ℤ z) (mark_there t p.1.to))
          (goes_down p.1.micro_ohm (p.1.times * 1000000) s.denominator (s.current p.0) from to (volts p.0) (omega arith) ohm)
          (goes_up p.1.micro_ohm (p.1.times * 1000000) s.denominator (s.current p.0) from to (volts p.0) (omega arith) ohm) stuck_here

      each : AllByRecursion Both standing
      each = gather standing within by_ohm stuck
        where
          gather : (ps : List Placed) → AllByRecursion (λ p. IsElementWithin nodes p.1) ps → AllByRecursion (IsOhm volts s) ps → AllByRecursion (λ p. taken (suc t) p ≤ taken t p) ps → AllByRecursion Both ps
          gather [] a b c = tt
          gather (p ∷ ps) a b c = (one p a.0 b.0 c.0, gather ps a.1 b.1 c.1)

      levels : (ps : List Placed) → AllByRecursion Both ps → AllByRecursion (λ p. carried p ≡ pos 0) ps → AllByRecursion (IsLevel t) ps
      levels [] h none = tt
      levels (p ∷ ps) h none = (h.0.1 none.0, levels ps h.1 none.1)

  -- then no node of a chain to earth is above the threshold, since earth is not
  next_level : (t k m : ℕ) (p : Placed) → joins k m p.1 ≡ true → IsLevel t p → over t (up (s.potential k)) ≡ over t (up (s.potential m))
  next_level t k m p is level =
      ⊎_elim
      (λ h. let from = and_first (p.1.from.0 == k) (is_node p.1.to m) h in
      let to = and_second (p.1.from.0 == k) (is_node p.1.to m) h in
      here k from ∙ level ∙ there m to)
      (λ h. let from = and_first (p.1.from.0 == m) (is_node p.1.to k) h in
      let to = and_second (p.1.from.0 == m) (is_node p.1.to k) h in
      sym (there k to) ∙ sym level ∙ sym (here m from))
      (or_cases ((p.1.from.0 == k) && is_node p.1.to m) ((p.1.from.0 == m) && is_node p.1.to k) is)
    where
      here : (j : ℕ) → (p.1.from.0 == j) ≡ true → over t (up (s.potential j)) ≡ over t (up (s.potential p.1.from.0))
      here j from = ap (λ (i : ℕ). over t (up (s.potential i))) (sym (eqb-true p.1.from.0 j from))

      there : (j : ℕ) → is_node p.1.to j ≡ true → over t (up (value_at s.potential p.1.to)) ≡ over t (up (s.potential j))
      there j to = ap (λ z. over t (up z)) (value-node s.potential j p.1.to to)

  none_over : (t : ℕ) → AllByRecursion (IsLevel t) standing → (nexts : List ℕ) (k : ℕ) → IsChainToEarth standing k nexts → over t (up (s.potential k)) ≡ 0
  none_over t level [] k leads =
      by_any (λ p. (p.1.from.0 == k) && is_earth p.1.to) (IsLevel t)
      (λ p is here.
      let from = and_first (p.1.from.0 == k) (is_earth p.1.to) is in
      let at_earth = value_earth s.potential p.1.to (and_second (p.1.from.0 == k) (is_earth p.1.to) is) in
      let none : over t 0 ≡ 0 = omega arith in
      ap (λ (i : ℕ). over t (up (s.potential i))) (sym (eqb-true p.1.from.0 k from)) ∙ here ∙ ap (λ z. over t (up z)) at_earth ∙ none)
      standing level leads
  none_over t level (next ∷ rest) k chain =
      by_any (λ p. joins k next p.1) (IsLevel t) (λ p is here. next_level t k next p is here) standing level chain.0 ∙ none_over t level rest next chain.1

  -- so each threshold under a live node's potential is taken by some element, and there are no more of them than all elements can take
  counted : (k : ℕ) → IsLive standing k → (n : ℕ) → n ≤ up (s.potential k) → n ≤ sum_by (taken n) standing
  counted k live zero under = omega arith
  counted k live (suc n) under =
      let before = counted k live n (omega arith) in
      ⊎_elim (λ more. omega arith)
      (λ stuck.
      let chain = earthed k live in
      let none = none_over n (all_level n stuck) chain.over k chain.chain in
      absurd (omega arith))
      (greater_or_stuck (taken n) (taken (suc n)) (λ p. part_grows (up (s.potential p.1.from.0)) (up (value_at s.potential p.1.to)) (width p) n) standing)

  pub above_reach : (k : ℕ) → IsLive standing k → up (s.potential k) ≤ sum_by (λ p. unsigned_abs (volts p.0)) standing * s.denominator
  above_reach k live =
      let top = up (s.potential k) in
      let all = counted k live top (omega arith) in
      let most = sum_by-le-sum_by (taken top) width standing (λ p. part_most (up (s.potential p.1.from.0)) (up (value_at s.potential p.1.to)) (width p) top) in
      let total = sum_by_times (λ p. unsigned_abs (volts p.0)) s.denominator standing in
      omega arith

-- a number is the part above 0 of it, or of it with its sign turned
size_from : (z : ℤ) (b : ℕ) → up z ≤ b → up (neg_ℤ z) ≤ b → unsigned_abs z ≤ b
size_from (pos n) b high low = high
size_from (negsuc n) b high low = low

sum_turned : (volts : ℕ → ℤ) (ps : List Placed) → sum_by (λ p. unsigned_abs (turned_volts volts p.0)) ps ≡ sum_by (λ p. unsigned_abs (volts p.0)) ps
sum_turned volts [] = refl
sum_turned volts (p ∷ ps) =
    let first = sum_by-cons (λ q. unsigned_abs (turned_volts volts q.0)) p ps in
    let second = sum_by-cons (λ q. unsigned_abs (volts q.0)) p ps in
    let here = abs-neg_ℤ (volts p.0) in
    let rest = sum_turned volts ps in
    omega arith

pub potentials_reach : PotentialsReachNoFurther
potentials_reach network stands volts s k limits earthed solves live =
    let standing = standing_elements network stands in
    let within = standing_within network stands limits in
    let by_ohm = recursion_from_All (IsOhm volts s) standing solves.ohm in
    let turned_ohm = weaker (IsOhm volts s) (IsOhm (turned_volts volts) (turned s)) (λ p law. ohm_turned volts s p law) standing by_ohm in
    let high = above_reach network.nodes standing within earthed volts s by_ohm solves.kirchhoff k live in
    let low = above_reach network.nodes standing within earthed (turned_volts volts) (turned s) turned_ohm (kirchhoff_turned standing s solves.kirchhoff) k live in
    let same = ap (λ (n : ℕ). n * s.denominator) (sum_turned volts standing) in
    size_from (s.potential k) (sum_by (λ p. unsigned_abs (volts p.0)) standing * s.denominator) high (omega arith)
