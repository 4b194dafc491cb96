-- Without voltages nothing flows in a network that is earthed, so any two solutions agree.
use Rattle.std.proofs.Common.{◌≡◌, ℕ, ◌*◌, Bool, true, false, cond, ◌&&◌, ◌||◌, ◌==◌, List, [], ◌∷◌, ℤ, pos, negsuc, ◌+ℤ◌, ◌-ℤ◌, ◌*ℤ◌, neg_ℤ, ◌≤ℤ◌, unsigned_abs, arith, refl, ap, sym, ◌∙◌, ⊎_elim, eqb-true}
use lib.IntN.{*ℤ_comm, *ℤ-zero}
use Rattle.std.specs.List.{AllByRecursion}
use Rattle.std.proofs.Math.Bool.{or-true}
use Rattle.std.proofs.lemmas.Int.{ints}
use Rattle.std.proofs.lemmas.List.Elements.{recursion_from_All}
use Rattle.gic_base.proofs.Each.{weaker}
use Rattle.gic_model.specs.declared.parts.End.{End}
use Rattle.gic_model.specs.declared.parts.End.TheVariants.{Node, Earth}
use Rattle.gic_model.specs.declared.parts.Element.{Element}
use Rattle.gic_model.specs.Network.{is_node, ends_at}
use Rattle.gic_model.specs.Limits.{IsElementWithin}
use Rattle.gic_model.specs.Standing.{is_live, IsLive, elements_at, other_end, value_at, leaving}
use Rattle.gic_model.specs.Earthing.{joins, is_earth, IsChainToEarth, IsEarthed}
use Rattle.gic_model.specs.Sums.{Placed}
use Rattle.gic_model.specs.Ohms.{product_of_ohms}
use Rattle.gic_model.specs.Solution.{Solution, IsOhm, IsSolution}
use Rattle.gic_model.specs.SolutionLaws.{combined}
use Rattle.gic_fixed.proofs.Integers.{linear, nothing_from, *ℤ-≤ℤ, *ℤ-neg_ℤ}
use Rattle.gic_model.proofs.SumLaws.{sum_over_ohms-same, sum_over_ohms-whole, each_nothing}
use Rattle.gic_model.proofs.Row.{weight, fall, carried, signed}
use Rattle.gic_model.proofs.Residual.{fall-from, fall-to, value-node}
use Rattle.gic_model.proofs.Members.{kept, both, opened, any_of_each, by_any, or_cases, and_first, and_second}
use Rattle.gic_model.proofs.Ends.{within_at, ohms_at_node, some_times}
use Rattle.gic_model.proofs.Superposition.{superposition}
use Rattle.gic_model.proofs.Greatest.{IsGreatestAt, HasShares, greatest_live, has_shares}

-- an element without voltage carries what its ends' fall gives
flows : (volts : ℕ → ℤ) (s : Solution) (k : ℕ) (p : Placed) → volts p.0 ≡ pos 0 → ends_at p.1 k ≡ true → IsOhm volts s p →
    weight p *ℤ fall s.potential k p ≡ pos p.1.micro_ohm *ℤ leaving k p.1 (s.current p.0)
flows volts s k p none ends ohm = by (p.1.from.0 == k) refl
  where
    bare : pos p.1.micro_ohm *ℤ s.current p.0 ≡ weight p *ℤ (s.potential p.1.from.0 -ℤ value_at s.potential p.1.to)
    bare =
        let nothing = ap (λ z. pos s.denominator *ℤ z) none ∙ *ℤ-zero (pos s.denominator) in
        let inner : s.potential p.1.from.0 -ℤ value_at s.potential p.1.to +ℤ pos s.denominator *ℤ volts p.0 ≡ s.potential p.1.from.0 -ℤ value_at s.potential p.1.to = omega (arith, linear) in
        ohm ∙ ap (λ z. weight p *ℤ z) inner

    by : (b : Bool) → (p.1.from.0 == k) ≡ b → weight p *ℤ fall s.potential k p ≡ pos p.1.micro_ohm *ℤ cond b (s.current p.0) (neg_ℤ (s.current p.0))
    by true is = ap (λ z. weight p *ℤ z) (fall-from s.potential k p is) ∙ sym bare
    by false is =
        let here = ap (λ z. weight p *ℤ z) (fall-to s.potential k p is ends) in
        let turned = *ℤ-neg_ℤ (weight p) (s.potential p.1.from.0 -ℤ value_at s.potential p.1.to) in
        let right = *ℤ-neg_ℤ (pos p.1.micro_ohm) (s.current p.0) in
        let known = bare in
        omega (arith, linear)

-- an element that leads from k to earth
earth_value : (e : ℕ → ℤ) (k : ℕ) (x : Element) → ((x.from.0 == k) && is_earth x.to) ≡ true → (ends_at x k ≡ true → value_at e (other_end k x) ≡ e k) → e k ≡ pos 0
earth_value e k x is have =
    let at_from = and_first (x.from.0 == k) (is_earth x.to) is in
    let there = have (ap (λ b. b || is_node x.to k) at_from) in
    sym there ∙ ap (λ b. value_at e (cond b x.to (Node x.from))) at_from ∙ at_earth x.to (and_second (x.from.0 == k) (is_earth x.to) is)
  where
    at_earth : (t : End) → is_earth t ≡ true → value_at e t ≡ pos 0
    at_earth (Node m) h = absurd (no_way h)
      where
        no_way : false ≡ true → ⊥
        no_way q = cc
    at_earth Earth h = refl

-- an element that joins k and m ends at both
pub joins_end : (k m : ℕ) (x : Element) → joins k m x ≡ true → ends_at x m ≡ true
joins_end k m x is =
    ⊎_elim (λ h. ap (λ b. (x.from.0 == m) || b) (and_second (x.from.0 == k) (is_node x.to m) h) ∙ or-true (x.from.0 == m))
    (λ h. ap (λ b. b || is_node x.to m) (and_first (x.from.0 == m) (is_node x.to k) h))
    (or_cases ((x.from.0 == k) && is_node x.to m) ((x.from.0 == m) && is_node x.to k) is)

-- where the other end has the value of k, so has the node that the element joins to k
joined_value : (e : ℕ → ℤ) (k m : ℕ) (x : Element) → joins k m x ≡ true → (ends_at x k ≡ true → value_at e (other_end k x) ≡ e k) → e m ≡ e k
joined_value e k m x is have =
    ⊎_elim (λ h. forward (and_first (x.from.0 == k) (is_node x.to m) h) (and_second (x.from.0 == k) (is_node x.to m) h))
    (λ h. backward (and_first (x.from.0 == m) (is_node x.to k) h) (and_second (x.from.0 == m) (is_node x.to k) h))
    (or_cases ((x.from.0 == k) && is_node x.to m) ((x.from.0 == m) && is_node x.to k) is)
  where
    forward : (x.from.0 == k) ≡ true → is_node x.to m ≡ true → e m ≡ e k
    forward at_from at_to =
        sym (value-node e m x.to at_to) ∙ sym (ap (λ b. value_at e (cond b x.to (Node x.from))) at_from) ∙ have (ap (λ b. b || is_node x.to k) at_from)

    backward : (x.from.0 == m) ≡ true → is_node x.to k ≡ true → e m ≡ e k
    backward at_from at_to = by (x.from.0 == k) refl
      where
        from_is : e x.from.0 ≡ e m
        from_is = ap e (eqb-true x.from.0 m at_from)

        by : (b : Bool) → (x.from.0 == k) ≡ b → e m ≡ e k
        by true same = sym from_is ∙ ap e (eqb-true x.from.0 k same)
        by false other = sym from_is ∙ sym (ap (λ b. value_at e (cond b x.to (Node x.from))) other) ∙ have (ap (λ b. (x.from.0 == k) || b) at_to ∙ or-true (x.from.0 == k))

-- the same number everywhere
abbrev ones : ℕ → ℕ
ones m = 1

-- its fall is 1 to earth, and else 0
fall_of_ones : (k : ℕ) (p : Placed) → pos 0 ≤ℤ fall (signed ones) k p
fall_of_ones k p = by (other_end k p.1)
  where
    by : (t : End) → pos 0 ≤ℤ (pos 1 -ℤ value_at (signed ones) t)
    by (Node m) = omega (arith, ints)
    by Earth = omega (arith, ints)

-- a share of it is not below 0
share_above_0 : (c w : ℕ) (f g : ℤ) → pos 0 ≤ℤ f → (pos c *ℤ (pos w *ℤ f)) ≤ℤ (pos 1 *ℤ g) → pos 0 ≤ℤ g
share_above_0 c w f g h share =
    let none = *ℤ-zero (pos w) in
    let still_none = *ℤ-zero (pos c) in
    let first = *ℤ-≤ℤ w (pos 0) f h in
    let second = *ℤ-≤ℤ c (pos 0) (pos w *ℤ f) (omega (arith, linear)) in
    omega (arith, ints)

no_size : (z : ℤ) → unsigned_abs z ≡ 0 → z ≡ pos 0
no_size z h = omega (arith, ints)

module _ (nodes : ℕ) (standing : List Placed) (within : AllByRecursion (λ p. IsElementWithin nodes p.1) standing)
    (volts : ℕ → ℤ) (s : Solution) (solves : IsSolution standing volts s) (no_volts : (place : ℕ) → volts place ≡ pos 0) where
  -- the falls at a live node carry nothing
  balanced : (k : ℕ) → IsLive standing k → carried s.potential k (elements_at standing k) ≡ pos 0
  balanced k live =
      sum_over_ohms-same (λ p. weight p *ℤ fall s.potential k p) (λ p. pos p.1.micro_ohm *ℤ leaving k p.1 (s.current p.0)) (elements_at standing k)
      (kept (λ p. ends_at p.1 k) (IsOhm volts s) (λ p. weight p *ℤ fall s.potential k p ≡ pos p.1.micro_ohm *ℤ leaving k p.1 (s.current p.0)) (λ p is ohm. flows volts s k p (no_volts p.0) is ohm) standing (recursion_from_All (IsOhm volts s) standing solves.ohm)) ∙
      sum_over_ohms-whole (λ p. leaving k p.1 (s.current p.0)) (elements_at standing k) ∙
      ap (λ z. pos (product_of_ohms (elements_at standing k)) *ℤ z) (solves.kirchhoff k live) ∙
      *ℤ-zero (pos (product_of_ohms (elements_at standing k)))

  -- the potentials at the other ends are that of the node with the greatest
  level : (k : ℕ) → IsGreatestAt standing s.potential ones k → AllByRecursion (λ p. value_at s.potential (other_end k p.1) ≡ s.potential k) (elements_at standing k)
  level k top = by (has_shares standing s.potential ones k top)
    where
      by : (d : ℕ → ℤ) × HasShares s.potential d ones k (elements_at standing k) → AllByRecursion (λ p. value_at s.potential (other_end k p.1) ≡ s.potential k) (elements_at standing k)
      by (d, h) =
          let rising = weaker (λ p. (d k *ℤ (weight p *ℤ fall (signed ones) k p)) ≤ℤ (pos 1 *ℤ (weight p *ℤ fall d k p))) (λ p. pos 0 ≤ℤ (weight p *ℤ fall d k p))
          (λ p share. let top_is = ap (λ z. z *ℤ (weight p *ℤ fall (signed ones) k p)) h.top in share_above_0 (unsigned_abs (s.potential k)) (p.1.times * 1000000) (fall (signed ones) k p) (weight p *ℤ fall d k p) (fall_of_ones k p) (omega (arith, linear)))
          (elements_at standing k) h.shares in
          let nothing = no_size (carried d k (elements_at standing k)) (h.size ∙ ap unsigned_abs (balanced k top.live)) in
          let zeros = each_nothing (λ p. weight p *ℤ fall d k p) (elements_at standing k) (ohms_at_node nodes standing k within) rising nothing in
          weaker (λ p. IsElementWithin nodes p.1 × (weight p *ℤ fall d k p ≡ pos 0)) (λ p. value_at s.potential (other_end k p.1) ≡ s.potential k)
          (λ p have. h.turned_back (other_end k p.1) (same_end d p have.0 have.1)) (elements_at standing k) (both _ _ (elements_at standing k) (within_at nodes standing k within) zeros)
        where
          same_end : (d : ℕ → ℤ) (p : Placed) → IsElementWithin nodes p.1 → weight p *ℤ fall d k p ≡ pos 0 → value_at d (other_end k p.1) ≡ d k
          same_end d p in_limits is =
              let some = some_times nodes p in_limits in
              let none = nothing_from (p.1.times * 1000000) (fall d k p) (omega arith) is in
              omega (arith, linear)

  -- along a chain to earth the greatest potential is 0
  chain_nothing : (over : List ℕ) (k : ℕ) → IsGreatestAt standing s.potential ones k → IsChainToEarth standing k over → s.potential k ≡ pos 0
  chain_nothing [] k top leads =
      by_any (λ p. (p.1.from.0 == k) && is_earth p.1.to) (λ p. ends_at p.1 k ≡ true → value_at s.potential (other_end k p.1) ≡ s.potential k) (λ p is have. earth_value s.potential k p.1 is have) standing
      (opened (λ p. ends_at p.1 k) (λ p. value_at s.potential (other_end k p.1) ≡ s.potential k) standing (level k top)) leads
  chain_nothing (next ∷ rest) k top chain =
      let same = by_any (λ p. joins k next p.1) (λ p. ends_at p.1 k ≡ true → value_at s.potential (other_end k p.1) ≡ s.potential k) (λ p is have. joined_value s.potential k next p.1 is have) standing
      (opened (λ p. ends_at p.1 k) (λ p. value_at s.potential (other_end k p.1) ≡ s.potential k) standing (level k top)) chain.0 in
      let alive : is_live standing next ≡ true = by_any (λ p. joins k next p.1) (λ p. ends_at p.1 next ≡ true → is_live standing next ≡ true) (λ p is have. have (joins_end k next p.1 is)) standing (any_of_each (λ p. ends_at p.1 next) standing) chain.0 in
      let size = ap unsigned_abs same in
      sym same ∙ chain_nothing rest next (record { live = alive; greatest = λ m live_m. let order = top.greatest m live_m in omega arith }) chain.1

  -- no live node has a potential
  pub no_potential : ((m : ℕ) → IsLive standing m → IsEarthed standing m) → (i : ℕ) → IsLive standing i → s.potential i ≡ pos 0
  no_potential earthed i live = at_top (greatest_live nodes standing within s.potential ones (λ m alive. omega arith) i live)
    where
      at_top : (k : ℕ) × IsGreatestAt standing s.potential ones k → s.potential i ≡ pos 0
      at_top (k, top) =
          let none = ap unsigned_abs (chain_nothing (earthed k top.live).over k top (earthed k top.live).chain) in
          let small = top.greatest i live in
          no_size (s.potential i) (omega arith)

-- one of the one less one of the other
pub one_less : (z w : ℤ) → pos 1 *ℤ z +ℤ negsuc 0 *ℤ w ≡ pos 0 → z ≡ w
one_less z w h = omega (arith, ints)

pub same_less : (z : ℤ) → pos 1 *ℤ z +ℤ negsuc 0 *ℤ z ≡ pos 0
same_less z = omega (arith, ints)

-- two numbers over two denominators, where d2 a less d1 b is 0
pub crosswise : (a b d1 d2 : ℤ) → pos 1 *ℤ (d2 *ℤ a) +ℤ negsuc 0 *ℤ (d1 *ℤ b) ≡ pos 0 → a *ℤ d2 ≡ b *ℤ d1
crosswise a b d1 d2 h = *ℤ_comm a d2 ∙ one_less (d2 *ℤ a) (d1 *ℤ b) h ∙ *ℤ_comm d1 b

-- two solutions have the same potentials at the live nodes
pub potentials_agree : (nodes : ℕ) (standing : List Placed) → AllByRecursion (λ p. IsElementWithin nodes p.1) standing → (volts : ℕ → ℤ) (one other : Solution) →
    IsSolution standing volts one → IsSolution standing volts other → ((m : ℕ) → IsLive standing m → IsEarthed standing m) → (k : ℕ) → IsLive standing k →
    one.potential k *ℤ pos other.denominator ≡ other.potential k *ℤ pos one.denominator
potentials_agree nodes standing within volts one other first second earthed k live =
    crosswise (one.potential k) (other.potential k) (pos one.denominator) (pos other.denominator)
    (no_potential nodes standing within (λ p. pos 1 *ℤ volts p +ℤ negsuc 0 *ℤ volts p) (combined (pos 1) one (negsuc 0) other)
    (superposition standing volts volts one other (pos 1) (negsuc 0) first second) (λ place. same_less (volts place)) earthed k live)
