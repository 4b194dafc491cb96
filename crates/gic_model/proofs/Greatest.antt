-- The argument of the greatest ratio: at the live node where |e| / v is greatest, each element's fall of e has at least its share of the fall of v.
use Rattle.std.proofs.Common.{◌≡◌, ℕ, suc, ◌*◌, ◌≤◌, Bool, true, List, [], ◌∷◌, ℤ, pos, negsuc, ◌-ℤ◌, ◌*ℤ◌, neg_ℤ, ◌≤ℤ◌, unsigned_abs, arith, refl, ap, sym, ◌∙◌, ⊎_elim}
use lib.IntN.{*ℤ-zero}
use Rattle.std.specs.List.{AllByRecursion}
use Rattle.gic_base.proofs.Each.{weaker}
use Rattle.gic_model.specs.declared.parts.End.{End}
use Rattle.gic_model.specs.declared.parts.End.TheVariants.{Node, Earth}
use Rattle.gic_model.specs.Limits.{IsElementWithin}
use Rattle.gic_model.specs.Standing.{is_live, IsLive, elements_at, other_end, value_at}
use Rattle.gic_model.specs.Sums.{Placed}
use Rattle.gic_fixed.proofs.Integers.{linear, abs-parts, abs-neg_ℤ, *ℤ-≤ℤ, *ℤ--ℤ, *ℤ-neg_ℤ, *ℤ_left_comm, *ℤ_turn}
use Rattle.gic_model.proofs.SumLaws.{sum_over_ohms-same, sum_over_ohms-neg_ℤ}
use Rattle.gic_model.proofs.Ends.{IsLiveEnd, others_live, live_within}
use Rattle.gic_model.proofs.Ratios.{greatest_ratio}
use Rattle.gic_model.proofs.Row.{weight, fall, carried, signed}

-- k is live, and no live node has a greater ratio |e| / v
pub record IsGreatestAt (standing : List Placed) (e : ℕ → ℤ) (v : ℕ → ℕ) (k : ℕ) : Type 0 where
  pub live : IsLive standing k
  pub greatest : (m : ℕ) → IsLive standing m → unsigned_abs (e m) * v k ≤ unsigned_abs (e k) * v m

-- d is e, or e with its signs turned, so that it is not below 0 at k; there each of its falls has at least its share
pub record HasShares (e d : ℕ → ℤ) (v : ℕ → ℕ) (k : ℕ) (ps : List Placed) : Type 0 where
  pub top : d k ≡ pos (unsigned_abs (e k))
  pub size : unsigned_abs (carried d k ps) ≡ unsigned_abs (carried e k ps)
  pub turned_back : (t : End) → value_at d t ≡ d k → value_at e t ≡ e k
  pub shares : AllByRecursion (λ p. (d k *ℤ (weight p *ℤ fall (signed v) k p)) ≤ℤ (pos (v k) *ℤ (weight p *ℤ fall d k p))) ps

-- where a node is live, one has the greatest ratio
pub greatest_live : (nodes : ℕ) (standing : List Placed) → AllByRecursion (λ p. IsElementWithin nodes p.1) standing → (e : ℕ → ℤ) (v : ℕ → ℕ) →
    ((k : ℕ) → IsLive standing k → 1 ≤ v k) → (i : ℕ) → IsLive standing i → (k : ℕ) × IsGreatestAt standing e v k
greatest_live nodes standing within e v above_0 i live =
    ⊎_elim (λ none. absurd (none i (live_within nodes standing i within live) live))
    (λ k. (k.0, record { live = k.1.is_marked; greatest = λ m alive. k.1.greatest m (live_within nodes standing m within alive) alive }))
    (greatest_ratio (is_live standing) (λ m. unsigned_abs (e m)) v above_0 nodes)

-- one element's share, over plain numbers
share : (w vk : ℕ) (dk there vo : ℤ) → (pos vk *ℤ there) ≤ℤ (dk *ℤ vo) →
    (dk *ℤ (pos w *ℤ (pos vk -ℤ vo))) ≤ℤ (pos vk *ℤ (pos w *ℤ (dk -ℤ there)))
share w vk dk there vo h =
    let left = ap (λ z. dk *ℤ z) (*ℤ--ℤ (pos w) (pos vk) vo) in
    let left_split = *ℤ--ℤ dk (pos w *ℤ pos vk) (pos w *ℤ vo) in
    let right = ap (λ z. pos vk *ℤ z) (*ℤ--ℤ (pos w) dk there) in
    let right_split = *ℤ--ℤ (pos vk) (pos w *ℤ dk) (pos w *ℤ there) in
    let same = *ℤ_turn dk (pos w) (pos vk) in
    let left_out = *ℤ_left_comm dk (pos w) vo in
    let right_out = *ℤ_left_comm (pos vk) (pos w) there in
    let order = *ℤ-≤ℤ w (pos vk *ℤ there) (dk *ℤ vo) h in
    omega (arith, linear)

-- at a live end d over v is at most the one at k
below_at : (d : ℕ → ℤ) (v : ℕ → ℕ) (k c : ℕ) (live : ℕ → Bool) → d k ≡ pos c →
    ((m : ℕ) → live m ≡ true → unsigned_abs (d m) * v k ≤ c * v m) → (t : End) → IsLiveEnd live t →
    (pos (v k) *ℤ value_at d t) ≤ℤ (d k *ℤ value_at (signed v) t)
below_at d v k c live is most (Node m) alive =
    let bound : d m.0 ≤ℤ pos (unsigned_abs (d m.0)) = omega (arith, linear, abs-parts) in
    let scaled = *ℤ-≤ℤ (v k) (d m.0) (pos (unsigned_abs (d m.0))) bound in
    let right = ap (λ z. z *ℤ pos (v m.0)) is in
    let order = most m.0 alive in
    omega (arith, linear)
below_at d v k c live is most Earth alive =
    let left = *ℤ-zero (pos (v k)) in
    let right = *ℤ-zero (d k) in
    omega (arith, linear)

-- the falls with their signs turned
value-neg_ℤ : (e : ℕ → ℤ) (t : End) → value_at (λ m. neg_ℤ (e m)) t ≡ neg_ℤ (value_at e t)
value-neg_ℤ e (Node m) = refl
value-neg_ℤ e Earth = refl

fall-neg_ℤ : (e : ℕ → ℤ) (k : ℕ) (p : Placed) → weight p *ℤ fall (λ m. neg_ℤ (e m)) k p ≡ neg_ℤ (weight p *ℤ fall e k p)
fall-neg_ℤ e k p =
    let there = value-neg_ℤ e (other_end k p.1) in
    let turned : fall (λ m. neg_ℤ (e m)) k p ≡ neg_ℤ (fall e k p) = omega (arith, linear) in
    ap (λ z. weight p *ℤ z) turned ∙ *ℤ-neg_ℤ (weight p) (fall e k p)

each_neg : (e : ℕ → ℤ) (k : ℕ) (ps : List Placed) → AllByRecursion (λ p. weight p *ℤ fall (λ m. neg_ℤ (e m)) k p ≡ neg_ℤ (weight p *ℤ fall e k p)) ps
each_neg e k [] = tt
each_neg e k (p ∷ ps) = (fall-neg_ℤ e k p, each_neg e k ps)

carried-neg_ℤ : (e : ℕ → ℤ) (k : ℕ) (ps : List Placed) → unsigned_abs (carried (λ m. neg_ℤ (e m)) k ps) ≡ unsigned_abs (carried e k ps)
carried-neg_ℤ e k ps =
    ap unsigned_abs
    (sum_over_ohms-same (λ p. weight p *ℤ fall (λ m. neg_ℤ (e m)) k p) (λ p. neg_ℤ (weight p *ℤ fall e k p)) ps (each_neg e k ps) ∙
    sum_over_ohms-neg_ℤ (λ p. weight p *ℤ fall e k p) ps) ∙
    abs-neg_ℤ (carried e k ps)

-- at the greatest ratio every element has its share
pub has_shares : (standing : List Placed) (e : ℕ → ℤ) (v : ℕ → ℕ) (k : ℕ) → IsGreatestAt standing e v k → (d : ℕ → ℤ) × HasShares e d v k (elements_at standing k)
has_shares standing e v k g = by (e k) refl
  where
    each : (d : ℕ → ℤ) (c : ℕ) → d k ≡ pos c → ((m : ℕ) → is_live standing m ≡ true → unsigned_abs (d m) * v k ≤ c * v m) →
        AllByRecursion (λ p. (d k *ℤ (weight p *ℤ fall (signed v) k p)) ≤ℤ (pos (v k) *ℤ (weight p *ℤ fall d k p))) (elements_at standing k)
    each d c is most =
        weaker (λ p. IsLiveEnd (is_live standing) (other_end k p.1)) (λ p. (d k *ℤ (weight p *ℤ fall (signed v) k p)) ≤ℤ (pos (v k) *ℤ (weight p *ℤ fall d k p)))
        (λ p alive. share (p.1.times * 1000000) (v k) (d k) (value_at d (other_end k p.1)) (value_at (signed v) (other_end k p.1)) (below_at d v k c (is_live standing) is most (other_end k p.1) alive))
        (elements_at standing k) (others_live standing k)

    most_at : (c : ℕ) → unsigned_abs (e k) ≡ c → (m : ℕ) → is_live standing m ≡ true → unsigned_abs (e m) * v k ≤ c * v m
    most_at c is m alive = let order = g.greatest m alive in let scaled = ap (λ z. z * v m) is in omega arith

    turned_at : (c : ℕ) → unsigned_abs (e k) ≡ c → (m : ℕ) → is_live standing m ≡ true → unsigned_abs (neg_ℤ (e m)) * v k ≤ c * v m
    turned_at c is m alive = let order = most_at c is m alive in let same = ap (λ z. z * v k) (abs-neg_ℤ (e m)) in omega arith

    by : (z : ℤ) → e k ≡ z → (d : ℕ → ℤ) × HasShares e d v k (elements_at standing k)
    by (pos c) is = (
      e,
      record {
        top = is ∙ sym (ap (λ z. pos (unsigned_abs z)) is);
        size = refl;
        turned_back = λ t same. same;
        shares = each e c is (most_at c (ap unsigned_abs is));
      },
    )
    by (negsuc c) is = (
      λ m. neg_ℤ (e m),
      record {
        top = ap neg_ℤ is ∙ sym (ap (λ z. pos (unsigned_abs z)) is);
        size = carried-neg_ℤ e k (elements_at standing k);
        turned_back = λ t same. let there = value-neg_ℤ e t in omega (arith, linear);
        shares = each (λ m. neg_ℤ (e m)) (suc c) (ap neg_ℤ is) (turned_at (suc c) (ap unsigned_abs is));
      },
    )
