-- Three solutions brought to one denominator: a reference and a lift added, less a varied solution.
use Rattle.std.proofs.Common.{◌≡◌, ℕ, ◌*◌, Bool, true, false, cond, ◌==◌, List, [], ◌∷◌, ℤ, pos, ◌+ℤ◌, ◌-ℤ◌, ◌*ℤ◌, neg_ℤ, arith, refl, ap, sym, ◌∙◌}
use lib.IntN.{*ℤ-zero}
use borrow.Author.Differences.{same_in}
use Rattle.gic_model.specs.declared.parts.End.{End}
use Rattle.gic_model.specs.declared.parts.End.TheVariants.{Node, Earth}
use Rattle.gic_model.specs.declared.parts.Element.{Element}
use Rattle.gic_model.specs.Standing.{value_at, leaving}
use Rattle.gic_model.specs.Sums.{Placed, sum_of}
use Rattle.gic_fixed.proofs.Integers.{linear, up-*ℤ, down-*ℤ, *ℤ-+ℤ, *ℤ--ℤ, *ℤ-neg_ℤ, *ℤ_left_comm}

-- a and b over their denominators d and x, less c over its denominator v, all times the product of the three
abbrev pub three : (v x d : ℕ) → ℤ → ℤ → ℤ → ℤ
three v x d a b c = pos (v * x) *ℤ a +ℤ pos (v * d) *ℤ b -ℤ pos (d * x) *ℤ c

-- a product with such a sum
pub dist : (k a b c : ℤ) → k *ℤ (a +ℤ b -ℤ c) ≡ k *ℤ a +ℤ k *ℤ b -ℤ k *ℤ c
dist k a b c =
    let first = *ℤ-+ℤ k a b in
    let second = *ℤ--ℤ k (a +ℤ b) c in
    omega (arith, linear)

-- one voltage over either denominator
same_volt : (v x d : ℕ) (u : ℤ) → pos (v * x) *ℤ (pos d *ℤ u) ≡ pos (d * x) *ℤ (pos v *ℤ u)
same_volt v x d u = same_in _ _ (simp (up-*ℤ, down-*ℤ) (omega arith))

-- one current, times the resistance
through : (r w k c f u : ℤ) → r *ℤ c ≡ w *ℤ (f +ℤ u) → r *ℤ (k *ℤ c) ≡ w *ℤ (k *ℤ f) +ℤ w *ℤ (k *ℤ u)
through r w k c f u ohm =
    *ℤ_left_comm r k c ∙ ap (λ z. k *ℤ z) ohm ∙ *ℤ_left_comm k w (f +ℤ u) ∙ ap (λ z. w *ℤ z) (*ℤ-+ℤ k f u) ∙ *ℤ-+ℤ w (k *ℤ f) (k *ℤ u)

-- Ohm's law of the three together: the voltages of the two cancel, and the lift has none
pub ohm_of_three : (r w : ℤ) (v x d : ℕ) (a b c f g h u l : ℤ) → r *ℤ a ≡ w *ℤ (f +ℤ pos d *ℤ u) → r *ℤ b ≡ w *ℤ (g +ℤ pos x *ℤ l) → l ≡ pos 0 → r *ℤ c ≡ w *ℤ (h +ℤ pos v *ℤ u) →
    r *ℤ three v x d a b c ≡ w *ℤ three v x d f g h
ohm_of_three r w v x d a b c f g h u l first second none third =
    let left = dist r (pos (v * x) *ℤ a) (pos (v * d) *ℤ b) (pos (d * x) *ℤ c) in
    let right = dist w (pos (v * x) *ℤ f) (pos (v * d) *ℤ g) (pos (d * x) *ℤ h) in
    let one = through r w (pos (v * x)) a f (pos d *ℤ u) first in
    let other = through r w (pos (v * d)) b g (pos x *ℤ l) second in
    let last = through r w (pos (d * x)) c h (pos v *ℤ u) third in
    let cancelled = ap (λ z. w *ℤ z) (same_volt v x d u) in
    let nothing : w *ℤ (pos (v * d) *ℤ (pos x *ℤ l)) ≡ pos 0 =
    ap (λ z. w *ℤ (pos (v * d) *ℤ (pos x *ℤ z))) none ∙ ap (λ z. w *ℤ (pos (v * d) *ℤ z)) (*ℤ-zero (pos x)) ∙ ap (λ z. w *ℤ z) (*ℤ-zero (pos (v * d))) ∙ *ℤ-zero w in
    omega (arith, linear)

-- differences of three
pub three--ℤ : (v x d : ℕ) (a b c a' b' c' : ℤ) → three v x d (a -ℤ a') (b -ℤ b') (c -ℤ c') ≡ three v x d a b c -ℤ three v x d a' b' c'
three--ℤ v x d a b c a' b' c' =
    let first = *ℤ--ℤ (pos (v * x)) a a' in
    let second = *ℤ--ℤ (pos (v * d)) b b' in
    let third = *ℤ--ℤ (pos (d * x)) c c' in
    omega (arith, linear)

three-neg_ℤ : (v x d : ℕ) (a b c : ℤ) → neg_ℤ (three v x d a b c) ≡ three v x d (neg_ℤ a) (neg_ℤ b) (neg_ℤ c)
three-neg_ℤ v x d a b c =
    let first = *ℤ-neg_ℤ (pos (v * x)) a in
    let second = *ℤ-neg_ℤ (pos (v * d)) b in
    let third = *ℤ-neg_ℤ (pos (d * x)) c in
    omega (arith, linear)

three-+ℤ : (v x d : ℕ) (a b c a' b' c' : ℤ) → three v x d (a +ℤ a') (b +ℤ b') (c +ℤ c') ≡ three v x d a b c +ℤ three v x d a' b' c'
three-+ℤ v x d a b c a' b' c' =
    let first = *ℤ-+ℤ (pos (v * x)) a a' in
    let second = *ℤ-+ℤ (pos (v * d)) b b' in
    let third = *ℤ-+ℤ (pos (d * x)) c c' in
    omega (arith, linear)

pub three_zeros : (v x d : ℕ) → three v x d (pos 0) (pos 0) (pos 0) ≡ pos 0
three_zeros v x d =
    let first = *ℤ-zero (pos (v * x)) in
    let second = *ℤ-zero (pos (v * d)) in
    let third = *ℤ-zero (pos (d * x)) in
    omega (arith, linear)

pub none_of_three : (v x d : ℕ) (a b c : ℤ) → a ≡ pos 0 → b ≡ pos 0 → c ≡ pos 0 → three v x d a b c ≡ pos 0
none_of_three v x d a b c h k l =
    ap (λ z. three v x d z b c) h ∙ ap (λ z. three v x d (pos 0) z c) k ∙ ap (λ z. three v x d (pos 0) (pos 0) z) l ∙ three_zeros v x d

-- at an end
pub value_of_three : (v x d : ℕ) (f g h : ℕ → ℤ) (t : End) → value_at (λ m. three v x d (f m) (g m) (h m)) t ≡ three v x d (value_at f t) (value_at g t) (value_at h t)
value_of_three v x d f g h (Node m) = refl
value_of_three v x d f g h Earth = sym (three_zeros v x d)

-- what leaves a node
leaving_three : (v x d k : ℕ) (e : Element) (a b c : ℤ) → leaving k e (three v x d a b c) ≡ three v x d (leaving k e a) (leaving k e b) (leaving k e c)
leaving_three v x d k e a b c = by (e.from.0 == k)
  where
    by : (t : Bool) → cond t (three v x d a b c) (neg_ℤ (three v x d a b c)) ≡ three v x d (cond t a (neg_ℤ a)) (cond t b (neg_ℤ b)) (cond t c (neg_ℤ c))
    by true = refl
    by false = three-neg_ℤ v x d a b c

pub sum_of_three : (v x d k : ℕ) (f g h : ℕ → ℤ) (ps : List Placed) →
    sum_of (λ p. leaving k p.1 (three v x d (f p.0) (g p.0) (h p.0))) ps ≡
    three v x d (sum_of (λ p. leaving k p.1 (f p.0)) ps) (sum_of (λ p. leaving k p.1 (g p.0)) ps) (sum_of (λ p. leaving k p.1 (h p.0)) ps)
sum_of_three v x d k f g h [] = sym (three_zeros v x d)
sum_of_three v x d k f g h (p ∷ ps) =
    let here = leaving_three v x d k p.1 (f p.0) (g p.0) (h p.0) in
    let rest = sum_of_three v x d k f g h ps in
    let split = three-+ℤ v x d (leaving k p.1 (f p.0)) (leaving k p.1 (g p.0)) (leaving k p.1 (h p.0))
    (sum_of (λ q. leaving k q.1 (f q.0)) ps) (sum_of (λ q. leaving k q.1 (g q.0)) ps) (sum_of (λ q. leaving k q.1 (h q.0)) ps) in
    omega (arith, linear)
