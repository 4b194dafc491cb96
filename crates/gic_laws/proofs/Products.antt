-- Products of whole numbers in another order, and a factor that is taken off.
use Rattle.std.proofs.Common.{◌≡◌, ℕ, ◌*◌, ◌<◌, ℤ, pos, ◌+ℤ◌, ◌*ℤ◌, arith, ap, sym, ◌∙◌}
use borrow.Author.Differences.{same_in}
use Rattle.gic_fixed.proofs.Integers.{linear, *ℤ-+ℤ, ≤ℤ-from_*ℤ, up-*ℤ, down-*ℤ}

-- a common factor of a denominator goes to the prefix
pub out : (a b : ℤ) (k d : ℕ) → a *ℤ (b *ℤ pos (k * d)) ≡ pos k *ℤ (a *ℤ (pos d *ℤ b))
out a b k d = same_in _ _ (simp (up-*ℤ, down-*ℤ) (omega arith))

-- and so it does twice
pub out_twice : (a b : ℤ) (k d e : ℕ) → a *ℤ (b *ℤ pos (k * d * (k * e))) ≡ pos (k * k) *ℤ (a *ℤ (b *ℤ pos (d * e)))
out_twice a b k d e = same_in _ _ (simp (up-*ℤ, down-*ℤ) (omega arith))

pub in_twice : (z : ℤ) (k d : ℕ) → pos (k * d) *ℤ (pos k *ℤ z) ≡ pos (k * k) *ℤ (pos d *ℤ z)
in_twice z k d = same_in _ _ (simp (up-*ℤ, down-*ℤ) (omega arith))

pub square_out : (z : ℤ) (d : ℕ) → z *ℤ pos (d * d) ≡ pos d *ℤ (pos d *ℤ z)
square_out z d = same_in _ _ (simp (up-*ℤ, down-*ℤ) (omega arith))

pub once_out : (a z : ℤ) (d e : ℕ) → (a *ℤ (pos d *ℤ z)) *ℤ pos e ≡ pos d *ℤ (a *ℤ (z *ℤ pos e))
once_out a z d e = same_in _ _ (simp (up-*ℤ, down-*ℤ) (omega arith))

pub crossed : (a b c d : ℤ) → (a *ℤ b) *ℤ (c *ℤ d) ≡ (a *ℤ d) *ℤ (c *ℤ b)
crossed a b c d = same_in _ _ (simp (up-*ℤ, down-*ℤ) (omega arith))

pub parts_out : (a q z : ℤ) (k : ℕ) → a *ℤ ((pos k *ℤ q) *ℤ z) ≡ (a *ℤ pos k) *ℤ (q *ℤ z)
parts_out a q z k = same_in _ _ (simp (up-*ℤ, down-*ℤ) (omega arith))

-- a factor above 0 is taken off
pub cancelled : (c : ℕ) (a b : ℤ) → 0 < c → pos c *ℤ a ≡ pos c *ℤ b → a ≡ b
cancelled c a b some is =
    let most = ≤ℤ-from_*ℤ c a b some (omega (arith, linear)) in
    let least = ≤ℤ-from_*ℤ c b a some (omega (arith, linear)) in
    omega (arith, linear)

-- the currents in one field and those of two others together, where those are over the denominators d, n and e, and these are k times as great
pub scaled : (strength north east q a b : ℤ) (k d n e : ℕ) → pos d *ℤ (north *ℤ (pos e *ℤ a) +ℤ east *ℤ (pos n *ℤ b)) ≡ strength *ℤ (q *ℤ pos (n * e)) →
    strength *ℤ (q *ℤ pos (k * n * (k * e))) ≡ pos (k * d) *ℤ (north *ℤ (a *ℤ pos (k * e)) +ℤ east *ℤ (b *ℤ pos (k * n)))
scaled strength north east q a b k d n e is =
    let sum : north *ℤ (a *ℤ pos (k * e)) +ℤ east *ℤ (b *ℤ pos (k * n)) ≡ pos k *ℤ (north *ℤ (pos e *ℤ a) +ℤ east *ℤ (pos n *ℤ b)) =
    ap (λ z. z +ℤ east *ℤ (b *ℤ pos (k * n))) (out north a k e) ∙ ap (λ z. pos k *ℤ (north *ℤ (pos e *ℤ a)) +ℤ z) (out east b k n)
    ∙ sym (*ℤ-+ℤ (pos k) (north *ℤ (pos e *ℤ a)) (east *ℤ (pos n *ℤ b))) in
    out_twice strength q k n e ∙ ap (λ z. pos (k * k) *ℤ z) (sym is)
    ∙ sym (in_twice (north *ℤ (pos e *ℤ a) +ℤ east *ℤ (pos n *ℤ b)) k d) ∙ ap (λ z. pos (k * d) *ℤ z) (sym sum)
