-- Residuals look at guesses of live nodes alone.
use Rattle.std.proofs.Common.{◌≡◌, ℕ, ◌*◌, ◌^◌, ◌≤◌, true, List, ℤ, pos, ◌+ℤ◌, ◌-ℤ◌, ◌*ℤ◌, unsigned_abs, arith, refl, ap, subst}
use Rattle.gic_fixed.proofs.Integers.{linear}
use Rattle.gic_model.specs.declared.parts.End.{End}
use Rattle.gic_model.specs.declared.parts.End.TheVariants.{Node, Earth}
use Rattle.gic_model.specs.Network.{ends_at}
use Rattle.gic_model.specs.Standing.{is_live, IsLive, elements_at, value_at, leaving}
use Rattle.gic_model.specs.Guess.{guessed_current, residual, conductance, IsSettled}
use Rattle.gic_model.specs.Sums.{Placed}
use Rattle.gic_model.proofs.Members.{kept}
use Rattle.gic_model.proofs.Ends.{IsLiveEnd, end_own, from_own, ends_live}
use Rattle.gic_model.proofs.Row.{weight}
use Rattle.gic_model.proofs.SumLaws.{sum_over_ohms-same}

-- guesses that are the same at live nodes have the same residuals
pub residual_same : (standing : List Placed) (k : ℕ) (u v x y : ℕ → ℤ) → ((i : ℕ) → u i ≡ v i) → ((m : ℕ) → IsLive standing m → x m ≡ y m) → residual standing u x k ≡ residual standing v y k
residual_same standing k u v x y volts guesses =
    sum_over_ohms-same (λ p. leaving k p.1 (guessed_current u x p)) (λ p. leaving k p.1 (guessed_current v y p)) (elements_at standing k)
    (kept (λ p. ends_at p.1 k) (λ p. (m : ℕ) → ends_at p.1 m ≡ true → is_live standing m ≡ true) (λ p. leaving k p.1 (guessed_current u x p) ≡ leaving k p.1 (guessed_current v y p))
    (λ p is leads. ap (λ z. leaving k p.1 z) (current p leads)) standing
    (ends_live standing))
  where
    there : (t : End) → IsLiveEnd (is_live standing) t → value_at x t ≡ value_at y t
    there (Node m) live = guesses m.0 live
    there Earth live = refl

    current : (p : Placed) → ((m : ℕ) → ends_at p.1 m ≡ true → is_live standing m ≡ true) → guessed_current u x p ≡ guessed_current v y p
    current p leads =
        let from = guesses p.1.from.0 (from_own p.1 (is_live standing) leads) in
        let to = there p.1.to (end_own p.1 p.1.to refl (is_live standing) leads) in
        let push = ap (λ z. pos (2 ^ 36) *ℤ z) (volts p.0) in
        let inner : x p.1.from.0 -ℤ value_at x p.1.to +ℤ pos (2 ^ 36) *ℤ u p.0 ≡ y p.1.from.0 -ℤ value_at y p.1.to +ℤ pos (2 ^ 36) *ℤ v p.0 = omega (arith, linear) in
        ap (λ z. weight p *ℤ z) inner

-- and where one is settled, so is the other
pub settled_same : (standing : List Placed) (volts x y : ℕ → ℤ) → ((k : ℕ) → IsLive standing k → x k ≡ y k) → IsSettled standing volts x → IsSettled standing volts y
settled_same standing volts x y same h k live =
    subst (λ (z : ℤ). unsigned_abs z ≤ 2 ^ 18 * unsigned_abs (conductance standing k)) (residual_same standing k volts volts x y (λ i. refl) same) (h k live)
