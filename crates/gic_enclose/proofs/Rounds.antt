-- What the interval round a guess tells.
use Rattle.std.proofs.Common.{◌≡◌, ℕ, ◌*◌, ◌^◌, ◌<◌, ◌≤◌, List, ℤ, pos, ◌+ℤ◌, ◌-ℤ◌, ◌*ℤ◌, unsigned_abs, arith, refl, sym, subst, subst₂, ⊎_elim}
use Rattle.std.proofs.lemmas.Int.{ints}
use Rattle.std.proofs.lemmas.Bool.{cases_Bool}
use Rattle.gic_fixed.specs.Encloses.{Encloses}
use Rattle.gic_fixed.specs.Ends.{Ends, zero_ends}
use Rattle.gic_model.specs.Solution.{Solution, IsSolution}
use Rattle.gic_model.specs.Standing.{IsLive, is_live}
use Rattle.gic_model.specs.Sums.{Placed}
use Rattle.gic_enclose.specs.Certain.{IsCertainAt, IsNarrow, IsTight}
use Rattle.gic_enclose.specs.Round.{IsRoundGuess}
use Rattle.gic_enclose.proofs.Cuts.{cut_encloses, cut_narrow, cut_tight, cut_middle}

module _ (standing : List Placed) (x : ℕ → ℤ) (v : ℕ → ℕ) (t k : ℕ) (ends : Ends) (round : IsRoundGuess standing x v t k ends) (few : v k ≤ 4096) where
  either : (P : Ends → Type 0) → (IsLive standing k → P ends) → P zero_ends → P ends
  either P live dead = ⊎_elim live (λ none. subst P (sym (round.dead none)) dead) (cases_Bool (is_live standing k))

  pub narrow_round : t ≤ 2 ^ 30 → IsNarrow ends
  narrow_round h = either IsNarrow (λ live. cut_narrow (x k) ends.low ends.high (v k) t (v k * t) few h refl (round.low live) (round.high live)) (omega (arith, ints))

  pub tight_round : t ≤ 2 ^ 19 → IsTight ends
  tight_round h = either IsTight (λ live. cut_tight (x k) ends.low ends.high (v k) t (v k * t) few h refl (round.low live) (round.high live)) (omega (arith, ints))

  pub middle_round : t ≤ 2 ^ 30 → IsLive standing k → unsigned_abs (x k) ≤ 2 ^ 95 → ends.low +ℤ ends.high ≡ pos 2 *ℤ x k
  middle_round h live near = cut_middle (x k) ends.low ends.high (v k) t (v k * t) few h refl near (round.low live) (round.high live)

-- where the uncut interval holds each solution, so does the cut one
pub certain_round : (standing : List Placed) (volts x : ℕ → ℤ) (v : ℕ → ℕ) (t k : ℕ) (ends : Ends) → IsRoundGuess standing x v t k ends →
    ((s : Solution) → IsSolution standing volts s → IsLive standing k →
    Encloses (x k -ℤ pos (v k * t)) (x k +ℤ pos (v k * t)) (pos (2 ^ 36) *ℤ s.potential k) s.denominator × (2 ^ 36 * unsigned_abs (s.potential k) < 2 ^ 95 * s.denominator)) →
    IsCertainAt standing volts k ends
certain_round standing volts x v t k ends round holds = record {
  live = λ live s solves.
      let both = holds s solves live in
      subst₂ (λ (a b : ℤ). Encloses a b (pos (2 ^ 36) *ℤ s.potential k) s.denominator) (sym (round.low live)) (sym (round.high live))
      (cut_encloses (x k -ℤ pos (v k * t)) (x k +ℤ pos (v k * t)) (s.potential k) s.denominator both.0 both.1);
  dead = round.dead;
}
