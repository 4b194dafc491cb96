-- Where every live node is earthed, a solution exists for any voltages.
use Rattle.std.proofs.Common.{◌≡◌, ◌⊎◌, ℕ, ◌==◌, ◌<◌, Bool, true, false, cond, List, [], ◌∷◌, ℤ, pos, ◌*ℤ◌, neg_ℤ, arith, refl, ap, sym, ◌∙◌, inl, inr}
use lib.IntN.{*ℤ_comm, *ℤ-zero}
use Rattle.std.specs.List.{AllByRecursion}
use Rattle.gic_base.proofs.Each.{weaker}
use Rattle.gic_model.specs.Limits.{IsElementWithin}
use Rattle.gic_model.specs.Standing.{is_live, IsLive, elements_at, leaving}
use Rattle.gic_model.specs.Earthing.{IsEarthed}
use Rattle.gic_model.specs.Sums.{Placed}
use Rattle.gic_model.specs.Solution.{Solution, IsSolution}
use Rattle.gic_model.specs.Ohms.{product_of_ohms, sum_over_ohms}
use Rattle.gic_fixed.proofs.Integers.{linear, nothing_from}
use Rattle.gic_model.proofs.Row.{weight}
use Rattle.gic_model.proofs.SumLaws.{HasOhms, product_positive}
use Rattle.gic_model.proofs.Ends.{live_within}
use Rattle.gic_model.proofs.Agreement.{no_potential}
use Rattle.gic_exists.specs.Linear.{IsSolvedBy, IsZeroAt, Solved, Vanishing}
use Rattle.gic_exists.specs.Exists.{HasSolution}
use Rattle.gic_exists.specs.Worked.{no_volts}
use Rattle.gic_exists.proofs.Elimination.{solved_or_vanishing}
use Rattle.gic_exists.proofs.Listed.{length-listed}
use Rattle.gic_exists.proofs.Places.{IsApart}
use Rattle.gic_exists.proofs.Balanced.{IsBalanced, made, made_solves}
use Rattle.gic_exists.proofs.Forms.{push, row_by, rows_of, at_live, at_dead, balance}

-- no voltages drive nothing
pushes_none : (k : ℕ) (p : Placed) → push k no_volts p ≡ pos 0
pushes_none k p = ap (λ z. leaving k p.1 z) (*ℤ-zero (weight p)) ∙ by (p.1.from.0 == k)
  where
    by : (b : Bool) → cond b (pos 0) (neg_ℤ (pos 0)) ≡ pos 0
    by true = refl
    by false = refl

no_push : (k : ℕ) (ps : List Placed) → sum_over_ohms (push k no_volts) ps ≡ pos 0
no_push k [] = refl
no_push k (p ∷ ps) =
    let here = ap (λ z. z *ℤ pos (product_of_ohms ps)) (pushes_none k p) in
    let turned = *ℤ_comm (pos 0) (pos (product_of_ohms ps)) in
    let none = *ℤ-zero (pos (product_of_ohms ps)) in
    let rest = ap (λ z. pos p.1.micro_ohm *ℤ z) (no_push k ps) ∙ *ℤ-zero (pos p.1.micro_ohm) in
    omega (arith, linear)

module _ (nodes : ℕ) (standing : List Placed) (ohms : AllByRecursion HasOhms standing) (are_apart : IsApart standing) (few : (k : ℕ) → IsLive standing k → k < nodes)
    (undriven : (s : Solution) → IsSolution standing no_volts s → (k : ℕ) → IsLive standing k → s.potential k ≡ pos 0) where
  -- the forms vanish at all zeros alone
  none_vanish : (volts : ℕ → ℤ) → Vanishing nodes (rows_of standing volts nodes) → ⊥
  none_vanish volts v = by (is_live standing v.place) refl
    where
      balanced : IsBalanced standing no_volts v.at 1
      balanced k live =
          let none = no_push k (elements_at standing k) in
          balance standing no_volts v.at 1 k (at_live (IsZeroAt v.at) standing volts nodes v.holds k (few k live) live ∙ sym (ap (λ z. pos 1 *ℤ neg_ℤ z) none))

      by : (b : Bool) → is_live standing v.place ≡ b → ⊥
      by true live = v.not_0 (nothing_from (product_of_ohms standing) (v.at v.place) (product_positive standing ohms)
          (undriven (made standing no_volts v.at 1) (made_solves standing ohms are_apart no_volts v.at 1 (omega arith) balanced) v.place live))
      by false dead = v.not_0 (at_dead (IsZeroAt v.at) standing volts nodes v.holds v.place v.below dead)

  -- where no potential comes of no voltage, a solution exists for any voltages
  pub solution_where_undriven : (volts : ℕ → ℤ) → HasSolution standing volts
  solution_where_undriven volts = by (solved_or_vanishing nodes (rows_of standing volts nodes) (let same = length-listed (λ k. row_by standing volts k (is_live standing k)) nodes in omega arith))
    where
      by : Solved (rows_of standing volts nodes) ⊎ Vanishing nodes (rows_of standing volts nodes) → HasSolution standing volts
      by (inl s) = record {
        solution = made standing volts s.at s.over;
        solves = made_solves standing ohms are_apart volts s.at s.over s.over_above_0
            (λ k live. balance standing volts s.at s.over k (at_live (IsSolvedBy s.at (pos s.over)) standing volts nodes s.holds k (few k live) live));
      }
      by (inr v) = absurd (none_vanish volts v)

pub solution_found : (nodes : ℕ) (standing : List Placed) → AllByRecursion (λ p. IsElementWithin nodes p.1) standing → IsApart standing →
    ((m : ℕ) → IsLive standing m → IsEarthed standing m) → (volts : ℕ → ℤ) → HasSolution standing volts
solution_found nodes standing within are_apart earthed =
    solution_where_undriven nodes standing (weaker (λ p. IsElementWithin nodes p.1) HasOhms (λ p h. let least = h.least_ohm in omega arith) standing within) are_apart
    (λ k live. live_within nodes standing k within live) (λ s solves k live. no_potential nodes standing within no_volts s solves (λ place. refl) earthed k live)
