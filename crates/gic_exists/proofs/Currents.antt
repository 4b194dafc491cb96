-- Two solutions give the same currents.
use Rattle.std.proofs.Common.{◌≡◌, ℕ, ◌<◌, ◌==◌, Bool, true, false, List, ℤ, pos, negsuc, ◌+ℤ◌, ◌-ℤ◌, ◌*ℤ◌, arith, refl, ap, sym, ◌∙◌, eqb-true}
use lib.IntN.{*ℤ-zero}
use Rattle.std.specs.List.{AllByRecursion}
use Rattle.std.proofs.lemmas.List.Elements.{recursion_from_All}
use Rattle.gic_base.proofs.Each.{weaker}
use Rattle.gic_model.specs.declared.parts.End.{End}
use Rattle.gic_model.specs.declared.parts.End.TheVariants.{Node, Earth}
use Rattle.gic_model.specs.Network.{ends_at}
use Rattle.gic_model.specs.Limits.{IsElementWithin}
use Rattle.gic_model.specs.Standing.{is_live, IsLive, is_standing, value_at}
use Rattle.gic_model.specs.Earthing.{IsEarthed}
use Rattle.gic_model.specs.Sums.{Placed}
use Rattle.gic_model.specs.Solution.{Solution, IsOhm, IsSolution}
use Rattle.gic_model.specs.SolutionLaws.{combined}
use Rattle.gic_fixed.proofs.Integers.{linear, nothing_from}
use Rattle.gic_model.proofs.Row.{weight}
use Rattle.gic_model.proofs.Members.{both, by_any}
use Rattle.gic_model.proofs.Superposition.{superposition}
use Rattle.gic_model.proofs.Ends.{IsLiveEnd, end_own, from_own, ends_live}
use Rattle.gic_model.proofs.Agreement.{no_potential, same_less, crosswise, potentials_agree}
use Rattle.gic_exists.specs.Exists.{Agree}

-- where every live node has the value 0, so has a live end, or earth
value_none : (live : ℕ → Bool) (x : ℕ → ℤ) → ((m : ℕ) → live m ≡ true → x m ≡ pos 0) → (t : End) → IsLiveEnd live t → value_at x t ≡ pos 0
value_none live x none (Node m) alive = none m.0 alive
value_none live x none Earth alive = refl

-- over plain numbers: nothing falls and nothing drives
no_flow : (r : ℕ) (w a b d u c : ℤ) → 0 < r → a ≡ pos 0 → b ≡ pos 0 → u ≡ pos 0 → pos r *ℤ c ≡ w *ℤ (a -ℤ b +ℤ d *ℤ u) → c ≡ pos 0
no_flow r w a b d u c some at_from at_to none ohm =
    let drive = ap (λ z. d *ℤ z) none ∙ *ℤ-zero d in
    let inner : a -ℤ b +ℤ d *ℤ u ≡ pos 0 = omega (arith, linear) in
    nothing_from r c some (ohm ∙ ap (λ z. w *ℤ z) inner ∙ *ℤ-zero w)

module _ (nodes : ℕ) (standing : List Placed) (within : AllByRecursion (λ p. IsElementWithin nodes p.1) standing)
    (earthed : (m : ℕ) → IsLive standing m → IsEarthed standing m) where
  -- without voltages no element carries a current
  no_current : (volts : ℕ → ℤ) (s : Solution) → IsSolution standing volts s → ((place : ℕ) → volts place ≡ pos 0) → (place : ℕ) → s.current place ≡ pos 0
  no_current volts s solves none place = by (is_standing standing place) refl
    where
      at_end : (m : ℕ) → is_live standing m ≡ true → s.potential m ≡ pos 0
      at_end m live = no_potential nodes standing within volts s solves none earthed m live

      each : AllByRecursion (λ p. s.current p.0 ≡ pos 0) standing
      each =
          weaker (λ p. (IsElementWithin nodes p.1 × IsOhm volts s p) × ((m : ℕ) → ends_at p.1 m ≡ true → is_live standing m ≡ true)) (λ p. s.current p.0 ≡ pos 0)
          (λ p h. let least = h.0.0.least_ohm in
          no_flow p.1.micro_ohm (weight p) (s.potential p.1.from.0) (value_at s.potential p.1.to) (pos s.denominator) (volts p.0) (s.current p.0) (omega arith)
          (at_end p.1.from.0 (from_own p.1 (is_live standing) h.1)) (value_none (is_live standing) s.potential at_end p.1.to (end_own p.1 p.1.to refl (is_live standing) h.1)) (none p.0) h.0.1) standing
          (both (λ p. IsElementWithin nodes p.1 × IsOhm volts s p) (λ p. (m : ℕ) → ends_at p.1 m ≡ true → is_live standing m ≡ true) standing
          (both (λ p. IsElementWithin nodes p.1) (IsOhm volts s) standing within (recursion_from_All (IsOhm volts s) standing solves.ohm)) (ends_live standing))

      by : (b : Bool) → is_standing standing place ≡ b → s.current place ≡ pos 0
      by true stands = by_any (λ p. p.0 == place) (λ p. s.current p.0 ≡ pos 0) (λ p is h. ap s.current (sym (eqb-true p.0 place is)) ∙ h) standing each stands
      by false not_in = solves.none_if_open place not_in

  pub agree : (volts : ℕ → ℤ) (one other : Solution) → IsSolution standing volts one → IsSolution standing volts other → Agree standing one other
  agree volts one other first second = record {
    potentials = λ k live. potentials_agree nodes standing within volts one other first second earthed k live;
    currents = λ place. crosswise (one.current place) (other.current place) (pos one.denominator) (pos other.denominator)
        (no_current (λ p. pos 1 *ℤ volts p +ℤ negsuc 0 *ℤ volts p) (combined (pos 1) one (negsuc 0) other)
        (superposition standing volts volts one other (pos 1) (negsuc 0) first second) (λ p. same_less (volts p)) place);
  }
