-- The potential bound: solutions and settled guesses are less than 2^94 grains from 0.
use Rattle.std.proofs.Common.{◌∙◌, ◌≡◌, ℕ, ◌+◌, ◌*◌, ◌^◌, ◌<◌, ◌≤◌, Bool, true, false, cond, ◌==◌, List, [], ◌∷◌, ℤ, pos, ◌+ℤ◌, ◌-ℤ◌, ◌*ℤ◌, neg_ℤ, unsigned_abs, arith, refl, ap, mul-le-mul_right, mul-le-mul_left}
use lib.IntN.{*ℤ-zero}
use Rattle.std.specs.List.{AllByRecursion}
use Rattle.std.proofs.lemmas.Int.{ints, unsigned_abs-mul}
use Rattle.std.proofs.lemmas.List.Elements.{All-from_recursion}
use Rattle.gic_fixed.proofs.Integers.{linear, *ℤ_left_comm}
use Rattle.gic_model.specs.declared.parts.Element.{Element}
use Rattle.gic_model.specs.declared.parts.Item.{Item}
use Rattle.gic_model.specs.Bound.{IsEarthedWithin}
use Rattle.gic_model.specs.Network.{Network}
use Rattle.gic_model.specs.Limits.{IsWithinLimits, most_volts, most_wide_volts, AreVolts}
use Rattle.gic_model.specs.Standing.{IsLive, elements_at, value_at, leaving, standing_elements}
use Rattle.gic_model.specs.Sums.{Placed, sum_of}
use Rattle.gic_model.specs.Solution.{Solution, IsSolution, IsOhm}
use Rattle.gic_model.specs.Guess.{residual, conductance, IsSettledWithin}
use Rattle.gic_model.proofs.Row.{weight}
use Rattle.gic_model.proofs.Residual.{error}
use Rattle.gic_model.proofs.Ends.{standing_within}
use Rattle.gic_model.proofs.Certificate.{error_bound}
use Rattle.gic_model.proofs.Pushes.{no_guess, no_guess-at, settled_at_0, potentials_bounded}
use Rattle.gic_model.proofs.LiveGuesses.{residual_same}
use Rattle.gic_enclose.proofs.LinearResidual.{no_volts, residual_sum}
use Rattle.gic_enclose.specs.Drive.{in_grains, most_driven_potential, AreRoughPotentials}
use Rattle.gic_enclose.specs.Laws.{SolutionsAreBelow, SettledGuessesAreBelow, DrivenSolutionsAreBelow, CaseVoltsDriveWithin}

-- over plain numbers: the limit in grains
below_limit : (p d : ℕ) → 0 < d → p ≤ 4096 * most_volts * d → 2 ^ 36 * p < 2 ^ 94 * d
below_limit p d some h = omega (arith, some, h)

pub solutions_below : SolutionsAreBelow
solutions_below network stands volts s k limits earthed volt solves live =
    let most = potentials_bounded network.nodes (standing_elements network stands) (standing_within network stands limits) volts s earthed volt solves k live in
    below_limit (unsigned_abs (s.potential k)) s.denominator solves.denominator_above_0 most

-- without voltages nothing flows where every potential is 0
abbrev pub no_potential : Solution
no_potential = record { potential = no_guess; current = no_volts; denominator = 1 }

no_potential_solves : (standing : List Placed) → IsSolution standing no_volts no_potential
no_potential_solves standing = record {
  denominator_above_0 = omega arith;
  ohm = All-from_recursion (IsOhm no_volts no_potential) standing (each standing);
  none_if_open = λ place is. refl;
  kirchhoff = λ k live. none k (elements_at standing k);
}
  where
    one : (p : Placed) → IsOhm no_volts no_potential p
    one p =
        let there = no_guess-at p.1.to in
        let nothing = *ℤ-zero (pos p.1.micro_ohm) in
        let driven : pos 0 -ℤ value_at no_guess p.1.to +ℤ pos 1 *ℤ pos 0 ≡ pos 0 = omega (arith, linear) in
        let none = *ℤ-zero (weight p) in
        let product = ap (λ z. weight p *ℤ z) driven in
        omega (arith, linear)

    each : (ps : List Placed) → AllByRecursion (IsOhm no_volts no_potential) ps
    each [] = tt
    each (p ∷ ps) = (one p, each ps)

    leaves : (k : ℕ) (e : Element) → leaving k e (pos 0) ≡ pos 0
    leaves k e = by (e.from.0 == k)
      where
        by : (b : Bool) → cond b (pos 0) (neg_ℤ (pos 0)) ≡ pos 0
        by true = refl
        by false = refl

    none : (k : ℕ) (ps : List Placed) → sum_of (λ p. leaving k p.1 (pos 0)) ps ≡ pos 0
    none k [] = refl
    none k (p ∷ ps) = omega (arith, linear, leaves k p.1, none k ps)

-- what guesses carry, without the voltages and by the voltages alone
residual_splits : (standing : List Placed) (volts x : ℕ → ℤ) (k : ℕ) → residual standing volts x k ≡ residual standing no_volts x k +ℤ residual standing volts no_guess k
residual_splits standing volts x k =
    residual_same standing k volts (λ i. no_volts i +ℤ volts i) x (λ m. x m +ℤ no_guess m) (λ i. omega (arith, linear)) (λ m live. omega (arith, linear)) ∙
    residual_sum standing k no_volts volts x no_guess

-- over plain numbers
two_parts : (r a b : ℤ) (t u g : ℕ) → r ≡ a +ℤ b → unsigned_abs r ≤ t * g → unsigned_abs b ≤ u * g → unsigned_abs a ≤ (t + u) * g
two_parts r a b t u g is h k = omega (arith, ints, is, h, k)

-- so settled guesses are settled without the voltages too, within the greatest voltage more
settled_without : (standing : List Placed) (volts x : ℕ → ℤ) (t : ℕ) → AreVolts volts → IsSettledWithin standing volts x t → IsSettledWithin standing no_volts x (t + 2 ^ 36 * most_volts)
settled_without standing volts x t volt settled k live =
    two_parts (residual standing volts x k) (residual standing no_volts x k) (residual standing volts no_guess k) t (2 ^ 36 * most_volts) (unsigned_abs (conductance standing k))
    (residual_splits standing volts x k) (settled k live) (settled_at_0 volts volt standing k live)

pub settled_below_within : (network : Network) (stands : Item → Bool) (volts x : ℕ → ℤ) (k t : ℕ) → t ≤ 2 ^ 29 →
    IsWithinLimits network → IsEarthedWithin (standing_elements network stands) 4096 → AreVolts volts → IsSettledWithin (standing_elements network stands) volts x t → IsLive (standing_elements network stands) k →
    unsigned_abs (x k) < 2 ^ 94
settled_below_within network stands volts x k t few limits earthed volt settled live =
    let standing = standing_elements network stands in
    let u = t + 2 ^ 36 * most_volts in
    let bound = error_bound network.nodes standing (standing_within network stands limits) no_volts x no_potential earthed.entries u (no_potential_solves standing) earthed.bound
    (settled_without standing volts x t volt settled) k live in
    let nothing = *ℤ-zero (pos (2 ^ 36)) in
    let size : unsigned_abs (error no_potential x k) ≡ unsigned_abs (x k) = omega (arith, ints) in
    let most : earthed.entries k * (1 * u) ≤ 4096 * (1 * u) = mul-le-mul_right (1 * u) (earthed.none_above k) in
    omega (arith, size, bound, most, few)

pub settled_below : SettledGuessesAreBelow
settled_below network stands volts x k limits earthed volt settled live = settled_below_within network stands volts x k (2 ^ 18) (omega arith) limits earthed volt settled live

-- over plain numbers: the error of rough potentials and their own size
below_driven : (e n p : ℤ) (d v : ℕ) → 0 < d → e ≡ pos d *ℤ (pos (2 ^ 36) *ℤ n) -ℤ pos (2 ^ 36) *ℤ p → unsigned_abs e ≤ v * (d * (2 ^ 36 * most_volts)) → v ≤ 4096 → unsigned_abs n ≤ most_wide_volts →
    2 ^ 36 * unsigned_abs p < most_driven_potential * d
below_driven e n p d v some is error few most =
    let all : v * (d * (2 ^ 36 * most_volts)) ≤ 4096 * (d * (2 ^ 36 * most_volts)) = mul-le-mul_right (d * (2 ^ 36 * most_volts)) few in
    let own : unsigned_abs (pos d *ℤ n) ≡ d * unsigned_abs n = unsigned_abs-mul (pos d) n in
    let turned : pos d *ℤ (pos (2 ^ 36) *ℤ n) ≡ pos (2 ^ 36) *ℤ (pos d *ℤ n) = *ℤ_left_comm (pos d) (pos (2 ^ 36)) n in
    let times : d * unsigned_abs n ≤ d * most_wide_volts = mul-le-mul_left d most in
    plain (pos d *ℤ n) (omega (arith, linear)) (omega (arith, own, times)) (omega (arith, error, all))
  where
    plain : (m : ℤ) → e ≡ pos (2 ^ 36) *ℤ m -ℤ pos (2 ^ 36) *ℤ p → unsigned_abs m ≤ d * most_wide_volts → unsigned_abs e ≤ 4096 * (d * (2 ^ 36 * most_volts)) → 2 ^ 36 * unsigned_abs p < most_driven_potential * d
    plain m e_is m_most e_most = omega (arith, ints, e_is, m_most, e_most, some)

pub driven_below : DrivenSolutionsAreBelow
driven_below network stands volts s k limits earthed driven solves live =
    let standing = standing_elements network stands in
    let x = in_grains driven.potential in
    let bound = error_bound network.nodes standing (standing_within network stands limits) volts x s earthed.entries (2 ^ 36 * most_volts) solves earthed.bound driven.are_rough.rough k live in
    below_driven (error s x k) (driven.potential k) (s.potential k) s.denominator (earthed.entries k) solves.denominator_above_0 refl bound (earthed.none_above k) (driven.are_rough.within k live)

-- the voltages of a case: potentials of 0 are rough
pub case_volts_drive : CaseVoltsDriveWithin
case_volts_drive network stands volts limit = record {
  potential = no_guess;
  are_rough = record {
    within = λ k live. omega arith;
    rough = settled_at_0 volts limit (standing_elements network stands);
  };
}
