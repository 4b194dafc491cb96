-- Networks with a fraction of a micro-ohm at each ground. Such a ground is an element of as many paths more as the denominator says, each of `numerator` micro-ohm; so where each live node is earthed, these networks have solutions.
use Rattle.std.proofs.Common.{◌≡◌, ℕ, ◌*◌, ◌<◌, ◌≤◌, Bool, true, false, cond, ◌==◌, List, [], ◌∷◌, map, inr, ℤ, pos, ◌+ℤ◌, ◌-ℤ◌, ◌*ℤ◌, neg_ℤ, ◌≤ℤ◌, arith, refl, ap, sym, ◌∙◌}
use lib.IntN.{*ℤ_comm, *ℤ-zero}
use Rattle.std.proofs.Math.IntN.{*ℤ-one}
use Rattle.std.specs.List.{AllByRecursion}
use Rattle.std.proofs.lemmas.List.Elements.{recursion_from_All, All-from_recursion}
use Rattle.gic_base.proofs.Each.{weaker}
use Rattle.gic_exists.specs.Exists.{HasSolution}
use Rattle.gic_exists.specs.Worked.{no_volts}
use Rattle.gic_exists.proofs.Existence.{solution_where_undriven}
use Rattle.gic_exists.proofs.Places.{found_at, IsApart, apart}
use Rattle.gic_fixed.proofs.Integers.{linear, *ℤ_assoc}
use Rattle.gic_fixed.proofs.Divisions.{positive_product}
use Rattle.gic_model.specs.declared.parts.Item.{Item}
use Rattle.gic_model.specs.Earthing.{AreEarthed}
use Rattle.gic_model.specs.Limits.{IsWithinLimits, IsElementWithin}
use Rattle.gic_model.specs.Network.{Network, ends_at}
use Rattle.gic_model.specs.Solution.{Solution, IsOhm, IsSolution}
use Rattle.gic_model.specs.Standing.{standing_elements, IsLive, is_standing, elements_at, value_at, leaving}
use Rattle.gic_model.specs.Sums.{Placed, sum_of}
use Rattle.gic_model.proofs.Ends.{standing_within, live_within}
use Rattle.gic_model.proofs.Members.{both}
use Rattle.gic_model.proofs.SumLaws.{HasOhms}
use Rattle.gic_varied.specs.Grounds.{is_ground, HaveNoGroundVolts}
use Rattle.gic_varied.specs.OneNetwork.{ground_drive_of, ShareResistance, AreOfOneNetwork, HasVariedSolution}
use Rattle.gic_varied.specs.PotentialRanges.{IsRaising, AreRaising}
use Rattle.gic_varied.specs.Ranges.{Ranges, AreInRanges, IsInRange}
use Rattle.gic_varied.specs.Varied.{IsVaried, IsGroundWithin, IsFractionOf, IsOhmOf}
use Rattle.gic_varied.proofs.FlatLifts.{flat, solves_flat_by}
use Rattle.gic_varied.proofs.GreatestPotentials.{at_most, at_least}
use Rattle.gic_varied.proofs.Regrounded.{filter-map, list_any-map, sum_of-map, all_unmapped}
use Rattle.gic_varied.proofs.Resistances.{Fraction, IsFraction, fraction_of, is_fraction, within_fraction}
use Rattle.gic_varied.proofs.Within.{value_earth}

pub all_mapped : {X Y : Type 0} (f : X → Y) (P : Y → Type 0) (xs : List X) → AllByRecursion (λ x. P (f x)) xs → AllByRecursion P (map f xs)
all_mapped f P [] h = tt
all_mapped f P (x ∷ xs) h = (h.0, all_mapped f P xs h.1)

-- the element with such a fraction, where it is a ground
abbrev pub fractioned : (Placed → Fraction) → Placed → Placed
fractioned f p = (
  p.0,
  record p.1 {
    times = cond (is_ground p.1) (p.1.times * (f p).denominator) p.1.times;
    micro_ohm = cond (is_ground p.1) (f p).numerator p.1.micro_ohm;
  },
)

-- a solution of the network with these fractions, seen over the elements of the network itself
pub record SolvesBy (standing : List Placed) (f : Placed → Fraction) (volts : ℕ → ℤ) (s : Solution) : Type 0 where
  pub denominator_above_0 : 0 < s.denominator
  pub ohm : AllByRecursion (λ p. is_ground p.1 ≡ false → IsOhm volts s p) standing
  pub grounds : AllByRecursion (λ p. is_ground p.1 ≡ true → IsOhmOf (f p).numerator (f p).denominator (ground_drive_of s p) (s.current p.0)) standing
  pub none_if_open : (place : ℕ) → is_standing standing place ≡ false → s.current place ≡ pos 0
  pub kirchhoff : (k : ℕ) → IsLive standing k → sum_of (λ p. leaving k p.1 (s.current p.0)) (elements_at standing k) ≡ pos 0

other_ohm : (f : Placed → Fraction) (volts : ℕ → ℤ) (s : Solution) (p : Placed) → IsOhm volts s (fractioned f p) → is_ground p.1 ≡ false → IsOhm volts s p
other_ohm f volts s p h other =
    let resistance : cond (is_ground p.1) (f p).numerator p.1.micro_ohm ≡ p.1.micro_ohm = ap (λ b. cond b (f p).numerator p.1.micro_ohm) other in
    let paths : cond (is_ground p.1) (p.1.times * (f p).denominator) p.1.times ≡ p.1.times = ap (λ b. cond b (p.1.times * (f p).denominator) p.1.times) other in
    sym (ap (λ (r : ℕ). pos r *ℤ s.current p.0) resistance) ∙ h ∙
    ap (λ (t : ℕ). pos (t * 1000000) *ℤ (s.potential p.1.from.0 -ℤ value_at s.potential p.1.to +ℤ pos s.denominator *ℤ volts p.0)) paths

ground_ohm : (f : Placed → Fraction) (volts : ℕ → ℤ) (s : Solution) (p : Placed) → IsOhm volts s (fractioned f p) → volts p.0 ≡ pos 0 → is_ground p.1 ≡ true →
    IsOhmOf (f p).numerator (f p).denominator (ground_drive_of s p) (s.current p.0)
ground_ohm f volts s p h none ground =
    let resistance : cond (is_ground p.1) (f p).numerator p.1.micro_ohm ≡ (f p).numerator = ap (λ b. cond b (f p).numerator p.1.micro_ohm) ground in
    let paths : cond (is_ground p.1) (p.1.times * (f p).denominator) p.1.times ≡ p.1.times * (f p).denominator = ap (λ b. cond b (p.1.times * (f p).denominator) p.1.times) ground in
    let at_earth = value_earth s.potential p.1.to ground in
    let nothing = ap (λ z. pos s.denominator *ℤ z) none ∙ *ℤ-zero (pos s.denominator) in
    let inner : s.potential p.1.from.0 -ℤ value_at s.potential p.1.to +ℤ pos s.denominator *ℤ volts p.0 ≡ s.potential p.1.from.0 = omega (arith, linear) in
    let number : p.1.times * (f p).denominator * 1000000 ≡ (f p).denominator * (p.1.times * 1000000) = omega arith in
    sym (ap (λ (r : ℕ). pos r *ℤ s.current p.0) resistance) ∙ h ∙
    ap (λ (t : ℕ). pos (t * 1000000) *ℤ (s.potential p.1.from.0 -ℤ value_at s.potential p.1.to +ℤ pos s.denominator *ℤ volts p.0)) paths ∙
    ap (λ z. pos (p.1.times * (f p).denominator * 1000000) *ℤ z) inner ∙
    ap (λ (n : ℕ). pos n *ℤ s.potential p.1.from.0) number ∙
    *ℤ_assoc (pos (f p).denominator) (pos (p.1.times * 1000000)) (s.potential p.1.from.0)

solves_by : (standing : List Placed) (f : Placed → Fraction) (volts : ℕ → ℤ) (s : Solution) → HaveNoGroundVolts standing volts → IsSolution (map (fractioned f) standing) volts s → SolvesBy standing f volts s
solves_by standing f volts s quiet h =
    let laws = all_unmapped (fractioned f) (IsOhm volts s) standing (recursion_from_All (IsOhm volts s) (map (fractioned f) standing) h.ohm) in
    record {
      denominator_above_0 = h.denominator_above_0;
      ohm = weaker (λ p. IsOhm volts s (fractioned f p)) (λ p. is_ground p.1 ≡ false → IsOhm volts s p) (λ p law other. other_ohm f volts s p law other) standing laws;
      grounds = weaker (λ p. IsOhm volts s (fractioned f p) × (is_ground p.1 ≡ true → volts p.0 ≡ pos 0))
          (λ p. is_ground p.1 ≡ true → IsOhmOf (f p).numerator (f p).denominator (ground_drive_of s p) (s.current p.0))
          (λ p law ground. ground_ohm f volts s p law.0 (law.1 ground) ground) standing
          (both (λ p. IsOhm volts s (fractioned f p)) (λ p. is_ground p.1 ≡ true → volts p.0 ≡ pos 0) standing laws (recursion_from_All (λ p. is_ground p.1 ≡ true → volts p.0 ≡ pos 0) standing quiet));
      none_if_open = λ place not_in. h.none_if_open place (list_any-map (fractioned f) (λ p. p.0 == place) standing ∙ not_in);
      kirchhoff = λ k live.
          sym (ap (sum_of (λ p. leaving k p.1 (s.current p.0))) (filter-map (fractioned f) (λ p. ends_at p.1 k) standing) ∙
          sum_of-map (fractioned f) (λ p. leaving k p.1 (s.current p.0)) (elements_at standing k)) ∙
          h.kirchhoff k (list_any-map (fractioned f) (λ p. ends_at p.1 k) standing ∙ live);
    }

-- fractions of the ranges
abbrev pub AreFractions : List Placed → Ranges → (Placed → Fraction) → Type 0
AreFractions standing ranges f = AllByRecursion (λ p. is_ground p.1 ≡ true → IsFractionOf (ranges p.1) (f p).numerator (f p).denominator) standing

-- with these it is a varied solution
pub varied_by : (standing : List Placed) (ranges : Ranges) (f : Placed → Fraction) (volts : ℕ → ℤ) (s : Solution) → AreFractions standing ranges f → SolvesBy standing f volts s → IsVaried standing ranges volts s
varied_by standing ranges f volts s inside h =
    let Inside : Placed → Type 0 = λ p. is_ground p.1 ≡ true → IsFractionOf (ranges p.1) (f p).numerator (f p).denominator in
    let Law : Placed → Type 0 = λ p. is_ground p.1 ≡ true → IsOhmOf (f p).numerator (f p).denominator (ground_drive_of s p) (s.current p.0) in
    record {
      denominator_above_0 = h.denominator_above_0;
      ohm = All-from_recursion (λ p. is_ground p.1 ≡ false → IsOhm volts s p) standing h.ohm;
      grounds = All-from_recursion (λ p. is_ground p.1 ≡ true → IsGroundWithin ranges s p) standing
          (weaker (λ p. Inside p × Law p) (λ p. is_ground p.1 ≡ true → IsGroundWithin ranges s p)
          (λ p have ground. within_fraction (ranges p.1) (f p).numerator (f p).denominator (ground_drive_of s p) (s.current p.0) (have.0 ground) (have.1 ground)) standing
          (both Inside Law standing inside h.grounds));
      none_if_open = h.none_if_open;
      kirchhoff = h.kirchhoff;
    }

-- an element is found at the same place
found_fractioned : (f : Placed → Fraction) (g : Placed → ℤ) (ps : List Placed) (place : ℕ) → found_at g (map (fractioned f) ps) place ≡ found_at (λ q. g (fractioned f q)) ps place
found_fractioned f g [] place = refl
found_fractioned f g (p ∷ ps) place = ap (λ z. cond (p.0 == place) (g (fractioned f p)) z) (found_fractioned f g ps place)

apart_fractioned : (f : Placed → Fraction) (ps : List Placed) → IsApart ps → IsApart (map (fractioned f) ps)
apart_fractioned f ps are_apart g =
    all_mapped (fractioned f) (λ p. found_at g (map (fractioned f) ps) p.0 ≡ g p) ps
    (weaker (λ q. found_at (λ r. g (fractioned f r)) ps q.0 ≡ g (fractioned f q)) (λ q. found_at g (map (fractioned f) ps) q.0 ≡ g (fractioned f q))
    (λ q h. found_fractioned f g ps q.0 ∙ h) ps (are_apart (λ r. g (fractioned f r))))

-- a fraction of a range that begins above 0 is above 0
above_0 : (least a b : ℕ) → 0 < least → 0 < b → least * b ≤ a → 0 < a
above_0 least a b some some_b h = let product = positive_product least b some some_b in omega arith

-- over plain numbers
nothing_from_both : (d : ℕ) (z : ℤ) → (pos 1 *ℤ z) ≤ℤ (pos d *ℤ pos 0) → (pos d *ℤ pos 0) ≤ℤ (pos 1 *ℤ z) → z ≡ pos 0
unfolding lib.IntN.one
nothing_from_both d z high low =
    let once : pos 1 *ℤ z ≡ z = *ℤ_comm (pos 1) z ∙ *ℤ-one z in
    let none = *ℤ-zero (pos d) in
    omega (arith, linear)

-- a solution for these fractions
pub record HasFractionSolution (standing : List Placed) (f : Placed → Fraction) (volts : ℕ → ℤ) : Type 0 where
  pub solution : Solution
  pub solves : SolvesBy standing f volts solution

module _ (network : Network) (stands : Item → Bool) (ranges : Ranges) (limits : IsWithinLimits network) (earthed : AreEarthed (standing_elements network stands))
    (least_inside : AreInRanges ranges (λ e. (ranges e).least) (standing_elements network stands)) where
  abbrev standing : List Placed
  standing = standing_elements network stands

  within : AllByRecursion (λ p. IsElementWithin network.nodes p.1) standing
  within = standing_within network stands limits

  quiet_none : HaveNoGroundVolts standing no_volts
  quiet_none = All-from_recursion (λ p. is_ground p.1 ≡ true → no_volts p.0 ≡ pos 0) standing (weaker (λ p. IsElementWithin network.nodes p.1) (λ p. is_ground p.1 ≡ true → no_volts p.0 ≡ pos 0) (λ p h ground. refl) standing within)

  -- no voltage gives no potential
  undriven : (s : Solution) → IsVaried standing ranges no_volts s → (k : ℕ) → IsLive standing k → s.potential k ≡ pos 0
  undriven s varies k live =
      let flat_solves = solves_flat_by network stands (λ e. (ranges e).least) 0 no_volts (weaker (λ p. IsElementWithin network.nodes p.1) (λ p. no_volts p.0 ≡ cond (is_ground p.1) (neg_ℤ (pos 0)) (pos 0)) (λ p h. sym (either (is_ground p.1))) standing within) in
      nothing_from_both s.denominator (s.potential k)
      (at_most network stands ranges (λ e. (ranges e).least) no_volts (flat 0) s k limits earthed quiet_none least_inside flat_solves
      (level (pos 0) (omega (arith, linear))) varies live)
      (at_least network stands ranges (λ e. (ranges e).least) no_volts (flat 0) s k limits earthed quiet_none least_inside flat_solves
      (level (neg_ℤ (pos 0)) (omega (arith, linear))) varies live)
    where
      level : (z : ℤ) → z ≤ℤ pos 0 → AreRaising standing ranges (λ e. (ranges e).least) (λ m. z)
      level z below = All-from_recursion (λ p. is_ground p.1 ≡ true → IsRaising (ranges p.1) (ranges p.1).least z) standing
          (weaker (λ p. IsElementWithin network.nodes p.1) (λ p. is_ground p.1 ≡ true → IsRaising (ranges p.1) (ranges p.1).least z) (λ p h ground. inr (refl, below)) standing within)

      either : (b : Bool) → cond b (neg_ℤ (pos 0)) (pos 0) ≡ pos 0
      either true = omega (arith, linear)
      either false = omega (arith, linear)

  -- so there is a solution for each list of fractions
  pub solved_by : (f : Placed → Fraction) (volts : ℕ → ℤ) → HaveNoGroundVolts standing volts → AreFractions standing ranges f → HasFractionSolution standing f volts
  solved_by f volts quiet inside = made (solution_where_undriven network.nodes (map (fractioned f) standing) ohms (apart_fractioned f standing (apart (λ p. stands p.1.item) 0 network.list))
      (λ k live. live_within network.nodes standing k within (live_here k live))
      (λ s solves k live. undriven s (varied_by standing ranges f no_volts s inside (solves_by standing f no_volts s quiet_none solves)) k (live_here k live)) volts)
    where
      live_here : (k : ℕ) → IsLive (map (fractioned f) standing) k → IsLive standing k
      live_here k live = sym (list_any-map (fractioned f) (λ p. ends_at p.1 k) standing) ∙ live

      some : (p : Placed) (b : Bool) → is_ground p.1 ≡ b → (is_ground p.1 ≡ true → 0 < (f p).numerator) → 1000 ≤ p.1.micro_ohm → 0 < cond b (f p).numerator p.1.micro_ohm
      some p true ground have least = have ground
      some p false other have least = omega arith

      ohms : AllByRecursion HasOhms (map (fractioned f) standing)
      ohms = all_mapped (fractioned f) HasOhms standing
          (weaker (λ p. IsElementWithin network.nodes p.1 × ((is_ground p.1 ≡ true → IsFractionOf (ranges p.1) (f p).numerator (f p).denominator) × (is_ground p.1 ≡ true → IsInRange (ranges p.1) (ranges p.1).least)))
          (λ p. HasOhms (fractioned f p))
          (λ p h. some p (is_ground p.1) refl (λ ground. above_0 (ranges p.1).least (f p).numerator (f p).denominator (h.1.1 ground).above_0 (h.1.0 ground).some (h.1.0 ground).at_least) h.0.least_ohm) standing
          (both (λ p. IsElementWithin network.nodes p.1) _ standing within
          (both (λ p. is_ground p.1 ≡ true → IsFractionOf (ranges p.1) (f p).numerator (f p).denominator) (λ p. is_ground p.1 ≡ true → IsInRange (ranges p.1) (ranges p.1).least) standing inside
          (recursion_from_All (λ p. is_ground p.1 ≡ true → IsInRange (ranges p.1) (ranges p.1).least) standing least_inside))))

      made : HasSolution (map (fractioned f) standing) volts → HasFractionSolution standing f volts
      made h = record { solution = h.solution; solves = solves_by standing f volts h.solution quiet h.solves }

  -- the fractions of a varied solution
  abbrev pub fractions : Solution → Placed → Fraction
  fractions s p = fraction_of (ranges p.1) (ground_drive_of s p) (s.current p.0)

  pub are_fractions : (volts : ℕ → ℤ) (s : Solution) → IsVaried standing ranges volts s →
      AllByRecursion (λ p. is_ground p.1 ≡ true → IsFraction (ranges p.1) (ground_drive_of s p) (s.current p.0) (fractions s p)) standing
  are_fractions volts s varies =
      weaker (λ p. (is_ground p.1 ≡ true → IsGroundWithin ranges s p) × (is_ground p.1 ≡ true → IsInRange (ranges p.1) (ranges p.1).least))
      (λ p. is_ground p.1 ≡ true → IsFraction (ranges p.1) (ground_drive_of s p) (s.current p.0) (fractions s p))
      (λ p h ground. is_fraction (ranges p.1) (ground_drive_of s p) (s.current p.0) (h.1 ground).at_most (h.0 ground)) standing
      (both (λ p. is_ground p.1 ≡ true → IsGroundWithin ranges s p) (λ p. is_ground p.1 ≡ true → IsInRange (ranges p.1) (ranges p.1).least) standing
      (recursion_from_All (λ p. is_ground p.1 ≡ true → IsGroundWithin ranges s p) standing varies.grounds)
      (recursion_from_All (λ p. is_ground p.1 ≡ true → IsInRange (ranges p.1) (ranges p.1).least) standing least_inside))

  pub inside_by : (volts : ℕ → ℤ) (s : Solution) → IsVaried standing ranges volts s → AreFractions standing ranges (fractions s)
  inside_by volts s varies =
      weaker (λ p. is_ground p.1 ≡ true → IsFraction (ranges p.1) (ground_drive_of s p) (s.current p.0) (fractions s p))
      (λ p. is_ground p.1 ≡ true → IsFractionOf (ranges p.1) (fractions s p).numerator (fractions s p).denominator) (λ p h ground. (h ground).inside) standing (are_fractions volts s varies)

  -- a solution for these fractions is of the varied solution's network
  pub of_one_network : (volts others : ℕ → ℤ) (one other : Solution) → IsVaried standing ranges volts one → SolvesBy standing (fractions one) others other → AreOfOneNetwork standing ranges one other
  of_one_network volts others one other varies solves =
      All-from_recursion (λ p. is_ground p.1 ≡ true → ShareResistance (ranges p.1) one other p) standing
      (weaker (λ p. Own p × Law p) (λ p. is_ground p.1 ≡ true → ShareResistance (ranges p.1) one other p)
      (λ p have ground. record {
        numerator = (fractions one p).numerator;
        denominator = (fractions one p).denominator;
        inside = (have.0 ground).inside;
        in_one = (have.0 ground).ohm;
        in_other = have.1 ground;
      }) standing (both Own Law standing (are_fractions volts one varies) solves.grounds))
    where
      Law : Placed → Type 0
      Law p = is_ground p.1 ≡ true → IsOhmOf (fractions one p).numerator (fractions one p).denominator (ground_drive_of other p) (other.current p.0)

      Own : Placed → Type 0
      Own p = is_ground p.1 ≡ true → IsFraction (ranges p.1) (ground_drive_of one p) (one.current p.0) (fractions one p)

  -- the network of a varied solution, for other voltages
  pub other_solution : (volts others : ℕ → ℤ) (one : Solution) → HaveNoGroundVolts standing others → IsVaried standing ranges volts one → HasVariedSolution standing ranges others one
  other_solution volts others one quiet varies = by (solved_by (fractions one) others quiet (inside_by volts one varies))
    where
      by : HasFractionSolution standing (fractions one) others → HasVariedSolution standing ranges others one
      by h = record {
        solution = h.solution;
        varies = varied_by standing ranges (fractions one) others h.solution (inside_by volts one varies) h.solves;
        of_one_network = of_one_network volts others one h.solution varies h.solves;
      }
