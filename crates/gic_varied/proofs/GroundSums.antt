-- How much the grounds carry, all together: over the signs of the potentials Kirchhoff's law adds up to what each ground carries, either way, and to at most twice what each voltage drives.
use Rattle.std.proofs.Common.{◌≡◌, ℕ, zero, suc, ◌+◌, ◌*◌, ◌-◌, ◌<◌, ◌≤◌, Bool, true, false, List, [], ◌∷◌, ℤ, pos, negsuc, neg_ℤ, ◌+ℤ◌, ◌-ℤ◌, ◌*ℤ◌, ◌≤ℤ◌, unsigned_abs, arith, refl, ap, sym, ◌∙◌}
use lib.IntN.{*ℤ_comm, *ℤ-zero}
use borrow.Author.Differences.{same_in}
use Rattle.std.specs.Int.{int_max}
use Rattle.std.specs.List.{AllByRecursion}
use Rattle.std.proofs.lemmas.Int.{ints, clamps}
use Rattle.std.proofs.lemmas.List.Elements.{recursion_from_All}
use Rattle.gic_base.proofs.Each.{weaker}
use Rattle.gic_fixed.proofs.Integers.{linear, up-*ℤ, down-*ℤ, *ℤ-≤ℤ, ≤ℤ-from_*ℤ, nothing_from, *ℤ-+ℤ, *ℤ--ℤ, *ℤ-neg_ℤ, +ℤ-*ℤ, *ℤ_assoc, *ℤ_left_comm}
use Rattle.gic_fixed.proofs.Sums.{sum_of-same, sum_of-≤ℤ, sum_of-*ℤ, sum_of-+ℤ}
use Rattle.gic_model.specs.declared.parts.End.{End}
use Rattle.gic_model.specs.declared.parts.End.TheVariants.{Node, Earth}
use Rattle.gic_model.specs.Limits.{IsElementWithin}
use Rattle.gic_model.specs.Solution.{Solution, IsOhm, IsKirchhoff}
use Rattle.gic_model.specs.Standing.{IsLive, value_at}
use Rattle.gic_model.specs.Sums.{Placed, sum_of}
use Rattle.gic_varied.specs.Grounds.{is_ground, grounds_among, HaveNoGroundVolts}
use Rattle.gic_varied.specs.Near.{ExactSolutions, IsExactLift, IsLiftedGround, AreDrivenAtMost, heights, depths, exact_ends, micro_paths}
use Rattle.gic_varied.specs.Ranges.{Ranges, AreInRanges, IsInRange}
use Rattle.gic_varied.proofs.GroundCurrents.{factor_order}
use Rattle.gic_varied.proofs.Lowest.{falls, rises}
use Rattle.gic_varied.proofs.Regrounded.{placed_with, SolvesWith}
use Rattle.gic_varied.proofs.Tellegen.{along, if_kept, sum_of-filter, carries_nothing}
use Rattle.gic_varied.proofs.Within.{value_earth, ground_drive, own_ohm}

-- the sign of a number
abbrev sign : ℤ → ℤ
sign (pos zero) = pos 0
sign (pos (suc n)) = pos 1
sign (negsuc n) = negsuc 0

-- the signs of potentials
abbrev signs : (ℕ → ℤ) → ℕ → ℤ
signs potential k = sign (potential k)

-- at an end
value_of_signs : (potential : ℕ → ℤ) (t : End) → value_at (signs potential) t ≡ sign (value_at potential t)
value_of_signs potential (Node m) = refl
value_of_signs potential Earth = refl

-- a number times a sign
times_one : (c : ℤ) → c *ℤ pos 1 ≡ c
times_one c = same_in _ _ (simp (up-*ℤ, down-*ℤ) (omega arith))

times_minus : (c : ℤ) → c *ℤ negsuc 0 ≡ neg_ℤ c
times_minus c = let one = times_one c in let turned : c *ℤ negsuc 0 ≡ neg_ℤ (c *ℤ pos 1) = *ℤ-neg_ℤ c (pos 1) in omega (arith, linear)

-- the size of a number that is not below 0, and of one that is not above
size_up : (c : ℤ) → pos 0 ≤ℤ c → pos (unsigned_abs c) ≡ c
size_up (pos n) h = refl
size_up (negsuc n) h = absurd (omega (arith, ints))

size_down : (c : ℤ) → c ≤ℤ pos 0 → pos (unsigned_abs c) ≡ neg_ℤ c
size_down (pos n) h = omega (arith, ints)
size_down (negsuc n) h = refl

-- over plain numbers: a current by Ohm's law over a fall that is not below 0, and over one not above it, with a drive of at most r e either way
drives_up : (r w : ℕ) (c x y e : ℤ) → 0 < r → pos r *ℤ c ≡ pos w *ℤ x +ℤ y → neg_ℤ y ≤ℤ (pos r *ℤ e) → pos 0 ≤ℤ x → neg_ℤ e ≤ℤ c
drives_up r w c x y e some ohm most h =
    let times = *ℤ-≤ℤ w (pos 0) x h in
    let none = *ℤ-zero (pos w) in
    let minus = *ℤ-neg_ℤ (pos r) e in
    ≤ℤ-from_*ℤ r (neg_ℤ e) c some (omega (arith, linear))

drives_down : (r w : ℕ) (c x y e : ℤ) → 0 < r → pos r *ℤ c ≡ pos w *ℤ x +ℤ y → y ≤ℤ (pos r *ℤ e) → x ≤ℤ pos 0 → c ≤ℤ e
drives_down r w c x y e some ohm most h =
    let times = *ℤ-≤ℤ w x (pos 0) h in
    let none = *ℤ-zero (pos w) in
    ≤ℤ-from_*ℤ r c e some (omega (arith, linear))

-- times the fall of the signs it is below 0 by at most twice the drive
by_signs : (c e a b : ℤ) → pos 0 ≤ℤ e → (b ≤ℤ a → neg_ℤ e ≤ℤ c) → (a ≤ℤ b → c ≤ℤ e) → pos 0 ≤ℤ (c *ℤ (sign a -ℤ sign b) +ℤ (e +ℤ e))
by_signs c e (pos zero) (pos zero) some up down = let none = *ℤ-zero c in omega (arith, linear)
by_signs c e (pos zero) (pos (suc n)) some up down = let minus = times_minus c in let most = down (omega (arith, ints)) in omega (arith, linear)
by_signs c e (pos zero) (negsuc n) some up down = let one = times_one c in let least = up (omega (arith, ints)) in omega (arith, linear)
by_signs c e (pos (suc m)) (pos zero) some up down = let one = times_one c in let least = up (omega (arith, ints)) in omega (arith, linear)
by_signs c e (pos (suc m)) (pos (suc n)) some up down = let none = *ℤ-zero c in omega (arith, linear)
by_signs c e (pos (suc m)) (negsuc n) some up down =
    let one = times_one c in
    let two : c *ℤ pos 2 ≡ c *ℤ pos 1 +ℤ c *ℤ pos 1 = *ℤ-+ℤ c (pos 1) (pos 1) in
    let least = up (omega (arith, ints)) in
    omega (arith, linear)
by_signs c e (negsuc m) (pos zero) some up down = let minus = times_minus c in let most = down (omega (arith, ints)) in omega (arith, linear)
by_signs c e (negsuc m) (pos (suc n)) some up down =
    let minus = times_minus c in
    let two : c *ℤ negsuc 1 ≡ c *ℤ negsuc 0 +ℤ c *ℤ negsuc 0 = *ℤ-+ℤ c (negsuc 0) (negsuc 0) in
    let most = down (omega (arith, ints)) in
    omega (arith, linear)
by_signs c e (negsuc m) (negsuc n) some up down = let none = *ℤ-zero c in omega (arith, linear)

-- Ohm's law with a drive of at most r e either way
carries_by_signs : (r w : ℕ) (c a b u e : ℤ) → 0 < r → pos 0 ≤ℤ e → pos r *ℤ c ≡ pos w *ℤ (a -ℤ b +ℤ u) → (pos w *ℤ u) ≤ℤ (pos r *ℤ e) → neg_ℤ (pos w *ℤ u) ≤ℤ (pos r *ℤ e) →
    pos 0 ≤ℤ (c *ℤ (sign a -ℤ sign b) +ℤ (e +ℤ e))
carries_by_signs r w c a b u e some not_below ohm above below =
    let law = ohm ∙ *ℤ-+ℤ (pos w) (a -ℤ b) u in
    by_signs c e a b not_below (λ h. drives_up r w c (a -ℤ b) (pos w *ℤ u) e some law below (omega (arith, linear))) (λ h. drives_down r w c (a -ℤ b) (pos w *ℤ u) e some law above (omega (arith, linear)))

-- to earth
to_earth : (c s t : ℤ) → t ≡ pos 0 → c *ℤ (s -ℤ t) ≡ c *ℤ s
to_earth c s t is = let inner : s -ℤ t ≡ s = omega (arith, linear) in ap (λ z. c *ℤ z) inner

-- a current of its potential's sign is carried whole
carries_whole : (c p : ℤ) → (pos 0 ≤ℤ p → pos 0 ≤ℤ c) → (p ≤ℤ pos 0 → c ≤ℤ pos 0) → pos (unsigned_abs c) ≤ℤ (c *ℤ sign p)
carries_whole c (pos zero) up down =
    let none = *ℤ-zero c in
    let least = up (omega (arith, ints)) in
    let most = down (omega (arith, ints)) in
    let size = size_up c least in
    omega (arith, linear)
carries_whole c (pos (suc n)) up down =
    let one = times_one c in
    let size = size_up c (up (omega (arith, ints))) in
    omega (arith, linear)
carries_whole c (negsuc n) up down =
    let minus = times_minus c in
    let size = size_down c (down (omega (arith, ints))) in
    omega (arith, linear)

-- what each ground carries and each other element brings adds up, by Tellegen's theorem
sum_at_grounds : (nodes : ℕ) (standing : List Placed) (within : AllByRecursion (λ p. IsElementWithin nodes p.1) standing) (s : Solution) →
    ((k : ℕ) → IsLive standing k → IsKirchhoff standing s k) →
    (f g : Placed → ℤ) → AllByRecursion (λ p. if_kept (is_ground p.1) (f p) ≤ℤ (s.current p.0 *ℤ along (signs s.potential) p.1 +ℤ g p)) standing → sum_of f (grounds_among standing) ≤ℤ sum_of g standing
sum_at_grounds nodes standing within s kirchhoff f g each =
    let carried : Placed → ℤ = λ p. s.current p.0 *ℤ along (signs s.potential) p.1 in
    let gathered = sum_of-filter f (λ p. is_ground p.1) standing in
    let order = sum_of-≤ℤ (λ p. if_kept (is_ground p.1) (f p)) (λ p. carried p +ℤ g p) standing each in
    let split = sum_of-+ℤ carried g standing in
    let none = carries_nothing nodes standing within s.current kirchhoff (signs s.potential) in
    omega (arith, linear)

-- over plain numbers: a drive over the denominator
drive_over : (d r w n : ℕ) (u : ℤ) → (pos w *ℤ u) ≤ℤ pos (r * n) → (pos w *ℤ (pos d *ℤ u)) ≤ℤ (pos r *ℤ pos (d * n))
drive_over d r w n u h =
    let times = *ℤ-≤ℤ d (pos w *ℤ u) (pos (r * n)) h in
    let left = *ℤ_left_comm (pos w) (pos d) u in
    let right : pos d *ℤ pos (r * n) ≡ pos r *ℤ pos (d * n) = *ℤ_left_comm (pos d) (pos r) (pos n) in
    omega (arith, linear)

drive_below : (d r w n : ℕ) (u : ℤ) → neg_ℤ (pos w *ℤ u) ≤ℤ pos (r * n) → neg_ℤ (pos w *ℤ (pos d *ℤ u)) ≤ℤ (pos r *ℤ pos (d * n))
drive_below d r w n u h =
    let turned = *ℤ-neg_ℤ (pos w) u in
    let over = drive_over d r w n (neg_ℤ u) (omega (arith, linear)) in
    let inner = ap (λ z. pos w *ℤ z) (*ℤ-neg_ℤ (pos d) u) in
    let minus = *ℤ-neg_ℤ (pos w) (pos d *ℤ u) in
    omega (arith, linear)

twice_drive : (d n : ℕ) → pos (d * n) +ℤ pos (d * n) ≡ pos (2 * d) *ℤ pos n
twice_drive d n = omega (arith, ints)

module _ (nodes : ℕ) (standing : List Placed) (within : AllByRecursion (λ p. IsElementWithin nodes p.1) standing) (ranges : Ranges) (volts : ℕ → ℤ) (driven : ℕ → ℕ) (s : Solution)
    (inside : AreInRanges ranges (λ e. (ranges e).least) standing) (quiet : HaveNoGroundVolts standing volts) (solves : SolvesWith standing (λ e. (ranges e).least) volts s)
    (by_drive : AreDrivenAtMost standing volts driven) where
  -- what is known of one element
  record Known (p : Placed) : Type 0 where
    limits : IsElementWithin nodes p.1
    in_range : is_ground p.1 ≡ true → IsInRange (ranges p.1) (ranges p.1).least
    no_volt : is_ground p.1 ≡ true → volts p.0 ≡ pos 0
    by_ohm : IsOhm volts s (placed_with (λ e. (ranges e).least) p)
    above : (pos (micro_paths p) *ℤ volts p.0) ≤ℤ pos (p.1.micro_ohm * driven p.0)
    below : neg_ℤ (pos (micro_paths p) *ℤ volts p.0) ≤ℤ pos (p.1.micro_ohm * driven p.0)

  known : AllByRecursion Known standing
  known = gather standing within
      (recursion_from_All (λ p. is_ground p.1 ≡ true → IsInRange (ranges p.1) (ranges p.1).least) standing inside)
      (recursion_from_All (λ p. is_ground p.1 ≡ true → volts p.0 ≡ pos 0) standing quiet)
      solves.by_ohm
      (recursion_from_All (λ p. (pos (micro_paths p) *ℤ volts p.0) ≤ℤ pos (p.1.micro_ohm * driven p.0)) standing by_drive.above)
      (recursion_from_All (λ p. neg_ℤ (pos (micro_paths p) *ℤ volts p.0) ≤ℤ pos (p.1.micro_ohm * driven p.0)) standing by_drive.below)
    where
      gather : (ps : List Placed) → AllByRecursion (λ p. IsElementWithin nodes p.1) ps → AllByRecursion (λ p. is_ground p.1 ≡ true → IsInRange (ranges p.1) (ranges p.1).least) ps →
          AllByRecursion (λ p. is_ground p.1 ≡ true → volts p.0 ≡ pos 0) ps → AllByRecursion (λ p. IsOhm volts s (placed_with (λ e. (ranges e).least) p)) ps →
          AllByRecursion (λ p. (pos (micro_paths p) *ℤ volts p.0) ≤ℤ pos (p.1.micro_ohm * driven p.0)) ps →
          AllByRecursion (λ p. neg_ℤ (pos (micro_paths p) *ℤ volts p.0) ≤ℤ pos (p.1.micro_ohm * driven p.0)) ps → AllByRecursion Known ps
      gather [] a b c d e f = tt
      gather (p ∷ ps) a b c d e f = (
        record {
          limits = a.0;
          in_range = b.0;
          no_volt = c.0;
          by_ohm = d.0;
          above = e.0;
          below = f.0;
        },
        gather ps a.1 b.1 c.1 d.1 e.1 f.1,
      )

  -- what a ground carries, and what an element's voltage drives twice
  abbrev sizes : Placed → ℤ
  sizes p = pos (unsigned_abs (s.current p.0))

  abbrev drives : Placed → ℤ
  drives p = pos (2 * s.denominator) *ℤ pos (driven p.0)

  -- what one element carries over the signs is at least a ground's size, and for another not below minus twice its drive
  one : (p : Placed) → Known p → (b : Bool) → is_ground p.1 ≡ b → if_kept b (sizes p) ≤ℤ (s.current p.0 *ℤ along (signs s.potential) p.1 +ℤ drives p)
  one p h true ground =
      let range = h.in_range ground in
      let law = ground_drive (λ e. (ranges e).least) volts s p ground (h.no_volt ground) h.by_ohm in
      let c = s.current p.0 in
      let f = s.potential p.1.from.0 in
      let whole = carries_whole c f (λ k. rises (ranges p.1).least (micro_paths p) c f range.above_0 law k) (λ k. falls (ranges p.1).least (micro_paths p) c f range.above_0 law k) in
      let earth = to_earth c (sign f) (value_at (signs s.potential) p.1.to) (value_earth (signs s.potential) p.1.to ground) in
      let twice = twice_drive s.denominator (driven p.0) in
      omega (arith, linear)
  one p h false other =
      let law = own_ohm (λ e. (ranges e).least) volts s p other h.by_ohm in
      let most = h.limits.least_ohm in
      let c = s.current p.0 in
      let f = s.potential p.1.from.0 in
      let t = value_at s.potential p.1.to in
      let brings = carries_by_signs p.1.micro_ohm (micro_paths p) c f t (pos s.denominator *ℤ volts p.0) (pos (s.denominator * driven p.0)) (omega arith) (omega (arith, ints)) law
      (drive_over s.denominator p.1.micro_ohm (micro_paths p) (driven p.0) (volts p.0) h.above) (drive_below s.denominator p.1.micro_ohm (micro_paths p) (driven p.0) (volts p.0) h.below) in
      let there = ap (λ z. c *ℤ (sign f -ℤ z)) (value_of_signs s.potential p.1.to) in
      let twice = twice_drive s.denominator (driven p.0) in
      omega (arith, linear)

  -- all together
  carried_at_most : sum_of sizes (grounds_among standing) ≤ℤ (pos (2 * s.denominator) *ℤ sum_of (λ p. pos (driven p.0)) standing)
  carried_at_most =
      let all = sum_at_grounds nodes standing within s solves.kirchhoff sizes drives
      (weaker Known (λ p. if_kept (is_ground p.1) (sizes p) ≤ℤ (s.current p.0 *ℤ along (signs s.potential) p.1 +ℤ drives p)) (λ p h. one p h (is_ground p.1) refl) standing known) in
      let out = sum_of-*ℤ (pos (2 * s.denominator)) (λ p. pos (driven p.0)) standing in
      omega (arith, linear)

-- the grounds' currents in a solution without voltages at grounds are together at most twice what the voltages drive
pub ground_sum : (nodes : ℕ) (standing : List Placed) (within : AllByRecursion (λ p. IsElementWithin nodes p.1) standing) (ranges : Ranges) (volts : ℕ → ℤ) (driven : ℕ → ℕ) (s : Solution) →
    AreInRanges ranges (λ e. (ranges e).least) standing → HaveNoGroundVolts standing volts → SolvesWith standing (λ e. (ranges e).least) volts s → AreDrivenAtMost standing volts driven →
    sum_of (λ p. pos (unsigned_abs (s.current p.0))) (grounds_among standing) ≤ℤ (pos (2 * s.denominator) *ℤ sum_of (λ p. pos (driven p.0)) standing)
ground_sum = carried_at_most

-- numbers that bound what the grounds, at their least resistances, carry at potentials up to both exact ends
pub record AreCarried (standing : List Placed) (ranges : Ranges) (exact : ExactSolutions) (carried : Placed → ℤ) (total : ℤ) : Type 0 where
  pub low : AllByRecursion (λ p. is_ground p.1 ≡ true → (pos (micro_paths p) *ℤ pos (unsigned_abs (exact_ends exact p.1.from.0).low)) ≤ℤ (pos (ranges p.1).least *ℤ carried p)) standing
  pub high : AllByRecursion (λ p. is_ground p.1 ≡ true → (pos (micro_paths p) *ℤ pos (unsigned_abs (exact_ends exact p.1.from.0).high)) ≤ℤ (pos (ranges p.1).least *ℤ carried p)) standing
  pub sum : sum_of carried (grounds_among standing) ≤ℤ total

pub record HasCarried (standing : List Placed) (ranges : Ranges) (exact : ExactSolutions) (total : ℤ) : Type 0 where
  pub carried : Placed → ℤ
  pub are : AreCarried standing ranges exact carried total

-- over plain numbers: Ohm's law at a lifted ground, where z is the current of the height over the least resistance l
lifted_drive : (l m n w : ℕ) (c x h z : ℤ) → 0 < l → pos (l * m) *ℤ c ≡ pos w *ℤ (pos l *ℤ x -ℤ pos n *ℤ h) → pos w *ℤ h ≡ pos l *ℤ z → pos m *ℤ c ≡ pos w *ℤ x -ℤ pos n *ℤ z
lifted_drive l m n w c x h z some law drive =
    let left : pos (l * m) *ℤ c ≡ pos l *ℤ (pos m *ℤ c) = *ℤ_assoc (pos l) (pos m) c in
    let right = *ℤ--ℤ (pos w) (pos l *ℤ x) (pos n *ℤ h) in
    let first = *ℤ_left_comm (pos w) (pos l) x in
    let second = *ℤ_left_comm (pos w) (pos n) h ∙ ap (λ y. pos n *ℤ y) drive ∙ *ℤ_left_comm (pos n) (pos l) z in
    let inner = *ℤ--ℤ (pos l) (pos w *ℤ x) (pos n *ℤ z) in
    let outer = *ℤ--ℤ (pos l) (pos m *ℤ c) (pos w *ℤ x -ℤ pos n *ℤ z) in
    let none = nothing_from l (pos m *ℤ c -ℤ (pos w *ℤ x -ℤ pos n *ℤ z)) some (omega (arith, linear)) in
    omega (arith, linear)

-- its current by the sign of the lift, and z, make up for the lift at the greatest resistance m
lifted_share : (m n w : ℕ) (c x z : ℤ) → n ≤ m → pos 0 ≤ℤ z → pos m *ℤ c ≡ pos w *ℤ x -ℤ pos n *ℤ z → (pos w *ℤ pos (unsigned_abs x)) ≤ℤ (pos m *ℤ (c *ℤ sign x +ℤ z))
lifted_share m n w c (pos zero) z order above law =
    let split = *ℤ-+ℤ (pos m) (c *ℤ pos 0) z in
    let inner = ap (λ y. pos m *ℤ y) (*ℤ-zero c) in
    let none = *ℤ-zero (pos m) in
    let nothing = *ℤ-zero (pos w) in
    let times = *ℤ-≤ℤ m (pos 0) z above in
    omega (arith, linear)
lifted_share m n w c (pos (suc k)) z order above law =
    let split = *ℤ-+ℤ (pos m) (c *ℤ pos 1) z in
    let inner = ap (λ y. pos m *ℤ y) (times_one c) in
    let less = factor_order n m z order above in
    omega (arith, linear)
lifted_share m n w c (negsuc k) z order above law =
    let split = *ℤ-+ℤ (pos m) (c *ℤ negsuc 0) z in
    let inner = ap (λ y. pos m *ℤ y) (times_minus c) ∙ *ℤ-neg_ℤ (pos m) c in
    let turned : pos w *ℤ negsuc k ≡ neg_ℤ (pos w *ℤ pos (suc k)) = *ℤ-neg_ℤ (pos w) (pos (suc k)) in
    let none = *ℤ-zero (pos m) in
    let nothing = *ℤ-zero (pos n) in
    let times = *ℤ-≤ℤ m (pos 0) z above in
    let less = *ℤ-≤ℤ n (pos 0) z above in
    omega (arith, linear)

-- so it isn't below 0, and 20 times of it make up for the lift at the least resistance
share_not_below : (m w x : ℕ) (i : ℤ) → 0 < m → (pos w *ℤ pos x) ≤ℤ (pos m *ℤ i) → pos 0 ≤ℤ i
share_not_below m w x i some h =
    let times = *ℤ-≤ℤ w (pos 0) (pos x) (omega (arith, ints)) in
    let none = *ℤ-zero (pos w) in
    let nothing = *ℤ-zero (pos m) in
    ≤ℤ-from_*ℤ m (pos 0) i some (omega (arith, linear))

share_at_least : (l m : ℕ) (y i : ℤ) → m ≤ 20 * l → pos 0 ≤ℤ i → y ≤ℤ (pos m *ℤ i) → y ≤ℤ (pos l *ℤ (pos 20 *ℤ i))
share_at_least l m y i few above h =
    let more = factor_order m (20 * l) i few above in
    let turned : pos (20 * l) *ℤ i ≡ pos l *ℤ (pos 20 *ℤ i) = *ℤ_assoc (pos 20) (pos l) i ∙ *ℤ_left_comm (pos 20) (pos l) i in
    omega (arith, linear)

-- no voltage carries nothing back over the signs
carries_without_volt : (r w d : ℕ) (c a b : ℤ) → 0 < r → pos r *ℤ c ≡ pos w *ℤ (a -ℤ b +ℤ pos d *ℤ pos 0) → pos 0 ≤ℤ (c *ℤ (sign a -ℤ sign b))
carries_without_volt r w d c a b some law =
    let none = ap (λ z. pos w *ℤ z) (*ℤ-zero (pos d)) ∙ *ℤ-zero (pos w) in
    let nothing = *ℤ-zero (pos r) in
    let brings = carries_by_signs r w c a b (pos d *ℤ pos 0) (pos 0) some (omega (arith, linear)) law (omega (arith, linear)) (omega (arith, linear)) in
    omega (arith, linear)

-- what a lifted ground carries, and the current of its height
abbrev share : Solution → (Placed → ℤ) → Placed → ℤ
share lift z p = lift.current p.0 *ℤ sign (lift.potential p.1.from.0) +ℤ z p

-- it isn't below 0, and 20 times of it make up for the lift at the least resistance
record IsShare (ranges : Ranges) (lift : Solution) (z : Placed → ℤ) (p : Placed) : Type 0 where
  not_below : pos 0 ≤ℤ share lift z p
  enough : (pos (micro_paths p) *ℤ pos (unsigned_abs (lift.potential p.1.from.0))) ≤ℤ (pos (ranges p.1).least *ℤ (pos 20 *ℤ share lift z p))

module _ (nodes : ℕ) (standing : List Placed) (within : AllByRecursion (λ p. IsElementWithin nodes p.1) standing) (ranges : Ranges) (height : ℕ → ℤ) (lift : Solution) (z : Placed → ℤ)
    (inside : AreInRanges ranges (λ e. (ranges e).least) standing) (modest : AllByRecursion (λ p. is_ground p.1 ≡ true → (ranges p.1).most ≤ 20 * (ranges p.1).least) standing)
    (lifts : IsExactLift standing ranges height lift) (above : (p : Placed) → pos 0 ≤ℤ z p)
    (drive : AllByRecursion (λ p. is_ground p.1 ≡ true → pos (micro_paths p) *ℤ height p.1.from.0 ≡ pos (ranges p.1).least *ℤ z p) standing) where
  -- what is known of one element of a lift
  record IsOfLift (p : Placed) : Type 0 where
    limits : IsElementWithin nodes p.1
    in_range : is_ground p.1 ≡ true → IsInRange (ranges p.1) (ranges p.1).least
    few : is_ground p.1 ≡ true → (ranges p.1).most ≤ 20 * (ranges p.1).least
    by_ohm : is_ground p.1 ≡ false → IsOhm (λ place. pos 0) lift p
    lifted : is_ground p.1 ≡ true → IsLiftedGround ranges height lift p
    by_height : is_ground p.1 ≡ true → pos (micro_paths p) *ℤ height p.1.from.0 ≡ pos (ranges p.1).least *ℤ z p

  of_lift : AllByRecursion IsOfLift standing
  of_lift = gather standing within
      (recursion_from_All (λ p. is_ground p.1 ≡ true → IsInRange (ranges p.1) (ranges p.1).least) standing inside)
      modest
      (recursion_from_All (λ p. is_ground p.1 ≡ false → IsOhm (λ place. pos 0) lift p) standing lifts.ohm)
      (recursion_from_All (λ p. is_ground p.1 ≡ true → IsLiftedGround ranges height lift p) standing lifts.grounds)
      drive
    where
      gather : (ps : List Placed) → AllByRecursion (λ p. IsElementWithin nodes p.1) ps → AllByRecursion (λ p. is_ground p.1 ≡ true → IsInRange (ranges p.1) (ranges p.1).least) ps →
          AllByRecursion (λ p. is_ground p.1 ≡ true → (ranges p.1).most ≤ 20 * (ranges p.1).least) ps → AllByRecursion (λ p. is_ground p.1 ≡ false → IsOhm (λ place. pos 0) lift p) ps →
          AllByRecursion (λ p. is_ground p.1 ≡ true → IsLiftedGround ranges height lift p) ps →
          AllByRecursion (λ p. is_ground p.1 ≡ true → pos (micro_paths p) *ℤ height p.1.from.0 ≡ pos (ranges p.1).least *ℤ z p) ps → AllByRecursion IsOfLift ps
      gather [] a b c d e f = tt
      gather (p ∷ ps) a b c d e f = (
        record {
          limits = a.0;
          in_range = b.0;
          few = c.0;
          by_ohm = d.0;
          lifted = e.0;
          by_height = f.0;
        },
        gather ps a.1 b.1 c.1 d.1 e.1 f.1,
      )

  -- a ground's share
  share_at : (p : Placed) → IsOfLift p → is_ground p.1 ≡ true → IsShare ranges lift z p
  share_at p h ground =
      let range = h.in_range ground in
      let least = range.above_0 in
      let order = range.at_most in
      let l = (ranges p.1).least in
      let m = (ranges p.1).most in
      let c = lift.current p.0 in
      let x = lift.potential p.1.from.0 in
      let law = lifted_drive l m (m - l) (micro_paths p) c x (height p.1.from.0) (z p) least (h.lifted ground) (h.by_height ground) in
      let enough = lifted_share m (m - l) (micro_paths p) c x (z p) (omega arith) (above p) law in
      let not_below = share_not_below m (micro_paths p) (unsigned_abs x) (share lift z p) (omega arith) enough in
      record {
        not_below = not_below;
        enough = share_at_least l m (pos (micro_paths p) *ℤ pos (unsigned_abs x)) (share lift z p) (h.few ground) not_below enough;
      }

  -- so at each ground
  shares : AllByRecursion (λ p. is_ground p.1 ≡ true → IsShare ranges lift z p) standing
  shares = weaker IsOfLift (λ p. is_ground p.1 ≡ true → IsShare ranges lift z p) share_at standing of_lift

  -- what one element carries over the signs of the lift is at least its share less the current of the height
  share_carried : (p : Placed) → IsOfLift p → (b : Bool) → is_ground p.1 ≡ b → if_kept b (share lift z p) ≤ℤ (lift.current p.0 *ℤ along (signs lift.potential) p.1 +ℤ if_kept b (z p))
  share_carried p h true ground =
      let earth = to_earth (lift.current p.0) (sign (lift.potential p.1.from.0)) (value_at (signs lift.potential) p.1.to) (value_earth (signs lift.potential) p.1.to ground) in
      omega (arith, linear)
  share_carried p h false other =
      let most = h.limits.least_ohm in
      let c = lift.current p.0 in
      let f = lift.potential p.1.from.0 in
      let brings = carries_without_volt p.1.micro_ohm (micro_paths p) lift.denominator c f (value_at lift.potential p.1.to) (omega arith) (h.by_ohm other) in
      let there = ap (λ y. c *ℤ (sign f -ℤ y)) (value_of_signs lift.potential p.1.to) in
      omega (arith, linear)

  -- all together the shares are no more than the currents of the heights
  share_sum : sum_of (share lift z) (grounds_among standing) ≤ℤ sum_of z (grounds_among standing)
  share_sum =
      let all = sum_at_grounds nodes standing within lift lifts.kirchhoff (share lift z) (λ p. if_kept (is_ground p.1) (z p))
      (weaker IsOfLift (λ p. if_kept (is_ground p.1) (share lift z p) ≤ℤ (lift.current p.0 *ℤ along (signs lift.potential) p.1 +ℤ if_kept (is_ground p.1) (z p)))
      (λ p h. share_carried p h (is_ground p.1) refl) standing of_lift) in
      let gathered = sum_of-filter z (λ p. is_ground p.1) standing in
      omega (arith, linear)

-- over plain numbers: what a ground carries at the height of its potential, and its size
height_current : (l w : ℕ) (z p : ℤ) → 0 < l → pos l *ℤ z ≡ pos w *ℤ p → pos w *ℤ int_max p (pos 0) ≡ pos l *ℤ int_max z (pos 0)
height_current l w z (pos n) some ohm =
    let above = rises l w z (pos n) some ohm (omega (arith, ints)) in
    let here : int_max z (pos 0) ≡ z = omega (arith, linear, clamps) in
    let there : int_max (pos n) (pos 0) ≡ pos n = omega (arith, linear, clamps) in
    ap (λ y. pos w *ℤ y) there ∙ sym ohm ∙ sym (ap (λ y. pos l *ℤ y) here)
height_current l w z (negsuc n) some ohm =
    let below = falls l w z (negsuc n) some ohm (omega (arith, ints)) in
    let here : int_max z (pos 0) ≡ pos 0 = omega (arith, linear, clamps) in
    let there : int_max (negsuc n) (pos 0) ≡ pos 0 = omega (arith, linear, clamps) in
    ap (λ y. pos w *ℤ y) there ∙ *ℤ-zero (pos w) ∙ sym (*ℤ-zero (pos l)) ∙ sym (ap (λ y. pos l *ℤ y) here)

depth_current : (l w : ℕ) (z p : ℤ) → 0 < l → pos l *ℤ z ≡ pos w *ℤ p → pos w *ℤ int_max (neg_ℤ p) (pos 0) ≡ pos l *ℤ int_max (neg_ℤ z) (pos 0)
depth_current l w z p some ohm = height_current l w (neg_ℤ z) (neg_ℤ p) some (*ℤ-neg_ℤ (pos l) z ∙ ap neg_ℤ ohm ∙ sym (*ℤ-neg_ℤ (pos w) p))

size_current : (l w : ℕ) (z p : ℤ) → 0 < l → pos l *ℤ z ≡ pos w *ℤ p → pos w *ℤ pos (unsigned_abs p) ≡ pos l *ℤ pos (unsigned_abs z)
size_current l w z (pos n) some ohm = sym ohm ∙ sym (ap (λ y. pos l *ℤ y) (size_up z (rises l w z (pos n) some ohm (omega (arith, ints)))))
size_current l w z (negsuc n) some ohm =
    let size = ap (λ y. pos l *ℤ y) (size_down z (falls l w z (negsuc n) some ohm (omega (arith, ints)))) ∙ *ℤ-neg_ℤ (pos l) z in
    let turned : pos w *ℤ negsuc n ≡ neg_ℤ (pos w *ℤ pos (suc n)) = *ℤ-neg_ℤ (pos w) (pos (suc n)) in
    omega (arith, linear)

-- height and depth make up the size, and sizes bound those of sums and differences
size_parts : (z : ℤ) → int_max (neg_ℤ z) (pos 0) +ℤ int_max z (pos 0) ≡ pos (unsigned_abs z)
size_parts (pos n) = omega (arith, linear, clamps)
size_parts (negsuc n) = omega (arith, linear, clamps)

not_below_0 : (z : ℤ) → pos 0 ≤ℤ int_max z (pos 0)
not_below_0 z = omega (arith, linear, clamps)

size_of_sum : (a b : ℤ) → unsigned_abs (a +ℤ b) ≤ unsigned_abs a + unsigned_abs b
size_of_sum a b = omega (arith, ints)

size_of_difference : (a b : ℤ) → unsigned_abs (a -ℤ b) ≤ unsigned_abs a + unsigned_abs b
size_of_difference a b = omega (arith, ints)

-- what carries the reference's potential and the lift carries both
carries_both : (l w y p x z : ℕ) (i k : ℤ) → y ≤ p + x → pos w *ℤ pos p ≡ pos l *ℤ pos z → (pos w *ℤ pos x) ≤ℤ (pos l *ℤ (pos 20 *ℤ i)) → i ≤ℤ k →
    (pos w *ℤ pos y) ≤ℤ (pos l *ℤ (pos z +ℤ pos 20 *ℤ k))
carries_both l w y p x z i k sum first second more =
    let times : (pos w *ℤ pos y) ≤ℤ (pos w *ℤ (pos p +ℤ pos x)) = *ℤ-≤ℤ w (pos y) (pos p +ℤ pos x) (omega (arith, ints)) in
    let split = *ℤ-+ℤ (pos w) (pos p) (pos x) in
    let twenty = *ℤ-≤ℤ 20 i k more in
    let at_least = *ℤ-≤ℤ l (pos 20 *ℤ i) (pos 20 *ℤ k) twenty in
    let right = *ℤ-+ℤ (pos l) (pos z) (pos 20 *ℤ k) in
    omega (arith, linear)

-- 20 of them and one
twenty_and_one : (s : ℤ) → s +ℤ pos 20 *ℤ s ≡ pos 21 *ℤ s
twenty_and_one s =
    let split : pos 21 *ℤ s ≡ pos 1 *ℤ s +ℤ pos 20 *ℤ s = +ℤ-*ℤ (pos 1) (pos 20) s in
    let one = *ℤ_comm (pos 1) s ∙ times_one s in
    omega (arith, linear)

module _ (nodes : ℕ) (standing : List Placed) (within : AllByRecursion (λ p. IsElementWithin nodes p.1) standing) (ranges : Ranges) (volts : ℕ → ℤ) (exact : ExactSolutions)
    (inside : AreInRanges ranges (λ e. (ranges e).least) standing) (modest : AllByRecursion (λ p. is_ground p.1 ≡ true → (ranges p.1).most ≤ 20 * (ranges p.1).least) standing)
    (quiet : HaveNoGroundVolts standing volts) (solves : SolvesWith standing (λ e. (ranges e).least) volts exact.reference)
    (lowers : IsExactLift standing ranges (depths exact.reference.potential) exact.lowering) (raises : IsExactLift standing ranges (heights exact.reference.potential) exact.raising) where
  -- what the reference's grounds carry, below 0 and above, and either way
  abbrev below : Placed → ℤ
  below p = int_max (neg_ℤ (exact.reference.current p.0)) (pos 0)

  abbrev above : Placed → ℤ
  above p = int_max (exact.reference.current p.0) (pos 0)

  abbrev size : Placed → ℤ
  size p = pos (unsigned_abs (exact.reference.current p.0))

  -- Ohm's law of the reference at a ground
  record IsByOhm (p : Placed) : Type 0 where
    some : 0 < (ranges p.1).least
    ohm : pos (ranges p.1).least *ℤ exact.reference.current p.0 ≡ pos (micro_paths p) *ℤ exact.reference.potential p.1.from.0

  by_ohm : AllByRecursion (λ p. is_ground p.1 ≡ true → IsByOhm p) standing
  by_ohm = gather standing
      (recursion_from_All (λ p. is_ground p.1 ≡ true → IsInRange (ranges p.1) (ranges p.1).least) standing inside)
      (recursion_from_All (λ p. is_ground p.1 ≡ true → volts p.0 ≡ pos 0) standing quiet)
      solves.by_ohm
    where
      gather : (ps : List Placed) → AllByRecursion (λ p. is_ground p.1 ≡ true → IsInRange (ranges p.1) (ranges p.1).least) ps → AllByRecursion (λ p. is_ground p.1 ≡ true → volts p.0 ≡ pos 0) ps →
          AllByRecursion (λ p. IsOhm volts exact.reference (placed_with (λ e. (ranges e).least) p)) ps → AllByRecursion (λ p. is_ground p.1 ≡ true → IsByOhm p) ps
      gather [] a b c = tt
      gather (p ∷ ps) a b c = (
        λ ground. record {
          some = (a.0 ground).above_0;
          ohm = ground_drive (λ e. (ranges e).least) volts exact.reference p ground (b.0 ground) c.0;
        },
        gather ps a.1 b.1 c.1,
      )

  -- and of the depths and the heights of its potentials
  by_depth : AllByRecursion (λ p. is_ground p.1 ≡ true → pos (micro_paths p) *ℤ depths exact.reference.potential p.1.from.0 ≡ pos (ranges p.1).least *ℤ below p) standing
  by_depth = weaker (λ p. is_ground p.1 ≡ true → IsByOhm p) (λ p. is_ground p.1 ≡ true → pos (micro_paths p) *ℤ depths exact.reference.potential p.1.from.0 ≡ pos (ranges p.1).least *ℤ below p)
      (λ p h ground. depth_current (ranges p.1).least (micro_paths p) (exact.reference.current p.0) (exact.reference.potential p.1.from.0) (h ground).some (h ground).ohm) standing by_ohm

  by_height : AllByRecursion (λ p. is_ground p.1 ≡ true → pos (micro_paths p) *ℤ heights exact.reference.potential p.1.from.0 ≡ pos (ranges p.1).least *ℤ above p) standing
  by_height = weaker (λ p. is_ground p.1 ≡ true → IsByOhm p) (λ p. is_ground p.1 ≡ true → pos (micro_paths p) *ℤ heights exact.reference.potential p.1.from.0 ≡ pos (ranges p.1).least *ℤ above p)
      (λ p h ground. height_current (ranges p.1).least (micro_paths p) (exact.reference.current p.0) (exact.reference.potential p.1.from.0) (h ground).some (h ground).ohm) standing by_ohm

  -- the shares of both lifts
  abbrev lower : Placed → ℤ
  lower p = share exact.lowering below p

  abbrev upper : Placed → ℤ
  upper p = share exact.raising above p

  -- and what all three carry
  abbrev carried_at : Placed → ℤ
  carried_at p = size p +ℤ pos 20 *ℤ (lower p +ℤ upper p)

  -- what is known of one ground
  record IsOfBoth (p : Placed) : Type 0 where
    reference : IsByOhm p
    lowering : IsShare ranges exact.lowering below p
    raising : IsShare ranges exact.raising above p

  of_both : AllByRecursion (λ p. is_ground p.1 ≡ true → IsOfBoth p) standing
  of_both = gather standing by_ohm
      (shares nodes standing within ranges (depths exact.reference.potential) exact.lowering below inside modest lowers (λ p. not_below_0 (neg_ℤ (exact.reference.current p.0))) by_depth)
      (shares nodes standing within ranges (heights exact.reference.potential) exact.raising above inside modest raises (λ p. not_below_0 (exact.reference.current p.0)) by_height)
    where
      gather : (ps : List Placed) → AllByRecursion (λ p. is_ground p.1 ≡ true → IsByOhm p) ps → AllByRecursion (λ p. is_ground p.1 ≡ true → IsShare ranges exact.lowering below p) ps →
          AllByRecursion (λ p. is_ground p.1 ≡ true → IsShare ranges exact.raising above p) ps → AllByRecursion (λ p. is_ground p.1 ≡ true → IsOfBoth p) ps
      gather [] a b c = tt
      gather (p ∷ ps) a b c = (λ ground. record { reference = a.0 ground; lowering = b.0 ground; raising = c.0 ground }, gather ps a.1 b.1 c.1)

  -- it is enough at both exact ends
  at_low : (p : Placed) → IsOfBoth p → (pos (micro_paths p) *ℤ pos (unsigned_abs (exact_ends exact p.1.from.0).low)) ≤ℤ (pos (ranges p.1).least *ℤ carried_at p)
  at_low p h =
      let k = p.1.from.0 in
      let other = h.raising.not_below in
      carries_both (ranges p.1).least (micro_paths p) (unsigned_abs (exact_ends exact k).low) (unsigned_abs (exact.reference.potential k)) (unsigned_abs (exact.lowering.potential k))
      (unsigned_abs (exact.reference.current p.0)) (lower p) (lower p +ℤ upper p) (size_of_difference (exact.reference.potential k) (exact.lowering.potential k))
      (size_current (ranges p.1).least (micro_paths p) (exact.reference.current p.0) (exact.reference.potential k) h.reference.some h.reference.ohm) h.lowering.enough (omega (arith, linear))

  at_high : (p : Placed) → IsOfBoth p → (pos (micro_paths p) *ℤ pos (unsigned_abs (exact_ends exact p.1.from.0).high)) ≤ℤ (pos (ranges p.1).least *ℤ carried_at p)
  at_high p h =
      let k = p.1.from.0 in
      let other = h.lowering.not_below in
      carries_both (ranges p.1).least (micro_paths p) (unsigned_abs (exact_ends exact k).high) (unsigned_abs (exact.reference.potential k)) (unsigned_abs (exact.raising.potential k))
      (unsigned_abs (exact.reference.current p.0)) (upper p) (lower p +ℤ upper p) (size_of_sum (exact.reference.potential k) (exact.raising.potential k))
      (size_current (ranges p.1).least (micro_paths p) (exact.reference.current p.0) (exact.reference.potential k) h.reference.some h.reference.ohm) h.raising.enough (omega (arith, linear))

  -- depth and height make up what each ground carries
  parts_make_size : (ps : List Placed) → AllByRecursion (λ p. below p +ℤ above p ≡ size p) ps
  parts_make_size [] = tt
  parts_make_size (p ∷ ps) = (size_parts (exact.reference.current p.0), parts_make_size ps)

  -- it adds up to at most 21 times that
  carried_sum : sum_of carried_at (grounds_among standing) ≤ℤ (pos 21 *ℤ sum_of size (grounds_among standing))
  carried_sum =
      let gs = grounds_among standing in
      let split = sum_of-+ℤ size (λ p. pos 20 *ℤ (lower p +ℤ upper p)) gs in
      let out = sum_of-*ℤ (pos 20) (λ p. lower p +ℤ upper p) gs in
      let two = sum_of-+ℤ lower upper gs in
      let low = share_sum nodes standing within ranges (depths exact.reference.potential) exact.lowering below inside modest lowers (λ p. not_below_0 (neg_ℤ (exact.reference.current p.0))) by_depth in
      let high = share_sum nodes standing within ranges (heights exact.reference.potential) exact.raising above inside modest raises (λ p. not_below_0 (exact.reference.current p.0)) by_height in
      let parts = sum_of-+ℤ below above gs in
      let whole = sum_of-same (λ p. below p +ℤ above p) size gs (parts_make_size gs) in
      let times = *ℤ-≤ℤ 20 (sum_of (λ p. lower p +ℤ upper p) gs) (sum_of size gs) (omega (arith, linear)) in
      let all = twenty_and_one (sum_of size gs) in
      omega (arith, linear)

  varied_carried : HasCarried standing ranges exact (pos 21 *ℤ sum_of size (grounds_among standing))
  varied_carried = record {
    carried = carried_at;
    are = record {
      low = weaker (λ p. is_ground p.1 ≡ true → IsOfBoth p) (λ p. is_ground p.1 ≡ true → (pos (micro_paths p) *ℤ pos (unsigned_abs (exact_ends exact p.1.from.0).low)) ≤ℤ (pos (ranges p.1).least *ℤ carried_at p))
          (λ p h ground. at_low p (h ground)) standing of_both;
      high = weaker (λ p. is_ground p.1 ≡ true → IsOfBoth p) (λ p. is_ground p.1 ≡ true → (pos (micro_paths p) *ℤ pos (unsigned_abs (exact_ends exact p.1.from.0).high)) ≤ℤ (pos (ranges p.1).least *ℤ carried_at p))
          (λ p h ground. at_high p (h ground)) standing of_both;
      sum = carried_sum;
    };
  }

-- they add up to at most 21 times what the grounds of the reference carry, where no ground's greatest resistance is above 20 times its least
pub varied_sum : (nodes : ℕ) (standing : List Placed) (within : AllByRecursion (λ p. IsElementWithin nodes p.1) standing) (ranges : Ranges) (volts : ℕ → ℤ) (exact : ExactSolutions) →
    AreInRanges ranges (λ e. (ranges e).least) standing → AllByRecursion (λ p. is_ground p.1 ≡ true → (ranges p.1).most ≤ 20 * (ranges p.1).least) standing →
    HaveNoGroundVolts standing volts → SolvesWith standing (λ e. (ranges e).least) volts exact.reference →
    IsExactLift standing ranges (depths exact.reference.potential) exact.lowering → IsExactLift standing ranges (heights exact.reference.potential) exact.raising →
    HasCarried standing ranges exact (pos 21 *ℤ sum_of (λ p. pos (unsigned_abs (exact.reference.current p.0))) (grounds_among standing))
varied_sum = varied_carried
