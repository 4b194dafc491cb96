-- Voltages that lift, from -most to 0 at grounds alone, let no potential below 0, and none above `most`.
use Rattle.std.proofs.Common.{◌≡◌, ℕ, ◌*◌, true, false, List, [], ◌∷◌, ℤ, pos, neg_ℤ, ◌+ℤ◌, ◌-ℤ◌, ◌*ℤ◌, ◌≤ℤ◌, arith, ap, sym, ◌∙◌}
use lib.IntN.{*ℤ_comm}
use Rattle.std.specs.List.{AllByRecursion}
use Rattle.std.proofs.lemmas.List.Elements.{recursion_from_All}
use Rattle.gic_base.proofs.Each.{weaker}
use Rattle.gic_fixed.proofs.Integers.{linear, *ℤ-≤ℤ, *ℤ-neg_ℤ}
use Rattle.gic_model.specs.declared.parts.End.{End}
use Rattle.gic_model.specs.declared.parts.End.TheVariants.{Node, Earth}
use Rattle.gic_model.specs.Earthing.{is_earth, AreEarthed}
use Rattle.gic_model.specs.Limits.{IsElementWithin}
use Rattle.gic_model.specs.Solution.{Solution, IsOhm, IsSolution}
use Rattle.gic_model.specs.Standing.{IsLive, value_at, standing_elements}
use Rattle.gic_model.specs.Sums.{Placed}
use Rattle.gic_model.proofs.Ends.{standing_within, some_times}
use Rattle.gic_varied.specs.Grounds.{is_ground}
use Rattle.gic_varied.specs.Reach.{AreLiftsWithin, LiftsReachNoFurther}
use Rattle.gic_varied.proofs.GroundCurrents.{lift_below}
use Rattle.gic_varied.proofs.Lifted.{no_volt}
use Rattle.gic_varied.proofs.LiftsCompared.{IsFlow, IsBringing, none_lower, below_from}
use Rattle.gic_varied.proofs.Turned.{kirchhoff_turned}
use Rattle.gic_varied.proofs.Within.{value_earth}

-- over plain numbers: a voltage that is not below -most, over the denominator d
volt_at_most : (most d : ℕ) (u : ℤ) → neg_ℤ (pos most) ≤ℤ u → neg_ℤ (pos (most * d)) ≤ℤ (pos d *ℤ u)
volt_at_most most d u h =
    let scaled = *ℤ-≤ℤ d (neg_ℤ (pos most)) u h in
    let turned = *ℤ-neg_ℤ (pos d) (pos most) in
    let product : pos d *ℤ pos most ≡ pos (most * d) = *ℤ_comm (pos d) (pos most) in
    omega (arith, linear)

-- the fall of what is left up to a height s, towards a node
left_fall : (s : ℤ) (f : ℕ → ℤ) (i : ℕ) (t : End) → is_earth t ≡ false → (s -ℤ f i) -ℤ value_at (λ m. s -ℤ f m) t ≡ neg_ℤ (f i -ℤ value_at f t)
left_fall s f i (Node m) h = omega (arith, linear)
left_fall s f i Earth h = absurd (no_way h)
  where
    no_way : true ≡ false → ⊥
    no_way q = cc

module _ (nodes : ℕ) (standing : List Placed) (within : AllByRecursion (λ p. IsElementWithin nodes p.1) standing) (earthed : AreEarthed standing)
    (most : ℕ) (lifts : ℕ → ℤ) (lift : Solution) (are : AreLiftsWithin standing most lifts) (solves : IsSolution standing lifts lift) where
  -- what is known of one element
  record Known (p : Placed) : Type 0 where
    within_limits : IsElementWithin nodes p.1
    no_lift : is_ground p.1 ≡ false → lifts p.0 ≡ pos 0
    not_above_0 : lifts p.0 ≤ℤ pos 0
    not_below : neg_ℤ (pos most) ≤ℤ lifts p.0
    by_ohm : IsOhm lifts lift p

  known : AllByRecursion Known standing
  known = gather standing within
      (recursion_from_All (λ p. is_ground p.1 ≡ false → lifts p.0 ≡ pos 0) standing are.elsewhere)
      (recursion_from_All (λ p. lifts p.0 ≤ℤ pos 0) standing are.not_above_0)
      (recursion_from_All (λ p. neg_ℤ (pos most) ≤ℤ lifts p.0) standing are.not_below)
      (recursion_from_All (IsOhm lifts lift) standing solves.ohm)
    where
      gather : (ps : List Placed) → AllByRecursion (λ p. IsElementWithin nodes p.1) ps → AllByRecursion (λ p. is_ground p.1 ≡ false → lifts p.0 ≡ pos 0) ps →
          AllByRecursion (λ p. lifts p.0 ≤ℤ pos 0) ps → AllByRecursion (λ p. neg_ℤ (pos most) ≤ℤ lifts p.0) ps → AllByRecursion (IsOhm lifts lift) ps → AllByRecursion Known ps
      gather [] a b c d e = tt
      gather (p ∷ ps) a b c d e = (record { within_limits = a.0; no_lift = b.0; not_above_0 = c.0; not_below = d.0; by_ohm = e.0 }, gather ps a.1 b.1 c.1 d.1 e.1)

  -- Ohm's law at a ground, and at any other element
  at_ground : (p : Placed) → IsOhm lifts lift p → is_ground p.1 ≡ true →
      pos p.1.micro_ohm *ℤ lift.current p.0 ≡ pos (p.1.times * 1000000) *ℤ (lift.potential p.1.from.0 +ℤ pos lift.denominator *ℤ lifts p.0)
  at_ground p h ground =
      let at_earth = value_earth lift.potential p.1.to ground in
      let inner : lift.potential p.1.from.0 -ℤ value_at lift.potential p.1.to +ℤ pos lift.denominator *ℤ lifts p.0 ≡ lift.potential p.1.from.0 +ℤ pos lift.denominator *ℤ lifts p.0 = omega (arith, linear) in
      h ∙ ap (λ z. pos (p.1.times * 1000000) *ℤ z) inner

  elsewhere : (p : Placed) → Known p → is_ground p.1 ≡ false → pos p.1.micro_ohm *ℤ lift.current p.0 ≡ pos (p.1.times * 1000000) *ℤ (lift.potential p.1.from.0 -ℤ value_at lift.potential p.1.to)
  elsewhere p h other =
      no_volt (pos (p.1.times * 1000000)) (lift.potential p.1.from.0) (value_at lift.potential p.1.to) (pos lift.denominator) (lifts p.0) (pos p.1.micro_ohm) (lift.current p.0) (h.no_lift other) h.by_ohm

  -- no potential is below 0
  pub not_lowered : (k : ℕ) → IsLive standing k → pos 0 ≤ℤ lift.potential k
  not_lowered = none_lower nodes standing within earthed lift.potential lift.current solves.kirchhoff
      (weaker Known (λ p. IsFlow lift.potential lift.current p × IsBringing lift.potential lift.current p) (λ p h. (elsewhere p h, brings p h)) standing known)
    where
      brings : (p : Placed) → Known p → IsBringing lift.potential lift.current p
      brings p h ground below =
          let limits = h.within_limits in
          let some = some_times nodes p limits in
          let least = limits.least_ohm in
          lift_below p.1.micro_ohm (p.1.times * 1000000) lift.denominator (lift.current p.0) (lift.potential p.1.from.0) (lifts p.0) (omega arith) (omega arith)
          (at_ground p h.by_ohm ground) h.not_above_0 below

  -- what is left up to the greatest lift
  abbrev left : ℕ → ℤ
  left m = pos (most * lift.denominator) -ℤ lift.potential m

  abbrev back : ℕ → ℤ
  back place = neg_ℤ (lift.current place)

  -- it is not below 0 either
  nothing_over : (k : ℕ) → IsLive standing k → pos 0 ≤ℤ left k
  nothing_over = none_lower nodes standing within earthed left back (kirchhoff_turned standing lift solves.kirchhoff)
      (weaker Known (λ p. IsFlow left back p × IsBringing left back p) (λ p h. (flows p h, brings p h)) standing known)
    where
      flows : (p : Placed) → Known p → IsFlow left back p
      flows p h other =
          let w = pos (p.1.times * 1000000) in
          let fall = lift.potential p.1.from.0 -ℤ value_at lift.potential p.1.to in
          *ℤ-neg_ℤ (pos p.1.micro_ohm) (lift.current p.0) ∙ ap neg_ℤ (elsewhere p h other) ∙
          sym (ap (λ z. w *ℤ z) (left_fall (pos (most * lift.denominator)) lift.potential p.1.from.0 p.1.to other) ∙ *ℤ-neg_ℤ w fall)

      brings : (p : Placed) → Known p → IsBringing left back p
      brings p h ground below =
          let limits = h.within_limits in
          let some = some_times nodes p limits in
          let w = pos (p.1.times * 1000000) in
          let drive = lift.potential p.1.from.0 +ℤ pos lift.denominator *ℤ lifts p.0 in
          let volt = volt_at_most most lift.denominator (lifts p.0) h.not_below in
          below_from p.1.micro_ohm (p.1.times * 1000000) (back p.0) (neg_ℤ drive) (omega arith)
          (*ℤ-neg_ℤ (pos p.1.micro_ohm) (lift.current p.0) ∙ ap neg_ℤ (at_ground p h.by_ohm ground) ∙ sym (*ℤ-neg_ℤ w drive)) (omega (arith, linear))

  pub lifted_between : (k : ℕ) → IsLive standing k → (pos 0 ≤ℤ lift.potential k) × (lift.potential k ≤ℤ pos (most * lift.denominator))
  lifted_between k live = let rest = nothing_over k live in (not_lowered k live, omega (arith, linear))

pub lifts_reach : LiftsReachNoFurther
lifts_reach network stands most lifts lift k limits earthed are solves live =
    lifted_between network.nodes (standing_elements network stands) (standing_within network stands limits) earthed most lifts lift are solves k live
