-- Intervals that are cut to what they share with those at corners.
use Rattle.std.proofs.Common.{◌≡◌, ℕ, Bool, true, false, List, ℤ, pos, ◌*ℤ◌, ◌≤ℤ◌, arith, refl, ap, sym, subst, inl, inr, ⊎_elim}
use Rattle.std.specs.Prelude.{int_le, cond}
use Rattle.std.specs.Int.{int_min, int_max}
use Rattle.std.proofs.lemmas.Int.{ints, clamps, by_lt_z}
use Rattle.gic_effective.specs.RightView.{HasNoEffect}
use Rattle.gic_effective.specs.Weighted.{effective_numerator, effective_denominator}
use Rattle.gic_fixed.specs.Encloses.{Encloses}
use Rattle.gic_fixed.specs.Ends.{Ends}
use Rattle.gic_varied.specs.Corners.{Corner}
use Rattle.gic_grounds.specs.declared.direction.Direction.{Direction}
use Rattle.gic_grounds.specs.declared.direction.Direction.TheVariants.{North, East}
use Rattle.gic_grounds.specs.declared.workspace.VariedWorkspace.{VariedWorkspace}
use Rattle.gic_grounds.specs.Tolerated.{Tolerated, own_in}
use Rattle.gic_grounds.specs.Varied.{reference_to}
use Rattle.gic_grounds.specs.VariedCurrent.{IsInside, common, IsOfReference, IsCutAtCorner, IsCutAtCorners, IsVariedCurrent}

-- an interval is inside itself, and inside what one is inside of
pub inside_itself : (ends : Ends) → IsInside ends ends
inside_itself ends = record { from = omega (arith, ints); to = omega (arith, ints) }

pub inside_through : (all between ends : Ends) → IsInside all between → IsInside between ends → IsInside all ends
inside_through all between ends outer inner =
    let low = outer.from in
    let lower = inner.from in
    let high = outer.to in
    let higher = inner.to in
    record { from = omega (arith, ints); to = omega (arith, ints) }

-- what is so of both choices is so of the one that is chosen
of_chosen : (P : Ends → Type 0) (shares : Bool) (shared one : Ends) → P shared → P one → P (cond shares shared one)
of_chosen P true shared one of_shared of_one = of_shared
of_chosen P false shared one of_shared of_one = of_one

-- and so it is of the greater and of the lesser of two numbers
of_greater : (P : ℤ → Type 0) (one other : ℤ) → P one → P other → P (int_max one other)
of_greater P one other of_one of_other =
    by_lt_z one other
    (λ under. let is : int_max one other ≡ other = omega (arith, ints, clamps) in subst P (sym is) of_other)
    (λ over. let is : int_max one other ≡ one = omega (arith, ints, clamps) in subst P (sym is) of_one)

of_lesser : (P : ℤ → Type 0) (one other : ℤ) → P one → P other → P (int_min one other)
of_lesser P one other of_one of_other =
    by_lt_z one other
    (λ under. let is : int_min one other ≡ one = omega (arith, ints, clamps) in subst P (sym is) of_one)
    (λ over. let is : int_min one other ≡ other = omega (arith, ints, clamps) in subst P (sym is) of_other)

-- what two intervals share ends nowhere beyond the first
pub common_inside : (one other : Ends) → IsInside one (common one other)
common_inside one other =
    let shared : Ends = record { low = int_max one.low other.low; high = int_min one.high other.high } in
    of_chosen (IsInside one) (int_le shared.low shared.high) shared one
    (record { from = omega (arith, ints, clamps); to = omega (arith, ints, clamps) }) (inside_itself one)

-- and it holds what both hold
pub common_encloses : (one other : Ends) (number : ℤ) (over : ℕ) → Encloses one.low one.high number over → Encloses other.low other.high number over →
    Encloses (common one other).low (common one other).high number over
common_encloses one other number over in_one in_other =
    let shared : Ends = record { low = int_max one.low other.low; high = int_min one.high other.high } in
    of_chosen (λ e. Encloses e.low e.high number over) (int_le shared.low shared.high) shared one
    (record {
      above_lo = of_greater (λ low. (low *ℤ pos over) ≤ℤ number) one.low other.low in_one.above_lo in_other.above_lo;
      below_hi = of_lesser (λ high. number ≤ℤ (high *ℤ pos over)) one.high other.high in_one.below_hi in_other.below_hi;
    }) in_one

-- what is told of the two ends, where they share something and where they don't
pub shared_told : (one other : Ends) (low high : ℤ) (told : ℤ × (ℤ × Unit {0})) → told ≡ (low, (high, tt)) →
    low ≡ int_max one.low other.low → high ≡ int_min one.high other.high → int_le low high ≡ true →
    record { low = told.0; high = told.1.0 } ≡ common one other
shared_told one other low high told is lower upper shares =
    rw (is, sym lower, sym upper, shares) refl

pub first_told : (one other : Ends) (low high : ℤ) (told : ℤ × (ℤ × Unit {0})) → told ≡ (one.low, (one.high, tt)) →
    low ≡ int_max one.low other.low → high ≡ int_min one.high other.high → int_le low high ≡ false →
    record { low = told.0; high = told.1.0 } ≡ common one other
first_told one other low high told is lower upper apart =
    rw (is, sym lower, sym upper, apart) refl

-- what lies within an interval that is made of a reference lies within the same enclosure
narrower : (v : Tolerated) (corner : Corner) (volts : ℕ → ℤ) (unit : ℕ) (reference : List Ends) (t : ℕ) (before after : Ends) →
    IsInside before after → IsOfReference v corner volts unit reference t before → IsOfReference v corner volts unit reference t after
narrower v corner volts unit reference t before after inner made = record {
  given = made.given;
  intervals = made.intervals;
  in_field = made.in_field;
  by_weights = made.by_weights;
  certified = made.certified;
  of_reference = made.of_reference;
  tight_adjoint = made.tight_adjoint;
  tight_lowering = made.tight_lowering;
  tight_raising = made.tight_raising;
  tight_own = made.tight_own;
  inside = inside_through _ before after made.inside inner;
}

-- a current that is cut at a corner is one still
pub cut_keeps : (v : Tolerated) (corner : Corner) (volts : ℕ → ℤ) (unit : ℕ) (reference : List Ends) (t : ℕ) (before after : Ends) →
    (HasNoEffect v.case (own_in v) t → ⊥) → IsCutAtCorner v corner volts t before after →
    IsVariedCurrent v volts unit reference t before → IsVariedCurrent v volts unit reference t after
cut_keeps v corner volts unit reference t before after effect cut current = record {
  holds = λ s varies. subst (λ (e : Ends). Encloses e.low e.high (effective_numerator v.case s t) (effective_denominator v.case t s)) (sym cut.is)
      (common_encloses before cut.other (effective_numerator v.case s t) (effective_denominator v.case t s)
      (current.holds s varies) (cut.at_corner.holds s varies));
  zeroed = λ none. absurd (effect none);
  pinned = ⊎_elim (λ none. inl none)
      (λ made. inr (narrower _ _ volts unit reference t before after
      (subst (IsInside before) (sym cut.is) (common_inside before cut.other)) made)) current.pinned;
}

-- so is one that is cut at both corners, whatever named them
pub cuts_keep : (v : Tolerated) (adjoint signs : List Ends) (volts : ℕ → ℤ) (unit : ℕ) (reference : List Ends) (t : ℕ) (before after : Ends) →
    (HasNoEffect v.case (own_in v) t → ⊥) → IsCutAtCorners v adjoint signs volts t before after →
    IsVariedCurrent v volts unit reference t before → IsVariedCurrent v volts unit reference t after
cuts_keep v adjoint signs volts unit reference t before after effect cuts current =
    cut_keeps v cuts.least volts unit reference t cuts.between after effect cuts.second_cut
    (cut_keeps v cuts.greatest volts unit reference t before cuts.between effect cuts.first_cut current)

-- the references are those that there were, where no more has changed than a cut at a corner changes
pub kept_reference : (direction : Direction) (before now : VariedWorkspace) →
    now ≡ record before { solving = now.solving; volts = now.volts; at_corner = now.at_corner } →
    reference_to direction now ≡ reference_to direction before
kept_reference North before now rest = ap (λ (w : VariedWorkspace). w.north.potentials.reference) rest
kept_reference East before now rest = ap (λ (w : VariedWorkspace). w.east.potentials.reference) rest
