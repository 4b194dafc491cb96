-- Intervals in grains, rounded outward to units.
use Rattle.std.proofs.Common.{◌≡◌, ℕ, ◌^◌, ◌*◌, ◌<◌, List, [], ◌∷◌, zero, suc, map, ℤ, pos, slice_index_or, arith, refl, ap₂, sym, subst}
use Rattle.gic_effective.proofs.Weighings.{ends_by}
use Rattle.gic_enclose.specs.Certain.{AreCertain}
use Rattle.gic_enclose.specs.Ends.{potential_ends}
use Rattle.gic_fixed.specs.Encloses.{Encloses}
use Rattle.gic_fixed.specs.Ends.{Ends, zero_ends}
use Rattle.gic_fixed.specs.Rounding.{floor_div, ceil_div}
use Rattle.gic_fixed.proofs.Divisions.{floor_is, ceil_is}
use Rattle.gic_fixed.proofs.Integers.{linear}
use Rattle.gic_model.specs.Sums.{Placed}
use Rattle.gic_varied.specs.Certified.{HoldPotentials, GrainsHoldInUnits, in_units}

-- what is made of each item of a list, past its end too
at_map : {X Y : Type 0} (f : X → Y) (d : X) (e : Y) (xs : List X) (k : ℕ) → f d ≡ e →
    slice_index_or (map f xs) k e ≡ f (slice_index_or xs k d)
at_map f d e [] k is = sym is
at_map f d e (x ∷ xs) zero is = refl
at_map f d e (x ∷ xs) (suc k) is = at_map f d e xs k is

-- the point 0 is 0 in units
zero_in_units : (unit : ℕ) → 0 < unit → in_units unit zero_ends ≡ zero_ends
zero_in_units unit some =
    let over : 0 < 2 ^ 36 * unit = omega (arith, some) in
    let low : floor_div (pos 0) (pos (2 ^ 36 * unit)) ≡ pos 0 = floor_is (pos 0) (2 ^ 36 * unit) (pos 0) over (omega (arith, linear))
    (omega (arith, linear)) in
    let high : ceil_div (pos 0) (pos (2 ^ 36 * unit)) ≡ pos 0 = ceil_is (pos 0) (2 ^ 36 * unit) (pos 0) over (omega (arith, linear))
    (omega (arith, linear)) in
    ap₂ ends_by low high

-- the interval at each node is that in grains, rounded outward
pub rounded_at : (unit : ℕ) (grains ends : List Ends) → 0 < unit → ends ≡ map (in_units unit) grains → (k : ℕ) →
    potential_ends ends k ≡ in_units unit (potential_ends grains k)
rounded_at unit grains ends some is k =
    subst (λ (es : List Ends). potential_ends es k ≡ in_units unit (potential_ends grains k)) (sym is)
    (at_map (in_units unit) zero_ends zero_ends grains k (zero_in_units unit some))

-- certain intervals hold potentials in units
pub held_in_units : GrainsHoldInUnits → (standing : List Placed) (volts : ℕ → ℤ) (unit : ℕ) (grains : List Ends) (ends : ℕ → Ends) →
    0 < unit →
    AreCertain standing volts grains → ((k : ℕ) → ends k ≡ in_units unit (potential_ends grains k)) →
    HoldPotentials standing volts unit ends
held_in_units law standing volts unit grains ends some certain rounded s solves k live =
    subst (λ (e : Ends). Encloses e.low e.high (s.potential k) (unit * s.denominator)) (sym (rounded k))
    (law standing volts unit (potential_ends grains) some (λ other is m alive. (certain m).live alive other is) s solves k live)
