-- The networks worked by hand: they are within the limits, each node leads to earth, and the numbers of the hand solve them.
use Rattle.std.proofs.Common.{[], ◌∷◌, ◌≡◌, ℕ, zero, suc, ◌<◌, List, not, ℤ, pos, ◌*ℤ◌, rules, arith, refl, sym, subst, ⊎_elim}
use Rattle.std.specs.List.{list_any}
use Rattle.gic_model.specs.declared.parts.Item.{Item}
use Rattle.gic_model.specs.declared.parts.Item.TheVariants.{Ground}
use Rattle.gic_model.specs.Network.{Network}
use Rattle.gic_model.specs.Limits.{IsWithinLimits}
use Rattle.gic_model.specs.Standing.{is_item}
use Rattle.gic_model.specs.Earthing.{IsEarthed, AreEarthed}
use Rattle.gic_model.specs.Solution.{Solution, IsSolution}
use Rattle.gic_model.specs.WorkedLoop.{loop, loop_volts, loop_solution}
use Rattle.gic_model.proofs.Ends.{standing_within, live_within}
use Rattle.gic_model.proofs.Ratios.{last_or_below}
use Rattle.gic_exists.specs.Exists.{standing_without, IsTheSolution}
use Rattle.gic_exists.specs.Worked.{one_ground_solution, no_volts, level_solution, neutral_loop, neutral_solution}
use Rattle.gic_exists.proofs.InNetworks.{agree_in}

-- the fact at each place below n, from the last one on
abbrev pub AllBelow : (ℕ → Type 0) → ℕ → Type 0
AllBelow P zero = Unit {0}
AllBelow P (suc n) = P n × AllBelow P n

at_below : (P : ℕ → Type 0) (n : ℕ) → AllBelow P n → (k : ℕ) → k < n → P k
at_below P zero h k below = absurd (omega arith)
at_below P (suc n) h k below = ⊎_elim (λ is. subst P (sym is) h.0) (λ less. at_below P n h.1 k less) (last_or_below n k below)

-- what holds at each node holds at each live one
pub all_earthed : (network : Network) (opened : List Item) → IsWithinLimits network → AllBelow (IsEarthed (standing_without network opened)) network.nodes → AreEarthed (standing_without network opened)
all_earthed network opened limits each k live =
    at_below (IsEarthed (standing_without network opened)) network.nodes each k
    (live_within network.nodes (standing_without network opened) k (standing_within network (λ item. not (list_any (is_item item) opened)) limits) live)

-- a solution is the one that each agrees with
pub the_solution : (network : Network) (opened : List Item) (volts : ℕ → ℤ) (s : Solution) → IsWithinLimits network → AreEarthed (standing_without network opened) →
    IsSolution (standing_without network opened) volts s → IsTheSolution (standing_without network opened) volts s
the_solution network opened volts s limits earthed solves = record {
  solves = solves;
  agrees = λ other also. agree_in network (λ item. not (list_any (is_item item) opened)) volts limits earthed other s also solves;
}

pub loop_limits : IsWithinLimits loop
loop_limits = search rules

pub neutral_limits : IsWithinLimits neutral_loop
neutral_limits = search rules

pub loop_solved : IsSolution (standing_without loop []) loop_volts loop_solution
loop_solved = search rules

pub one_ground_solved : IsSolution (standing_without loop (Ground 0 ∷ [])) loop_volts one_ground_solution
one_ground_solved = search rules

pub neutral_solved : IsSolution (standing_without neutral_loop []) loop_volts neutral_solution
neutral_solved = search rules

pub loop_earthed : AreEarthed (standing_without loop [])
loop_earthed = all_earthed loop [] loop_limits (
  record { live = refl; over = 1 ∷ []; chain = (refl, refl) },
  (
    record { live = refl; over = 0 ∷ []; chain = (refl, refl) },
    (
      record { live = refl; over = []; chain = refl },
      (record { live = refl; over = []; chain = refl }, tt),
    ),
  ),
)

pub one_ground_earthed : AreEarthed (standing_without loop (Ground 0 ∷ []))
one_ground_earthed = all_earthed loop (Ground 0 ∷ []) loop_limits (
  record { live = refl; over = 1 ∷ []; chain = (refl, refl) },
  (
    record { live = refl; over = 3 ∷ 1 ∷ []; chain = (refl, (refl, refl)) },
    (
      record { live = refl; over = []; chain = refl },
      (record { live = refl; over = 2 ∷ 3 ∷ 1 ∷ []; chain = (refl, (refl, (refl, refl))) }, tt),
    ),
  ),
)

pub neutral_earthed : AreEarthed (standing_without neutral_loop [])
neutral_earthed = all_earthed neutral_loop [] neutral_limits (
  record { live = refl; over = 0 ∷ []; chain = (refl, refl) },
  (
    record { live = refl; over = 1 ∷ []; chain = (refl, refl) },
    (
      record { live = refl; over = 4 ∷ 0 ∷ []; chain = (refl, (refl, refl)) },
      (
        record { live = refl; over = []; chain = refl },
        (record { live = refl; over = []; chain = refl }, tt),
      ),
    ),
  ),
)

-- any level solves the loop without grounds, so its solutions do not agree
pub level_solved : (z : ℤ) → IsSolution (standing_without loop (Ground 0 ∷ Ground 1 ∷ [])) no_volts (level_solution z)
level_solved z = search rules

pub no_ground_not_earthed : AreEarthed (standing_without loop (Ground 0 ∷ Ground 1 ∷ [])) → ⊥
no_ground_not_earthed earthed =
    differ ((agree_in loop (λ item. not (list_any (is_item item) (Ground 0 ∷ Ground 1 ∷ []))) no_volts loop_limits earthed (level_solution (pos 0)) (level_solution (pos 1)) (level_solved (pos 0)) (level_solved (pos 1))).potentials 0 refl)
  where
    differ : pos 0 *ℤ pos 1 ≡ pos 1 *ℤ pos 1 → ⊥
    differ same = cc
