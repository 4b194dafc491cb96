-- That a network has a solution, and that two solutions agree.
use Rattle.std.specs.Prelude.{ℕ, ◌≡◌, Bool, not, List, ℤ, pos, ◌*ℤ◌}
use Rattle.std.specs.List.{list_any}
use Rattle.gic_model.specs.declared.parts.Item.{Item}
use Rattle.gic_model.specs.Network.{Network}
use Rattle.gic_model.specs.Limits.{IsWithinLimits}
use Rattle.gic_model.specs.Standing.{is_item, IsLive, standing_elements}
use Rattle.gic_model.specs.Solution.{Solution, IsSolution}
use Rattle.gic_model.specs.Earthing.{AreEarthed}
use Rattle.gic_model.specs.Sums.{Placed}

-- the elements that stand where these items are open
abbrev pub standing_without : Network → List Item → List Placed
standing_without network opened = standing_elements network (λ item. not (list_any (is_item item) opened))

-- the network of these standing elements has a solution
pub record HasSolution (standing : List Placed) (volts : ℕ → ℤ) : Type 0 where
  pub solution : Solution
  pub solves : IsSolution standing volts solution

-- the two give the same potential at each live node and the same current of each element
pub record Agree (standing : List Placed) (one other : Solution) : Type 0 where
  pub potentials : (k : ℕ) → IsLive standing k → one.potential k *ℤ pos other.denominator ≡ other.potential k *ℤ pos one.denominator
  pub currents : (place : ℕ) → one.current place *ℤ pos other.denominator ≡ other.current place *ℤ pos one.denominator

-- any two solutions of the network of these standing elements agree
abbrev pub AnyTwoAgree : List Placed → (ℕ → ℤ) → Type 0
AnyTwoAgree standing volts = (one other : Solution) → IsSolution standing volts one → IsSolution standing volts other → Agree standing one other

-- these numbers are a solution of the network of these standing elements, and every solution agrees with them
pub record IsTheSolution (standing : List Placed) (volts : ℕ → ℤ) (s : Solution) : Type 0 where
  pub solves : IsSolution standing volts s
  pub agrees : (other : Solution) → IsSolution standing volts other → Agree standing other s

-- whichever elements stand: where each live node is earthed, a solution exists for any voltages
abbrev pub EarthedNetworksAreSolved : Type 0
EarthedNetworksAreSolved = (network : Network) (stands : Item → Bool) (volts : ℕ → ℤ) →
    let standing = standing_elements network stands in
    IsWithinLimits network → AreEarthed standing → HasSolution standing volts

-- and any two solutions agree
abbrev pub SolutionsAgree : Type 0
SolutionsAgree = (network : Network) (stands : Item → Bool) (volts : ℕ → ℤ) →
    let standing = standing_elements network stands in
    IsWithinLimits network → AreEarthed standing → AnyTwoAgree standing volts
