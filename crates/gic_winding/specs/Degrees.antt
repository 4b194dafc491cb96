-- What the theorems say of the elements of sound cases: how many end at a node, and that they are within the limits.
use Rattle.std.specs.Prelude.{◌≡◌, ℕ, count_by}
use Rattle.gic_case.specs.Lists.{Lists, element_ends, degree_of}
use Rattle.gic_case.specs.Sound.{IsSound}
use Rattle.gic_model.specs.Network.{ends_at}
use Rattle.gic_model.specs.Limits.{IsWithinLimits}
use Rattle.gic_winding.specs.ElementList.{elements_of}

-- in every sound case as many elements end at a node as the rule of degrees counts there
abbrev pub DegreesCountElements : Type 0
DegreesCountElements = (case : Lists) (node : ℕ) → IsSound case → count_by (λ e. ends_at e node) (elements_of case).list ≡ degree_of (element_ends case) node

-- the elements of every sound case are within the limits
abbrev pub ElementsAreWithinLimits : Type 0
ElementsAreWithinLimits = (case : Lists) → IsSound case → IsWithinLimits (elements_of case)
