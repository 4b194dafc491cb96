-- What every list of switchings keeps.
use Rattle.std.specs.Prelude.{◌≤◌, List, length}
use Rattle.std.specs.List.Sorted.{IsNonDecreasingBy}
use Rattle.gic_base.specs.declared.limits.TheConstants.{MOST_SWITCHINGS}
use Rattle.gic_model.specs.declared.parts.Switching.{Switching}

-- at most `MOST_SWITCHINGS` rows, whose times do not fall
pub record AreSwitchings (rows : List Switching) : Type 0 where
  pub few : length rows ≤ MOST_SWITCHINGS
  pub ordered : IsNonDecreasingBy (λ s. s.time) rows
