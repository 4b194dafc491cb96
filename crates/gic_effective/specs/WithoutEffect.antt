-- What the theorem says of units of a kind without effect.
use Rattle.std.specs.Prelude.{◌≡◌, ℕ, ◌<◌, List, length, false}
use Rattle.gic_case.specs.Lists.{Lists, has_effect}
use Rattle.gic_model.specs.Sums.{Placed}
use Rattle.gic_winding.specs.Weights.{transformer_at}
use Rattle.gic_effective.specs.RightView.{HasNoEffect}

-- the core of a unit of a kind without effect has no effective current here: none of its windings has a weight, so in every right view its interval is 0 alone
abbrev pub UnitsWithoutEffectShowZero : Type 0
UnitsWithoutEffectShowZero = (case : Lists) (standing : List Placed) (t : ℕ) → t < length case.transformers → has_effect (transformer_at case t).kind ≡ false → HasNoEffect case standing t
