-- That the text of the mode determines what it shows.
use Rattle.std.specs.Prelude.{◌≡◌, ◌<◌, ◌^◌, Bool, List, length}
use Rattle.gic_case.specs.Lists.{Lists, node_names}
use Rattle.gic_text.specs.Lines.{lines_text}
use Rattle.gic_report.specs.Fits.{HasNames}
use Rattle.gic_check.specs.CheckText.{live_count, check_report}

-- what can be told of the nodes of a case: of each one, whether it is live, and the number of live ones is one of 64 bits
pub record AreStatesOf (case : Lists) (live : List Bool) : Type 0 where
  pub count : length live ≡ length (node_names case)
  pub few : live_count live < 2 ^ 64

-- equal texts on one case tell the same nodes live
abbrev pub TextDeterminesLive : Type 0
TextDeterminesLive = (case : Lists) → HasNames case → (live other : List Bool) → AreStatesOf case live → AreStatesOf case other →
    lines_text (check_report case live) ≡ lines_text (check_report case other) → live ≡ other
