-- What the theorem says of cases that are accepted.
use Rattle.std.specs.Prelude.{◌≡◌, ℕ, List, Ok}
use Rattle.gic_case.specs.Lists.{Lists}
use Rattle.gic_case.specs.Sound.{IsSound}
use Rattle.gic_case_reader.specs.Rules.{case_of}

-- every case that breaks no rule is sound
abbrev pub AcceptedCasesAreSound : Type 0
AcceptedCasesAreSound = (bytes : List ℕ) (case : Lists) → case_of bytes ≡ Ok case → IsSound case
