use Rattle.std.proofs.Common.{All, take}
use Rattle.gic_superpose.specs.Compact.{IsCompact}
use Rattle.gic_superpose.proofs.rows.are_compact.Given as goal

abbrev pub invariant-loop-pair : goal.invariant-loop-pair
invariant-loop-pair l = All (IsCompact l.zones) (take l.pair-index l.pairs)
