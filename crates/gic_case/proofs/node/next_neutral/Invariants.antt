use Rattle.std.proofs.Common.{◌≡◌, length}
use Rattle.gic_case.specs.Lists.{with_device}
use Rattle.gic_case.proofs.node.next_neutral.Given as goal

-- no transformer with a device was passed
abbrev pub invariant-loop-transformer : goal.invariant-loop-transformer
invariant-loop-transformer l = with_device l.transformers ≡ with_device l.left

abbrev pub decreases-loop-transformer : goal.decreases-loop-transformer
decreases-loop-transformer l = length l.left
