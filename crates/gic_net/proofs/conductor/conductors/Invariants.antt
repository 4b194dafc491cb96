use Rattle.std.proofs.Common.{◌≡◌, map, take}
use Rattle.gic_net.specs.Conductor.{conductor_of}
use Rattle.gic_net.proofs.conductor.conductors.Given as goal

abbrev pub invariant-loop-element : goal.invariant-loop-element
invariant-loop-element l = l.all.items ≡ map conductor_of (take l.element-index l.list)
