use Rattle.std.proofs.Common.{◌≡◌, ◌≤◌, ◌*◌, take}
use Rattle.gic_case_reader.specs.Lines.{east_way}
use Rattle.gic_case_reader.proofs.parts.east_way.Given as goal

-- the way is that of the parts so far, each at most as long as its number may be
abbrev pub invariant-loop-part : goal.invariant-loop-part
invariant-loop-part l = record {
  way : l.way ≡ east_way (take l.part-index l.parts);
  small : l.way ≤ l.part-index * 4294967296;
}
