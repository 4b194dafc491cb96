use Rattle.std.proofs.Common.{◌≡◌, map, take}
use Rattle.gic_induce.specs.LineVolts.{line_volts}
use Rattle.gic_volts.proofs.lines.all_line_volts.Given as goal

-- the voltages of the lines so far
abbrev pub invariant-loop-line : goal.invariant-loop-line
invariant-loop-line l = l.volts.items ≡ map (line_volts l.zones l.fields) (take l.line-index l.line-items)
