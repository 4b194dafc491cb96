use Rattle.std.proofs.Common.{◌≡◌, drop}
use Rattle.std.specs.HashMap.{get}
use Rattle.gic_case.specs.Names.{same}
use Rattle.gic_case_reader.specs.Pass.{parts_with}
use Rattle.gic_case_reader.proofs.Rows.{with_prefix}
use Rattle.gic_case_reader.proofs.reference.parts_with.Given as goal

-- the parts so far and those that are left are all of them
abbrev pub invariant-loop-part : goal.invariant-loop-part
invariant-loop-part l = with_prefix l.parts.items (parts_with (get same l.zones) l.row (drop l.part-index l.rows)) ≡ parts_with (get same l.zones) l.row l.rows
