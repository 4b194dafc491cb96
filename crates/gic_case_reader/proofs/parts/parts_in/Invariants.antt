use Rattle.std.proofs.Common.{◌≡◌, drop}
use Rattle.toml.specs.View.{items_view}
use Rattle.gic_case_reader.specs.Lines.{parts_in}
use Rattle.gic_case_reader.proofs.Rows.{behind}
use Rattle.gic_case_reader.proofs.parts.parts_in.Given as goal

-- the parts so far and those that are left are all of them
abbrev pub invariant-loop-value : goal.invariant-loop-value
invariant-loop-value l = behind l.parts.items (parts_in (items_view (drop l.value-index l.values))) ≡ parts_in (items_view l.values)
