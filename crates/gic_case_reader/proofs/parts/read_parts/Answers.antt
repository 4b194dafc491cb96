use Rattle.std.proofs.Common.{◌≡◌, Some, arith, rules}
use Rattle.toml.specs.Data.{as_array}
use Rattle.toml.specs.View.{view, items_view}
use Rattle.gic_case_reader.specs.Lines.{parts_in}
use Rattle.gic_case_reader.proofs.PartLists.{parts_length, read_too_many}
use Rattle.gic_case_reader.proofs.parts.read_parts.Goals as goal

pub returns-then-values-gt-MOST_PARTS : goal.returns-then-values-gt-MOST_PARTS
returns-then-values-gt-MOST_PARTS c =
    let values = c.as_slice-values.result.now in
    let there : Some (items_view values) ≡ as_array (view c.args.value.now) = search rules in
    read_too_many (view c.args.value.now) values there (omega arith)

pub are_parts-requires : goal.are_parts-requires
are_parts-requires c =
    let values = c.as_slice-values.result.now in
    let parts = c.in-Some-2.parts.items in
    let there : Some parts ≡ parts_in (items_view values) = search rules in
    let many = parts_length values parts there in
    rw c.as_slice.ensures.value (omega (arith, many))
