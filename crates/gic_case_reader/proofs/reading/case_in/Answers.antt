use Rattle.std.proofs.Common.{◌≡◌, Ok, rules}
use Rattle.toml.specs.View.{table_view}
use Rattle.gic_case_reader.specs.Pass.{case_in}
use Rattle.gic_case_reader.proofs.Sound.{sound_case}
use Rattle.gic_case_reader.proofs.reading.case_in.Goals as goal

pub of-requires : goal.of-requires
unfolding case_in
of-requires c =
    let read : case_in (table_view c.args.table.now) ≡ Ok c.in_ok-network.network = search rules in
    sound_case (table_view c.args.table.now) c.in_ok-network.network read
