use Rattle.std.proofs.Common.{rules}
use Rattle.clap.specs.Words.{found_of, rows_of}
use Rattle.gic_words.specs.Seen.{row_seen}
use Rattle.gic_words.proofs.Given.{all_of_row}
use Rattle.gic_words.proofs.request.read_matches.Goals as goal

pub request_by-requires-clause-required : goal.request_by-requires-clause-required
request_by-requires-clause-required c =
    (all_of_row (rows_of (found_of c.args.matches.now)) (row_seen c.in-Some.row.now) (search (rules, c.in-Some.ensures)) (search (rules, c.in_default-first_fault.ensures))).required

pub request_by-requires-clause-event : goal.request_by-requires-clause-event
request_by-requires-clause-event c =
    (all_of_row (rows_of (found_of c.args.matches.now)) (row_seen c.in-Some.row.now) (search (rules, c.in-Some.ensures)) (search (rules, c.in_default-first_fault.ensures))).event
