use Rattle.std.proofs.Common.{rules}
use Rattle.gic_case_reader.proofs.PassLaws.{case_of_law}
use Rattle.gic_case_reader.proofs.reading.read_case.Goals as goal

pub returns-in_err-table : goal.returns-in_err-table
returns-in_err-table c = rw (← case_of_law c.args.bytes.now) (search rules)

pub returns : goal.returns
returns c = rw (← case_of_law c.args.bytes.now) (search rules)
