use Rattle.gic_records.proofs.OneRead.{read_answers, keeps_reading}
use Rattle.csv.specs.Records.{fields_of}
use Rattle.gic_records.proofs.records.Records.read.Goals as goal

pub returns : goal.returns
returns c =
    let e = c.read_byte_record.ensures in
    rw (← c.self.view_is) (read_answers c.self.inside.reader c.read_byte_record.new.self (fields_of c.read_byte_record.new.row) c.read_byte_record.result c.found_of.result c.self.invariant e.reads e.failed c.found_of.ensures)

pub invariant_of-self : goal.invariant_of-self
invariant_of-self c =
    let e = c.read_byte_record.ensures in
    keeps_reading c.self.inside.reader c.read_byte_record.new.self (fields_of c.read_byte_record.new.row) c.read_byte_record.result c.self.invariant e.ready e.reads e.flexible e.goes e.fails e.failed e.why
