use Rattle.std.proofs.Common.{Err, ◌≡◌, ◌∙◌, ap, sym, arith}
use Rattle.std.proofs.lemmas.List.Elements.{All-push}
use Rattle.std.proofs.lemmas.List.Sorted.{IsNonDecreasingBy-push}
use Rattle.gic_base.proofs.RefusalLaws.{same_refusal}
use Rattle.gic_records.proofs.ReadRows.{read_end, read_row, read_bad, read_late, last_time}
use Rattle.gic_records.proofs.rows.read_rows.Goals as goal

pub returns-in-Ok-false-clause-value : goal.returns-in-Ok-false-clause-value
returns-in-Ok-false-clause-value g c =
    let l = c.loop-row in
    let none = rw c.in-Ok-false.field-0-test at c.in-Ok-false.ensures in
    sym l.invariant.rest ∙ read_end (g.R.RowReader.reads c.args.reader.now) g.R.RowReader.time_of c.args.most g.R.RowReader.late l.rows.items l.row l.before l.records none

pub returns-in-Err-read-clause-value : goal.returns-in-Err-read-clause-value
returns-in-Err-read-clause-value g c =
    let l = c.loop-row in
    let some = rw c.in-Ok-true.field-0-test at c.in-Ok-true.ensures in
    λ e is. sym l.invariant.rest ∙ read_bad (g.R.RowReader.reads c.args.reader.now) g.R.RowReader.time_of c.args.most g.R.RowReader.late l.rows.items l.row l.before l.records _ _ c.in-Err-read.refusal (omega arith) some (sym c.in-Err-read.ensures.value) ∙ ap (λ r. Err r) (same_refusal _ e is)

pub loop-row-preserved : goal.loop-row-preserved
loop-row-preserved g c =
    let l = c.loop-row in
    let some = rw c.in-Ok-true.field-0-test at c.in-Ok-true.ensures in
    let x = c.in-Ok.next in
    let time : c.time.result ≡ g.R.RowReader.time_of x = c.time.ensures in
    let items = c.in-Ok-push.ensures.items in
    record {
      many = omega (arith, c.in-Ok-push.ensures.len);
      rest = rw (items, time) (read_row (g.R.RowReader.reads c.args.reader.now) g.R.RowReader.time_of c.args.most g.R.RowReader.late l.rows.items l.row l.before l.records _ _ x (omega arith) some (sym c.in-Ok.ensures.value)) ∙ l.invariant.rest;
      ordered = rw items (IsNonDecreasingBy-push g.R.RowReader.time_of l.rows.items x l.invariant.ordered (λ d some_row. let last = l.invariant.last d some_row in omega (arith, c.in-Ok.ensures.order)));
      last = rw (items, time) (λ d some_row. last_time g.R.RowReader.time_of l.rows.items x d);
      each = rw items (All-push (g.R.RowReader.keeps c.args.reader.now) l.rows.items x l.invariant.each c.in-Ok.ensures.keeps);
    }

pub returns-in-Ok-true-read-clause-value : goal.returns-in-Ok-true-read-clause-value
returns-in-Ok-true-read-clause-value g c =
    let l = c.loop-row in
    let some = rw c.in-Ok-true-read.field-0-test at c.in-Ok-true-read.ensures in
    λ e is. sym l.invariant.rest ∙ read_late (g.R.RowReader.reads c.args.reader.now) g.R.RowReader.time_of c.args.most g.R.RowReader.late l.rows.items l.row l.before l.records _ _ (omega arith) some ∙ ap (λ r. Err r) (sym c.too_many.ensures ∙ same_refusal _ e is)

pub returns-in-Ok-false-read-clause-value : goal.returns-in-Ok-false-read-clause-value
returns-in-Ok-false-read-clause-value g c =
    let l = c.loop-row in
    let none = rw c.in-Ok-false-read.field-0-test at c.in-Ok-false-read.ensures in
    sym l.invariant.rest ∙ read_end (g.R.RowReader.reads c.args.reader.now) g.R.RowReader.time_of c.args.most g.R.RowReader.late l.rows.items l.row l.before l.records none
