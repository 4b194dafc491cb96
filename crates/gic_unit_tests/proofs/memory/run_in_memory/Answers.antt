use Rattle.std.proofs.Common.{rules, ◌≡◌, [], map, string_bytes, ℕ, List, Some, ap, subst}
use Rattle.gic_files.specs.Shelf.{Shelf, files_of}
use Rattle.gic_unit_tests.specs.Told.{IsReport}
use Rattle.gic_unit_tests.proofs.AfterRun.{report, told}
use Rattle.gic_unit_tests.proofs.memory.run_in_memory.Goals as goal

pub returns-clause-right : goal.returns-clause-right
returns-clause-right c done =
    let empty : c.new-out.result.stream.items ≡ [] = search (rules, c.new-out.ensures.stream, c.new-2.ensures.items) in
    let whole : c.run-status.new.out.stream.items ≡ c.into_stream.result.items = search (rules, c.into_stream.ensures) in
    subst (λ (shelf : Shelf). IsReport (map string_bytes c.args.words.items) (files_of shelf.files) c.into_stream.result.items) c.new-library.ensures
    (report c.answers_of_files_law.ensures c.statuses_say_law.ensures _ (files_of c.new-library.result.files) _ _ c.run-status.result c.into_stream.result.items
    (ap (λ (xs : List ℕ). Some xs) empty) (ap (λ (xs : List ℕ). Some xs) whole) c.run-status.ensures.ends done)

pub returns-clause-told : goal.returns-clause-told
returns-clause-told c some =
    let empty : c.new-err.result.stream.items ≡ [] = search (rules, c.new-err.ensures.stream, c.new-3.ensures.items) in
    let whole : c.run-status.new.err.stream.items ≡ c.into_stream-2.result.items = search (rules, c.into_stream-2.ensures) in
    told _ _ c.run-status.result c.into_stream-2.result.items
    (ap (λ (xs : List ℕ). Some xs) empty) (ap (λ (xs : List ℕ). Some xs) whole) some _ (files_of c.new-library.result.files) c.run-status.ensures.ends
