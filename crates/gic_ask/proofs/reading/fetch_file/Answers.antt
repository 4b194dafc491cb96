use Rattle.std.proofs.Common.{rules, refl, arith}
use Rattle.gic_files.specs.Files.{fetches}
use Rattle.gic_ask.specs.Contents.{Absent, Long}
use Rattle.gic_ask.specs.declared.fault.InputFault.TheVariants.{Refused, CannotRead}
use Rattle.gic_ask.specs.declared.fault.InputRefusal.TheVariants.{TooLong}
use Rattle.gic_ask.proofs.InTurn.{renamed, ends_alone, given_whole, not_given, failed_now, memory_wants}
use Rattle.gic_ask.proofs.reading.fetch_file.Goals as goal

pub returns-in-Ok-clause-gives : goal.returns-in-Ok-clause-gives
returns-in-Ok-clause-gives g c =
    renamed _ _ c.as_str.result.now _ _ _ _ _ c.as_str.ensures (given_whole _ _ c.in-Ok.bytes.items c.new.result _ _ _ c.new.ensures (c.in-Ok.ensures.limit, c.in-Ok.ensures.whole) c.in-Ok.ensures.fetched c.in-Ok.ensures.failures)

pub returns-in-Err-Failed-clause-gives : goal.returns-in-Err-Failed-clause-gives
returns-in-Err-Failed-clause-gives g c =
    let before = fetches g.L.Library.fetched g.L.Library.failures c.args.library.now in
    let now = fetches g.L.Library.fetched g.L.Library.failures c.read_whole.new.library in
    renamed _ _ c.as_str.result.now _ _ _ _ _ c.as_str.ensures
    (not_given _ c.as_str.result.now c.args.file before now Absent (CannotRead c.args.file) tt refl (ends_alone c.args.file c.as_str.result.now) (search (rules, c.in-Err-Failed.ensures.fetched))
    (failed_now c.as_str.result.now c.args.file before now (search (rules, c.in-Err-Failed.ensures.failures))))

pub returns-in-Err-TooLong-clause-gives : goal.returns-in-Err-TooLong-clause-gives
returns-in-Err-TooLong-clause-gives g c =
    let before = fetches g.L.Library.fetched g.L.Library.failures c.args.library.now in
    let now = fetches g.L.Library.fetched g.L.Library.failures c.read_whole.new.library in
    renamed _ _ c.as_str.result.now _ _ _ _ _ c.as_str.ensures
    (not_given _ c.as_str.result.now c.args.file before now Long (Refused (TooLong c.args.file)) (c.in-Err-TooLong.ensures.too_long (search rules)) refl (ends_alone c.args.file c.as_str.result.now)
    (search (rules, c.in-Err-TooLong.ensures.fetched)) (λ unread e. grind (arith, e)))

pub returns-in-Err-Memory-clause-gives : goal.returns-in-Err-Memory-clause-gives
returns-in-Err-Memory-clause-gives g c =
    let before = fetches g.L.Library.fetched g.L.Library.failures c.args.library.now in
    let now = fetches g.L.Library.fetched g.L.Library.failures c.read_whole.new.library in
    renamed _ _ c.as_str.result.now _ _ _ _ _ c.as_str.ensures (memory_wants _ c.as_str.result.now c.args.file before now (search (rules, c.in-Err-Memory.ensures.fetched)))
