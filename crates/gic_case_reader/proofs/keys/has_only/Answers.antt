use Rattle.std.proofs.Common.{◌||◌}
use Rattle.gic_case_reader.proofs.Tables.{has_only-view}
use Rattle.gic_case_reader.specs.Keys.{is_key_of}
use Rattle.gic_case_reader.proofs.keys.has_only.Goals as goal

pub loop-key-init : goal.loop-key-init
loop-key-init c = rw (c.into_iter-key-iterator.ensures.into_iter_gives, c.keys-key-items.ensures.rest) (has_only-view (λ k. is_key_of c.args.required.now k || is_key_of c.args.others.now k) c.args.table.now.entries)
