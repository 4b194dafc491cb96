use Rattle.gic_case_reader.proofs.Tables.{has_only-view}
use Rattle.gic_case_reader.specs.Keys.{is_document_key}
use Rattle.gic_case_reader.proofs.keys.fits_document.Goals as goal

pub loop-key-init : goal.loop-key-init
loop-key-init c = rw (c.into_iter-key-iterator.ensures.into_iter_gives, c.keys-key-items.ensures.rest) (has_only-view is_document_key c.args.table.now.entries)
