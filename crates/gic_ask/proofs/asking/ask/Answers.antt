use Rattle.std.proofs.Common.{rules}
use Rattle.gic_ask.proofs.AllNamed.{words_refused, memory_wanting, gathered_asks}
use Rattle.gic_ask.proofs.asking.ask.Goals as goal

pub returns-in-Err-Usage-clause-asks : goal.returns-in-Err-Usage-clause-asks
returns-in-Err-Usage-clause-asks g c = words_refused _ _ _ _ (search rules)

pub returns-in-Err-Memory-clause-asks : goal.returns-in-Err-Memory-clause-asks
returns-in-Err-Memory-clause-asks g c = memory_wanting _ _ _

pub returns-clause-asks : goal.returns-clause-asks
returns-clause-asks g c = gathered_asks _ _ c.in-Ok.request _ _ c.gather.result c.in-Ok.ensures.right c.gather.ensures.reads
