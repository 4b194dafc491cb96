use Rattle.gic_records.proofs.Prefixes.{prefix_law, to_the_end}
use Rattle.gic_records.proofs.prefix.prefix.Goals as goal

pub returns : goal.returns
returns c =
    let mark = c.mark_len-mark in
    rw (c.prefix_len.ensures.value, to_the_end mark.result c.args.text.now, mark.ensures.value) (prefix_law c.args.text.now)
