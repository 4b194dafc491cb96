use Rattle.std.proofs.Common.{rules, length, sym, subst}
use Rattle.gic_case.specs.Lists.{node_names}
use Rattle.gic_net.specs.Net.{standing}
use Rattle.gic_recheck.specs.Accepted.{IsRefused}
use Rattle.gic_recheck.proofs.Telling.{reading_within, reading_told}
use Rattle.gic_recheck.proofs.accepting.read.Goals as goal

pub told-requires : goal.told-requires
told-requires c =
    reading_within (length (node_names c.args.case.now)) c.args.case.now (standing c.args.net.now) c.args.bytes.now c.in-Err-Refused.refusal
    (c.in-Err-Refused.ensures.answer c.in-Err-Refused.refusal (search rules))

pub returns-in-Err-Refused-clause-refused : goal.returns-in-Err-Refused-clause-refused
returns-in-Err-Refused-clause-refused c =
    subst (IsRefused c.args.case.now (standing c.args.net.now) c.args.bytes.now) (sym c.told.ensures)
    (reading_told c.args.case.now (standing c.args.net.now) c.args.bytes.now c.in-Err-Refused.refusal (c.in-Err-Refused.ensures.answer c.in-Err-Refused.refusal (search rules)))
