use Rattle.std.proofs.Common.{None, Ok, Err}
use Rattle.gic_words.specs.declared.request.Request.TheVariants as request
use Rattle.gic_ask.specs.Contents.{names_in}
use Rattle.gic_ask.specs.declared.request.Asked.TheVariants as asked
use Rattle.gic_ask.proofs.InTurn.{reads_by}
use Rattle.gic_ask.proofs.AllNamed.{network_fails, network_made, none_named, of_request}
use Rattle.gic_ask.proofs.gathering.gather.Goals as goal

pub returns-in_err-inputs-in-Robust-clause-reads : goal.returns-in_err-inputs-in-Robust-clause-reads
returns-in_err-inputs-in-Robust-clause-reads g c =
    reads_by _ (names_in c.args.request.now) _ _ _ _ c.from_residual.result c.in_err-inputs-in-Robust.field-0.0 c.from_residual.ensures.1
    (of_request _ c.args.request.now (request.Robust c.in-Robust.r) _ _ (Err c.in_err-inputs-in-Robust.field-0.0) c.in-Robust.is
    (network_fails _ c.in-Robust.r.case c.in-Robust.r.switch _ asked.Robust _ _ c.in_err-inputs-in-Robust.field-0.0 (c.in_err-inputs-in-Robust.ensures.reads None)))

pub returns-in_ok-inputs-in-Robust-clause-reads : goal.returns-in_ok-inputs-in-Robust-clause-reads
returns-in_ok-inputs-in-Robust-clause-reads g c =
    of_request _ c.args.request.now (request.Robust c.in-Robust.r) _ _ (Ok (asked.Robust c.in_ok-inputs-in-Robust.inputs)) c.in-Robust.is
    (network_made _ c.in-Robust.r.case c.in-Robust.r.switch _ asked.Robust _ _ c.in_ok-inputs-in-Robust.inputs (c.in_ok-inputs-in-Robust.ensures.reads None))

pub returns-in-Make-clause-reads : goal.returns-in-Make-clause-reads
returns-in-Make-clause-reads g c =
    of_request _ c.args.request.now (request.Make c.in-Make.r) _ _ (Ok (asked.Make c.in-Make.r)) c.in-Make.is
    (none_named _ (names_in (request.Make c.in-Make.r)) (asked.Make c.in-Make.r) _)
