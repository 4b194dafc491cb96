use Rattle.gic_fixed.specs.Ends.{ends_of}
use Rattle.gic_grounds.proofs.Quotients.{varied_is}
use Rattle.gic_grounds.proofs.stray.varied.Goals as goal

pub returns-clause-value : goal.returns-clause-value
returns-clause-value c =
    varied_is (ends_of c.args.reference.now) (ends_of c.args.lowering.now) (ends_of c.args.raising.now) c.requires.reference.low
    c.requires.reference.high c.requires.lowering.high c.requires.raising.high
