use Rattle.std.proofs.Common.{subst}
use Rattle.gic_cert.specs.Written.{IsWritten}
use Rattle.gic_cert.proofs.Columns.{written}
use Rattle.gic_cert.proofs.cert.Cert.within_ranges.Goals as goal

pub returns : goal.returns
returns c = subst IsWritten c.self.view_is (written c.self.inside.field.north c.self.inside.field.east c.self.inside.entries c.self.inside.guesses.items c.self.inside.radii.items c.self.invariant)
