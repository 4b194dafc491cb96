use Rattle.std.proofs.Common.{length, arith, ap}
use Rattle.gic_cert.specs.Written.{Certificate}
use Rattle.gic_cert.proofs.Columns.{count_is}
use Rattle.gic_cert.proofs.cert.Cert.count.Goals as goal

pub returns : goal.returns
returns c =
    let count = count_is c.self.inside.field.north c.self.inside.field.east c.self.inside.entries c.self.inside.guesses.items c.self.inside.radii.items in
    let view = ap (λ (d : Certificate). length d.nodes) c.self.view_is in
    omega (arith, c.len.ensures, c.self.invariant.guess_count, count, view)
