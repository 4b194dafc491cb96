use Rattle.std.proofs.Common.{◌≡◌, length, slice_index, arith, ap, sym, ◌∙◌}
use Rattle.gic_cert.specs.Written.{Certificate, entry_of}
use Rattle.gic_cert.proofs.Columns.{count_is, entries_are}
use Rattle.gic_cert.proofs.cert.Cert.entry.Goals as goal

pub entry-requires : goal.entry-requires
entry-requires c =
    let count = count_is c.self.inside.field.north c.self.inside.field.east c.self.inside.entries c.self.inside.guesses.items c.self.inside.radii.items in
    let view = ap (λ (d : Certificate). length d.nodes) c.self.view_is in
    omega (arith, c.requires, count, view)

pub returns : goal.returns
returns c =
    let seen : entry_of c.args.self.now c.args.node.0 ≡ slice_index c.self.inside.entries c.args.node.0 =
    sym (ap (λ (d : Certificate). entry_of d c.args.node.0) c.self.view_is) ∙ entries_are c.self.inside.field.north c.self.inside.field.east c.self.inside.entries c.self.inside.guesses.items c.self.inside.radii.items c.args.node.0 in
    record { value = c.entry.ensures.value ∙ sym seen; range = omega (arith, c.entry.ensures.value, c.self.invariant.entry_range c.args.node.0) }
