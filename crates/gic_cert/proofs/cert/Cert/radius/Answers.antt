use Rattle.std.proofs.Common.{◌≡◌, ◌<◌, length, slice_index, arith, ap, sym, ◌∙◌}
use Rattle.std.proofs.lemmas.Grind.{get_or_default_zero}
use Rattle.gic_cert.specs.Written.{Certificate, radius_of}
use Rattle.gic_cert.proofs.Columns.{count_is, radii_are}
use Rattle.gic_cert.proofs.cert.Cert.radius.Goals as goal

pub index-requires : goal.index-requires
index-requires c =
    let count = count_is c.self.inside.field.north c.self.inside.field.east c.self.inside.entries c.self.inside.guesses.items c.self.inside.radii.items in
    let view = ap (λ (d : Certificate). length d.nodes) c.self.view_is in
    omega (arith, c.requires, count, view, c.self.invariant.radius_count)

pub returns : goal.returns
returns c =
    let count = count_is c.self.inside.field.north c.self.inside.field.east c.self.inside.entries c.self.inside.guesses.items c.self.inside.radii.items in
    let view = ap (λ (d : Certificate). length d.nodes) c.self.view_is in
    let inside : c.args.node.0 < length c.self.inside.radii.items = omega (arith, c.requires, count, view, c.self.invariant.radius_count) in
    let read : c.index.result.now ≡ slice_index c.self.inside.radii.items c.args.node.0 = c.index.ensures ∙ get_or_default_zero c.self.inside.radii.items c.args.node.0 c.index.result.now inside in
    read ∙ sym (radii_are c.self.inside.field.north c.self.inside.field.east c.self.inside.entries c.self.inside.guesses.items c.self.inside.radii.items c.self.invariant c.args.node.0) ∙ ap (λ (d : Certificate). radius_of d c.args.node.0) c.self.view_is
