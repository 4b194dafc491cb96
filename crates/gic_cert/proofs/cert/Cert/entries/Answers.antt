use Rattle.std.proofs.Common.{length, ap, sym, ◌∙◌}
use Rattle.gic_cert.specs.Written.{Certificate, entry_of}
use Rattle.gic_cert.proofs.Columns.{count_is, entries_same}
use Rattle.gic_cert.proofs.cert.Cert.entries.Goals as goal

pub returns-clause-value : goal.returns-clause-value
returns-clause-value c = entries_same c.self.inside.field.north c.self.inside.field.east c.self.inside.entries c.self.inside.guesses.items c.self.inside.radii.items ∙ ap entry_of c.self.view_is

pub returns-clause-count : goal.returns-clause-count
returns-clause-count c = sym (count_is c.self.inside.field.north c.self.inside.field.east c.self.inside.entries c.self.inside.guesses.items c.self.inside.radii.items) ∙ ap (λ (d : Certificate). length d.nodes) c.self.view_is
