use Rattle.std.proofs.Common.{length, arith, ap, sym, subst, ◌∙◌}
use Rattle.gic_model.specs.Voltages.{number_at}
use Rattle.gic_sweep.specs.Guesses.{AreCut}
use Rattle.gic_cert.specs.Written.{Certificate, guess_of}
use Rattle.gic_cert.proofs.Columns.{count_is, guesses_same}
use Rattle.gic_cert.proofs.cert.Cert.guesses.Goals as goal

pub returns-clause-value : goal.returns-clause-value
returns-clause-value c = ap number_at c.as_slice.ensures.value ∙ guesses_same c.self.inside.field.north c.self.inside.field.east c.self.inside.entries c.self.inside.guesses.items c.self.inside.radii.items c.self.invariant ∙ ap guess_of c.self.view_is

pub returns-clause-count : goal.returns-clause-count
returns-clause-count c = ap length c.as_slice.ensures.value ∙ c.self.invariant.guess_count ∙ sym (count_is c.self.inside.field.north c.self.inside.field.east c.self.inside.entries c.self.inside.guesses.items c.self.inside.radii.items) ∙ ap (λ (d : Certificate). length d.nodes) c.self.view_is

pub returns-clause-cut : goal.returns-clause-cut
returns-clause-cut c =
    let small : AreCut (number_at c.self.inside.guesses.items) = λ k. omega (arith, c.self.invariant.guess_range k) in
    subst (λ xs. AreCut (number_at xs)) (sym c.as_slice.ensures.value) small
