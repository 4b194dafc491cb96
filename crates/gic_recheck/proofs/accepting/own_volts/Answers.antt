use Rattle.std.proofs.Common.{◌≡◌, ◌∙◌, ℤ, List, sym, ap, subst}
use Rattle.std.proofs.lemmas.Result.{IfOk-weaker}
use Rattle.gic_induce.specs.Voltage.{IsFieldWithin}
use Rattle.gic_model.specs.Voltages.{number_at}
use Rattle.gic_uniform.specs.Uniform.{uniform_volts}
use Rattle.gic_uniform.proofs.UniformFields.{volts_of_field}
use Rattle.gic_recheck.proofs.accepting.own_volts.Goals as goal

pub returns-clause-own : goal.returns-clause-own
returns-clause-own c =
    let case = c.args.case.now in
    let cert = c.args.cert.now in
    let north : IsFieldWithin c.north.result = subst IsFieldWithin (sym c.north.ensures.value) c.north.ensures.written.north in
    let east : IsFieldWithin c.east.result = subst IsFieldWithin (sym c.east.ensures) c.north.ensures.written.east in
    IfOk-weaker c.uniform_volts.result _ (λ (volts : List ℤ). number_at volts ≡ uniform_volts case cert.north cert.east)
    (λ volts is. volts_of_field case c.north.result c.east.result volts north east is
    ∙ ap (λ (z : ℤ). uniform_volts case z c.east.result) c.north.ensures.value
    ∙ ap (λ (z : ℤ). uniform_volts case cert.north z) c.east.ensures)
    c.uniform_volts.ensures
