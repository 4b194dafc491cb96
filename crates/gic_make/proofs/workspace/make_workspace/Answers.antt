use Rattle.std.proofs.Common.{◌≡◌, ◌∙◌, ℕ, ℤ, pos, w32, to_z, of_z, None, length, ap, sym, subst, arith}
use Rattle.std.proofs.lemmas.List.{length-map}
use Rattle.gic_induce.specs.LineVolts.{volts_of}
use Rattle.gic_induce.specs.Voltage.{IsFieldWithin}
use Rattle.gic_model.specs.Network.{Network}
use Rattle.gic_model.specs.Voltages.{number_at}
use Rattle.gic_net.specs.Net.{standing}
use Rattle.gic_criteria.specs.declared.event.Event.TheVariants.{Benchmark}
use Rattle.gic_criteria.specs.Event.{field_of}
use Rattle.gic_winding.specs.ElementList.{elements_of}
use Rattle.gic_stand.proofs.StandingOf.{stands_of_case}
use Rattle.gic_uniform.specs.Uniform.{uniform_field}
use Rattle.gic_uniform.proofs.UniformFields.{same_part}
use Rattle.gic_make.specs.RightMake.{benchmark_volts}
use Rattle.gic_make.proofs.workspace.make_workspace.Goals as goal

pub returns : goal.returns
returns c =
    let case = c.in_ok-case.case in
    let volts = c.in_ok-volts.volts in
    let network = c.in_ok-net.ensures.network ∙ c.in_ok-elements.ensures in
    let field : c.field.result ≡ field_of Benchmark = c.field.ensures in
    let within : IsFieldWithin c.field.result = subst (λ (z : ℤ). IsFieldWithin z) (sym field) (omega arith) in
    let same : to_z w32 (of_z w32 c.field.result) ≡ field_of Benchmark = same_part c.field.result within ∙ field in
    record {
      case_is = c.in_ok-case.ensures;
      network = network;
      stands = stands_of_case case None _ (standing c.in_ok-net.net) c.in_ok-elements.ensures c.in_ok-net.ensures.standing;
      volts = ap number_at (c.in_ok-volts.ensures ∙ ap (λ (z : ℤ). volts_of case (uniform_field case z (pos 0)) (elements_of case).list) same);
      count = ap length c.in_ok-volts.ensures ∙ length-map (elements_of case).list _ ∙ sym (ap (λ (n : Network). length n.list) network);
      summary = c.in_ok-summary.ensures;
    }
