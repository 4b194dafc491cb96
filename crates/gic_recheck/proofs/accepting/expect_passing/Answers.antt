use Rattle.std.proofs.Common.{◌≡◌, ℕ, ℤ, length, refl, ap, subst, ◌∙◌}
use Rattle.gic_case.specs.Lists.{node_names}
use Rattle.gic_cert.specs.Passing.{IsPassing}
use Rattle.gic_cert.specs.Refusals.{IsFirstRefusal}
use Rattle.gic_net.proofs.Steps.{live_node}
use Rattle.gic_model.specs.Network.{Network}
use Rattle.gic_model.specs.Voltages.{number_at}
use Rattle.gic_net.specs.Net.{standing}
use Rattle.gic_winding.proofs.Limits.{nodes_named}
use Rattle.gic_uniform.specs.Uniform.{uniform_volts}
use Rattle.gic_winding.specs.ElementList.{elements_of}
use Rattle.gic_recheck.specs.Told.{IsNodeWithin}
use Rattle.gic_recheck.proofs.Telling.{break_within}
use Rattle.gic_recheck.proofs.accepting.expect_passing.Goals as goal

pub told-requires : goal.told-requires
told-requires c =
    let net = c.args.net.now in
    let nodes : net.network.nodes ≡ length (node_names c.args.case.now) = ap (λ (n : Network). n.nodes) c.requires.net ∙ nodes_named c.args.case.now in
    subst (λ (n : ℕ). IsNodeWithin n c.in-Err.broken) nodes
    (break_within net.network.nodes (standing net) (number_at c.args.volts.now) c.args.cert.now c.in-Err.broken
    (λ k live. live_node net k c.within_limits.ensures live) c.in-Err.ensures.first)

pub returns-in-Ok-clause-passes : goal.returns-in-Ok-clause-passes
returns-in-Ok-clause-passes c =
    let case = c.args.case.now in
    let net = c.args.net.now in
    let cert = c.args.cert.now in
    let nodes : net.network.nodes ≡ (elements_of case).nodes = ap (λ (n : Network). n.nodes) c.requires.net in
    subst (λ (n : ℕ). IsPassing n (standing net) (uniform_volts case cert.north cert.east) cert) nodes
    (subst (λ (v : ℕ → ℤ). IsPassing net.network.nodes (standing net) v cert) c.requires.volts (c.in-Ok.ensures.passes.0 refl))

pub returns-in-Err-clause-refused : goal.returns-in-Err-clause-refused
returns-in-Err-clause-refused c =
    let case = c.args.case.now in
    let net = c.args.net.now in
    let cert = c.args.cert.now in
    let nodes : net.network.nodes ≡ (elements_of case).nodes = ap (λ (n : Network). n.nodes) c.requires.net in
    record {
      refusal = c.in-Err.broken;
      first = subst (λ (n : ℕ). IsFirstRefusal n (standing net) (uniform_volts case cert.north cert.east) cert c.in-Err.broken) nodes
          (subst (λ (v : ℕ → ℤ). IsFirstRefusal net.network.nodes (standing net) v cert c.in-Err.broken) c.requires.volts c.in-Err.ensures.first);
      told = c.told.ensures;
    }
