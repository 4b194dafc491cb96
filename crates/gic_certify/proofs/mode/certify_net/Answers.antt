use Rattle.std.proofs.Common.{◌≡◌, ◌<◌, ◌^◌, ℕ, ℤ, unsigned_abs, ap, sym, ◌∙◌, arith, rules}
use Rattle.gic_model.specs.Network.{Network}
use Rattle.gic_model.specs.Voltages.{number_at}
use Rattle.gic_net.specs.Net.{standing, stands}
use Rattle.gic_stand.specs.Needs.{Solved}
use Rattle.gic_stand.specs.Serves.{shown}
use Rattle.gic_winding.specs.ElementList.{elements_of}
use Rattle.gic_winding.proofs.Limits.{nodes_named}
use Rattle.gic_stand.proofs.Served.{served, met_once, unserved_network}
use Rattle.gic_certify.specs.RightCertify.{ShowsPassing}
use Rattle.gic_certify.proofs.Passing.{shows_passing}
use Rattle.gic_certify.proofs.mode.certify_net.Goals as goal

pub from_solver-certificate-requires-clause-certifiable : goal.from_solver-certificate-requires-clause-certifiable
from_solver-certificate-requires-clause-certifiable g c =
    let net = c.args.net.now in
    let volts = c.args.volts.now in
    let guesses = c.settle_guesses.new.workspace.solver in
    let ready = c.settle_guesses.ensures.ready in
    let settled = c.settle_guesses.ensures.settled in
    let nodes : (elements_of c.args.case.now).nodes ≡ net.network.nodes = sym (ap (λ (n : Network). n.nodes) c.requires.net) in
    record {
      volt_count = c.requires.volts;
      guess_count = ready.has_workspace.solver ∙ nodes;
      entry_count = ready.has_workspace.vector ∙ nodes;
      bound = ready.bound;
      settled = settled;
      written = λ k live.
          let below : unsigned_abs (number_at guesses k) < 2 ^ 94 =
          c.potential_bound_law.ensures.guesses net.network (stands net) (number_at volts) (number_at guesses) k
          c.within_limits.ensures ready.solvable.within c.within_limit.ensures settled live in
          omega (arith, below);
    }

pub write_cert-writing-requires : goal.write_cert-writing-requires
write_cert-writing-requires g c =
    c.from_solver-certificate.ensures.passes.placed.count ∙ ap (λ (n : Network). n.nodes) c.requires.net ∙ nodes_named c.args.case.now

pub returns : goal.returns
returns g c =
    let case = c.args.case.now in
    let stands = standing c.args.net.now in
    let volts : ℕ → ℤ = number_at c.args.volts.now in
    let field = c.args.field.now in
    let made = c.from_solver-certificate.ensures in
    let north : c.from_solver-certificate.result.north ≡ field.north = search (rules, made.field.0) in
    let east : c.from_solver-certificate.result.east ≡ field.east = search (rules, made.field.1) in
    served Solved case _ (ShowsPassing case stands volts field.north field.east) _ _ _ c.write_cert-writing.result c.ended.result
    (met_once Solved stands c.in_ok-expect_solvable.ensures.ready.solvable)
    (shows_passing case c.args.net.now volts field.north field.east c.from_solver-certificate.result c.requires.net c.within_ranges.ensures (north, east) made.passes made.made.radius made.small)
    c.write_cert-writing.ensures.all c.write_cert-writing.ensures.part c.write_cert-writing.ensures.cause c.ended.ensures

pub returns-in_err-expect_solvable : goal.returns-in_err-expect_solvable
returns-in_err-expect_solvable g c =
    let stands = standing c.args.net.now in
    unserved_network Solved c.args.case.now stands (ShowsPassing c.args.case.now stands (number_at c.args.volts.now) c.args.field.now.north c.args.field.now.east)
    (shown g.S.Sink.written g.S.Sink.faults c.args.out.now) c.in_err-expect_solvable.field-0.0
    c.from_residual.result c.from_residual.ensures.1 c.in_err-expect_solvable.ensures.err
