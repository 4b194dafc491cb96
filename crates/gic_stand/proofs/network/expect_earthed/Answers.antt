use Rattle.std.proofs.Common.{ℕ, ◌≡◌, ◌<◌, length, refl, ap, subst, ◌∙◌}
use Rattle.gic_case.specs.Lists.{node_names}
use Rattle.gic_winding.proofs.Limits.{nodes_named}
use Rattle.gic_stand.proofs.network.expect_earthed.Goals as goal

pub node_name-node-requires : goal.node_name-node-requires
node_name-node-requires c =
    let nodes : c.args.net.now.network.nodes ≡ length (node_names c.args.case.now) = c.requires.nodes ∙ nodes_named c.args.case.now in
    subst (λ (n : ℕ). c.in-Err.refusal.node.0 < n) nodes c.in-Err.ensures.within

pub returns-in-Err-clause-err : goal.returns-in-Err-clause-err
returns-in-Err-clause-err c = (refl, (c.in-Err.refusal.node.0, (c.in-Err.ensures.unearthed, c.node_name-node.ensures)))
