use Rattle.std.proofs.Common.{◌≤◌, length, arith, ap, subst, ◌∙◌}
use Rattle.gic_net.specs.Net.{NetView}
use Rattle.gic_net.specs.Row.{NodeRow}
use Rattle.gic_net.proofs.Places.{AreRead, read_of, degree_is, degree_few}
use Rattle.gic_net.proofs.net.Net.degree.Goals as goal

few : (c : goal.After-degree) → c.degree.result ≤ 256
few c =
    let read : AreRead c.args.self.now c.self.inside.rows.items =
    subst (λ (n : NetView). AreRead n c.self.inside.rows.items) c.self.view_is
    (read_of (record { nodes = c.self.inside.nodes; list = c.self.inside.list.items }) c.self.inside.opened.items c.self.inside.index.first.items c.self.inside.index.next.items c.self.inside.rows.items c.self.invariant.0) in
    let row = ap (λ (r : NodeRow). length r.standing) c.index.ensures in
    omega (arith, c.degree.ensures, row, degree_few c.args.self.now c.self.inside.rows.items read c.args.node.0 c.requires c.index.result.now)

pub overflow_cast-result : goal.overflow_cast-result
overflow_cast-result c = let small = few c in record { fits = omega arith }

pub returns-clause-value : goal.returns-clause-value
returns-clause-value c =
    let read : AreRead c.args.self.now c.self.inside.rows.items =
    subst (λ (n : NetView). AreRead n c.self.inside.rows.items) c.self.view_is
    (read_of (record { nodes = c.self.inside.nodes; list = c.self.inside.list.items }) c.self.inside.opened.items c.self.inside.index.first.items c.self.inside.index.next.items c.self.inside.rows.items c.self.invariant.0) in
    let row = ap (λ (r : NodeRow). length r.standing) c.index.ensures in
    c.degree.ensures ∙ row ∙ degree_is c.args.self.now c.self.inside.rows.items read c.args.node.0 c.requires c.index.result.now

pub returns-clause-few : goal.returns-clause-few
returns-clause-few c = few c
