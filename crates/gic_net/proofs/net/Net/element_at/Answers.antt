use Rattle.std.proofs.Common.{length, get_or, arith, ap, subst, ◌∙◌}
use Rattle.gic_net.specs.Net.{NetView}
use Rattle.gic_net.specs.Row.{NodeRow}
use Rattle.gic_net.proofs.Places.{AreRead, read_of, degree_is, whole, facts}
use Rattle.gic_net.proofs.net.Net.element_at.Goals as goal

pub element_at-requires : goal.element_at-requires
element_at-requires c =
    let read : AreRead c.args.self.now c.self.inside.rows.items =
    subst (λ (n : NetView). AreRead n c.self.inside.rows.items) c.self.view_is
    (read_of (record { nodes = c.self.inside.nodes; list = c.self.inside.list.items }) c.self.inside.opened.items c.self.inside.index.first.items c.self.inside.index.next.items c.self.inside.rows.items c.self.invariant.0) in
    let row = ap (λ (r : NodeRow). length r.standing) c.index.ensures in
    omega (arith, row, degree_is c.args.self.now c.self.inside.rows.items read c.args.node.0 c.requires.node c.index.result.now, c.requires.place)

pub returns : goal.returns
returns c =
    let read : AreRead c.args.self.now c.self.inside.rows.items =
    subst (λ (n : NetView). AreRead n c.self.inside.rows.items) c.self.view_is
    (read_of (record { nodes = c.self.inside.nodes; list = c.self.inside.list.items }) c.self.inside.opened.items c.self.inside.index.first.items c.self.inside.index.next.items c.self.inside.rows.items c.self.invariant.0) in
    let id = c.element_at.ensures ∙ ap (λ (r : NodeRow). get_or r.standing c.args.place 0) c.index.ensures in
    let f = facts c.args.self.now c.self.inside.rows.items read c.args.node.0 c.requires.node c.index.result.now c.args.place c.element_at.result c.requires.place id in
    record {
      value = whole c.args.self.now c.self.inside.rows.items read c.args.node.0 c.requires.node c.index.result.now c.args.place c.element_at.result c.requires.place id;
      inside = f.inside;
      within = f.within;
      ends = f.ends;
    }
