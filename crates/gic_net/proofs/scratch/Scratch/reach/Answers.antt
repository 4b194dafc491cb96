use Rattle.std.proofs.Common.{◌≡◌, ◌<◌, false, length, get_or, ap, sym, ◌∙◌, subst, arith}
use Rattle.std.proofs.lemmas.List.{get_or_default}
use Rattle.gic_net.specs.Scratch.{ScratchView, with_node}
use Rattle.gic_net.proofs.Marks.{space_left, marked_more, seen_more}
use Rattle.gic_net.proofs.scratch.Scratch.reach.Goals as goal

pub index_mut-requires-then-not-index : goal.index_mut-requires-then-not-index
index_mut-requires-then-not-index c =
    let marks = c.self.inside.marks.items in
    let inside : c.args.node < length marks = subst (λ (v : ScratchView). c.args.node < v.nodes) (sym c.self.view_is) c.requires in
    let unmarked : get_or marks c.args.node false ≡ false = sym (c.index.ensures ∙ get_or_default marks c.args.node c.index.result.now false inside) ∙ c.if-not-index.true in
    let space = space_left marks c.self.inside.queue.items c.self.inside.count c.args.node c.self.invariant inside unmarked in
    omega arith

pub invariant_of-self : goal.invariant_of-self
invariant_of-self c =
    let marks = c.self.inside.marks.items in
    let inside : c.args.node < length marks = subst (λ (v : ScratchView). c.args.node < v.nodes) (sym c.self.view_is) c.requires in
    let unmarked : get_or marks c.args.node false ≡ false = sym (c.index.ensures ∙ get_or_default marks c.args.node c.index.result.now false inside) ∙ c.if-not-index.true in
    marked_more marks c.self.inside.queue.items c.self.inside.count c.args.node c.self.invariant inside unmarked

pub returns-then-not-index : goal.returns-then-not-index
returns-then-not-index c =
    let marks = c.self.inside.marks.items in
    let inside : c.args.node < length marks = subst (λ (v : ScratchView). c.args.node < v.nodes) (sym c.self.view_is) c.requires in
    let unmarked : get_or marks c.args.node false ≡ false = sym (c.index.ensures ∙ get_or_default marks c.args.node c.index.result.now false inside) ∙ c.if-not-index.true in
    seen_more marks c.self.inside.queue.items c.self.inside.count c.args.node c.self.invariant inside unmarked ∙
    ap (λ (v : ScratchView). record v { reached = with_node v.reached c.args.node }) c.self.view_is
