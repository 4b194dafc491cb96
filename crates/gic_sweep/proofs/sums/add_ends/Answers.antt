use Rattle.std.proofs.Common.{arith, ◌≡◌, ◌+◌, ◌^◌, ◌≤◌, ◌<◌, ◌==◌, false, cond, ap, sym, subst, subst₂, ◌∙◌, length, ℤ, pos, ◌+ℤ◌, unsigned_abs, to_z, of_z}
use Rattle.std.proofs.lemmas.Int.{ints, to_z-of_z, fits_signed_from_abs}
use mir.Syntax.{w128}
use Rattle.gic_model.specs.declared.parts.End.{End}
use Rattle.gic_model.specs.Network.{is_node}
use Rattle.gic_model.specs.Limits.{IsEndWithin}
use Rattle.gic_model.specs.Voltages.{number_at}
use Rattle.gic_sweep.proofs.Shares.{ends_apart, two_ends, one_more_small}
use Rattle.gic_sweep.proofs.sums.add_ends.Goals as goal

pub add_at-requires-in-Node-clause-small : goal.add_at-requires-in-Node-clause-small
add_at-requires-in-Node-clause-small c =
    let e = c.args.element.now in
    let m = c.in-Node.node.0 in
    let old = number_at c.args.sums.now m in
    let inside : m < length c.args.sums.now = subst (λ (w : End). IsEndWithin (length c.args.sums.now) w) c.in-Node.is c.requires.within.to_end in
    let part : unsigned_abs (to_z w128 (of_z w128 c.args.share.now.out)) ≤ 2 ^ 118 = omega (arith, ints, c.requires.out) in
    subst (λ (z : ℤ). unsigned_abs z ≤ 2 ^ 126 + 2 ^ 118) (sym (c.add_at.ensures.sums m)) (one_more_small (e.from.0 == m) (to_z w128 (of_z w128 c.args.share.now.out)) old part (c.requires.space m inside))

pub returns-in-Node-clause-sums : goal.returns-in-Node-clause-sums
returns-in-Node-clause-sums c = λ k.
    let e = c.args.element.now in
    let f = e.from.0 in
    let m = c.in-Node.node.0 in
    let out = c.args.share.now.out in
    let back = c.args.share.now.back in
    let old = number_at c.args.sums.now k in
    let oe : to_z w128 (of_z w128 out) ≡ out = to_z-of_z w128 out (fits_signed_from_abs w128 out (omega (arith, c.requires.out))) in
    let be : to_z w128 (of_z w128 back) ≡ back = to_z-of_z w128 back (fits_signed_from_abs w128 back (omega (arith, c.requires.back))) in
    let differ : (m == f) ≡ false = subst (λ (w : End). is_node w f ≡ false) c.in-Node.is c.requires.within.ends_differ in
    let new = c.add_at-in-Node.new.sums in
    let all : number_at new k ≡ cond (f == k) (to_z w128 (of_z w128 out)) (cond (m == k) (to_z w128 (of_z w128 back)) (pos 0)) +ℤ old =
    c.add_at-in-Node.ensures.sums k ∙ ap (λ (w : ℤ). cond (m == k) (to_z w128 (of_z w128 back)) (pos 0) +ℤ w) (c.add_at.ensures.sums k) ∙
    two_ends (f == k) (m == k) (to_z w128 (of_z w128 out)) (to_z w128 (of_z w128 back)) old (ends_apart f m k differ) in
    subst (λ (w : End). number_at new k ≡ (cond (f == k) out (cond (is_node w k) back (pos 0)) +ℤ old)) (sym c.in-Node.is)
    (subst₂ (λ (o b : ℤ). number_at new k ≡ (cond (f == k) o (cond (m == k) b (pos 0)) +ℤ old)) oe be all)
