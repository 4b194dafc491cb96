use Rattle.std.proofs.Common.{◌≡◌, arith, sym, subst}
use Rattle.gic_enclose.specs.Ends.{potential_ends}
use Rattle.gic_fixed.specs.Encloses.{IsWithin}
use Rattle.gic_fixed.specs.Ends.{Ends, ends_of}
use Rattle.gic_grounds.proofs.NodeLists.{all_within, next_within, ends_same}
use Rattle.gic_grounds.proofs.unit.greatest_end.Goals as goal

pub loop-node-preserved : goal.loop-node-preserved
loop-node-preserved c =
    let ends : ends_of c.get.result ≡ potential_ends c.args.intervals.now c.loop-node.node =
    ends_same c.get.result (potential_ends c.args.intervals.now c.loop-node.node) c.get.ensures.low c.get.ensures.high in
    record {
      within = next_within c.args.intervals.now c.loop-node.node c.loop-node.greatest c.greater_end-greatest.result c.get.result c.greater_end-greatest.ensures.number c.get.ensures.low c.get.ensures.high
          c.greater_end-greatest.ensures.within c.loop-node.invariant.within;
      least = λ bound small. c.greater_end-greatest.ensures.least bound (c.loop-node.invariant.least bound small)
          (subst (λ (e : Ends). IsWithin bound e.low e.high) (sym ends) (small c.loop-node.node));
    }

pub returns-clause-within : goal.returns-clause-within
returns-clause-within c =
    all_within c.loop-node.greatest c.args.intervals.now (λ k inside. c.loop-node.invariant.within k (omega (arith, inside, c.loop-node-test.false, c.nodes-node-end.ensures)))
