use Rattle.std.proofs.Common.{length, List, ℕ, subst, sym, ap, ◌∙◌}
use Rattle.std.specs.List.{range_with_len}
use Rattle.std.proofs.lemmas.List.FromFn.{length-range_with_len}
use Rattle.gic_review.specs.Union.{ArePointers, LeadTo}
use Rattle.gic_review.proofs.Led.{own_lead, own_pointers}
use Rattle.gic_review.proofs.findings.union.unite_all.Goals as goal

pub loop-element-init : goal.loop-element-init
loop-element-init c =
    let nodes = c.args.elements.now.nodes in
    record {
      count = ap length c.requires ∙ length-range_with_len 0 nodes;
      pointers = subst ArePointers (sym c.requires) (own_pointers nodes);
      lead = subst (λ (p : List ℕ). LeadTo p (range_with_len 0 nodes)) (sym c.requires) (own_lead nodes);
    }
