use Rattle.std.proofs.Common.{◌∙◌, ℕ, length, ap, sym, subst}
use Rattle.gic_model.specs.Network.{Network}
use Rattle.gic_model.specs.Voltages.{number_at}
use Rattle.gic_net.specs.Net.{standing}
use Rattle.gic_report.specs.declared.counts.Counts.{Counts}
use Rattle.gic_report.specs.Counts.{counts_of}
use Rattle.gic_make.specs.Counting.{verdicts_of}
use Rattle.gic_make.specs.RightMake.{IsWalk, AreRightCounts}
use Rattle.gic_make.proofs.RightCounts.{right_counts}
use Rattle.gic_make.proofs.solving.summarise.Goals as goal

pub returns : goal.returns
returns c =
    let case = c.args.case.now in
    let stands = standing c.args.net.now in
    let nodes = ap (λ (n : Network). n.nodes) c.requires.net in
    record {
      nodes = c.nodes.ensures.value ∙ nodes;
      elements = c.count.ensures.value ∙ ap (λ (n : Network). length n.list) c.requires.net;
      walk = subst (λ n. IsWalk stands n c.walk_of-walk.result) nodes c.walk_of-walk.ensures;
      counts = subst (λ (counts : Counts). AreRightCounts case stands (number_at c.args.volts.now) counts) (sym (c.count_verdicts-counts.ensures ∙ ap (λ (threshold : ℕ). counts_of (verdicts_of case threshold c.solve_view.new.view)) c.threshold.ensures))
          (right_counts c.verdict_law.ensures.below c.verdict_law.ensures.reaches case stands (number_at c.args.volts.now) c.solve_view.new.view c.keeps_rules.ensures c.solve_view.ensures.solved);
    }
