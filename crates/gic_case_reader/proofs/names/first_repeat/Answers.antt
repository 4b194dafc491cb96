use Rattle.std.proofs.Common.{◌≡◌, ◌<◌, length, true, false, ◌∙◌, sym, rules, arith, below_more}
use Rattle.std.specs.HashSet.{contains}
use Rattle.gic_case.specs.Names.{same}
use Rattle.gic_case_reader.proofs.Repeats.{seen_more, is_repeat-at, first_repeat_some}
use Rattle.gic_case_reader.proofs.names.first_repeat.Goals as goal

pub loop-i-preserved : goal.loop-i-preserved
loop-i-preserved c =
    let within : c.loop-i.i < length c.args.names.now = omega arith in
    let fresh : contains same c.loop-i.seen c.index-names-i.result ≡ false = search rules in
    record {
      seen = seen_more (contains same c.loop-i.seen) (contains same c.insert.new.self) c.args.names.now c.loop-i.i c.index-names-i.result within c.index-names-i.is c.loop-i.invariant.seen c.in_ok-insert.ensures.updates.0;
      none = below_more _ _ c.loop-i.invariant.none (is_repeat-at c.args.names.now c.loop-i.i c.index-names-i.result within c.index-names-i.is ∙ sym (c.loop-i.invariant.seen c.index-names-i.result) ∙ fresh);
    }

pub returns-then-not-branch-clause-value : goal.returns-then-not-branch-clause-value
returns-then-not-branch-clause-value c =
    let within : c.loop-i.i < length c.args.names.now = omega arith in
    let hit : contains same c.loop-i.seen c.index-names-i.result ≡ true = search rules in
    first_repeat_some c.args.names.now c.loop-i.i (record {
      within = within;
      repeats = is_repeat-at c.args.names.now c.loop-i.i c.index-names-i.result within c.index-names-i.is ∙ sym (c.loop-i.invariant.seen c.index-names-i.result) ∙ hit;
      first = c.loop-i.invariant.none;
    })
