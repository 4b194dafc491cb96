use Rattle.std.proofs.Common.{◌≡◌, ◌⊎◌, All, take, rules, subst, sym}
use Rattle.std.proofs.lemmas.List.{take_all}
use Rattle.std.proofs.lemmas.List.Elements.{All-more}
use Rattle.gic_fixed.specs.Ends.{ends_of}
use Rattle.gic_superpose.specs.Compact.{IsCompact, IsBeyond}
use Rattle.gic_superpose.proofs.rows.are_compact.Goals as goal

pub loop-pair-preserved : goal.loop-pair-preserved
loop-pair-preserved c =
    let here : IsCompact c.args.zones c.pair-item.result = search (rules, c.if-not-is_compact.ensures.yes) in
    All-more (IsCompact c.args.zones) c.args.pairs.now c.loop-pair.pair-index c.pair-item.result c.loop-pair-test.true c.loop-pair.invariant
    (subst (IsCompact c.args.zones) c.pair-item.is here)

pub returns-clause-yes : goal.returns-clause-yes
returns-clause-yes c =
    let all : take c.loop-pair.pair-index c.args.pairs.now ≡ c.args.pairs.now = take_all _ _ c.loop-pair-test.false in
    λ _. subst (All (IsCompact c.args.zones)) all c.loop-pair.invariant

pub returns-then-not-is_compact-clause-no : goal.returns-then-not-is_compact-clause-no
returns-then-not-is_compact-clause-no c = λ no.
    let beyond : IsBeyond c.args.zones (ends_of c.pair-item.result.north) ⊎ IsBeyond c.args.zones (ends_of c.pair-item.result.east) = search (rules, c.if-not-is_compact.ensures.no) in
    (c.loop-pair.pair-index, c.pair-item.result, c.loop-pair-test.true, sym c.pair-item.is, beyond)
