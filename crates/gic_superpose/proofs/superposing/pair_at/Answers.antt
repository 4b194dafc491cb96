use Rattle.std.proofs.Common.{ap, sym, subst, ◌∙◌}
use Rattle.std.proofs.lemmas.List.{get_or-map}
use Rattle.std.proofs.lemmas.List.Elements.{All-get_or}
use Rattle.gic_superpose.specs.Pairs.{zone_of, IsSmallPair}
use Rattle.gic_superpose.specs.Compact.{IsCompact}
use Rattle.gic_superpose.proofs.superposing.pair_at.Goals as goal

pub returns-clause-value : goal.returns-clause-value
returns-clause-value c = ap zone_of c.index-row-zone.is ∙ sym (get_or-map zone_of c.args.row.now c.args.zone _ _ c.requires)

pub returns-clause-small : goal.returns-clause-small
returns-clause-small c all = subst IsSmallPair (sym c.index-row-zone.is) (All-get_or IsSmallPair c.args.row.now c.args.zone _ c.requires all)

pub returns-clause-compact : goal.returns-clause-compact
returns-clause-compact c zones all = subst (IsCompact zones) (sym c.index-row-zone.is) (All-get_or (IsCompact zones) c.args.row.now c.args.zone _ c.requires all)
