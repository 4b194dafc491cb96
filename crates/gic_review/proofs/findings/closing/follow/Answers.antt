use Rattle.gic_review.proofs.LaidOut.{all_near}
use Rattle.gic_review.proofs.Followed.{place_near}
use Rattle.gic_review.proofs.findings.closing.follow.Goals as goal

pub gap_of-gap-requires-clause-from : goal.gap_of-gap-requires-clause-from
gap_of-gap-requires-clause-from c =
    place_near c.args.case.now c.keeps_rules.ensures c.args.places.now c.args.line.now.from c.requires.count c.requires.laid c.requires.line.from_within _ c.position_of_bus-from.ensures

pub gap_of-gap-requires-clause-to : goal.gap_of-gap-requires-clause-to
gap_of-gap-requires-clause-to c =
    place_near c.args.case.now c.keeps_rules.ensures c.args.places.now c.args.line.now.to c.requires.count c.requires.laid c.requires.line.to_within _ c.position_of_bus-to.ensures

pub join-requires-clause-near : goal.join-requires-clause-near
join-requires-clause-near c = all_near c.args.places.now c.requires.laid
