use Rattle.gic_robust.proofs.LineSums.{fields_drive_lines}
use Rattle.gic_robust.proofs.Resolved.{rows_near}
use Rattle.gic_robust.proofs.laws.resolution_law.Goals as goal

pub returns-clause-near : goal.returns-clause-near
returns-clause-near c =
    rows_near c.near_enclosure_law.ensures.near c.varied_law.ensures.others
    (record {
      enclosures = c.certified_enclosure_law.ensures.holds;
      grains = c.certified_enclosure_law.ensures.grains;
      listed = c.reciprocity_law.ensures.listed;
      modest = c.varied_bound_law.ensures.modest;
      bounded = c.varied_bound_law.ensures.bounded;
      limits = c.other_grounds_law.ensures.limits;
    })
    (record { sizes = c.sizes_law.ensures; listed = c.reach_law.ensures.listed })
    c.other_grounds_law.ensures.earthed c.existence_law.ensures c.potential_bound_law.ensures.solutions

pub returns-clause-lines : goal.returns-clause-lines
returns-clause-lines c = fields_drive_lines
