use Rattle.gic_net.specs.Net.{standing}
use Rattle.gic_base_views.proofs.Certified.{for_volts, effective_for_volts}
use Rattle.gic_base_views.proofs.certifying.certify_zone.Goals as goal

pub returns-clause-certified : goal.returns-clause-certified
returns-clause-certified c =
    let s = standing c.args.net.now in
    let case = c.args.case.now in
    let north = c.requires.north.induced in
    let east = c.requires.east.induced in
    record {
      nodes = λ k live. for_volts s (λ s. s.potential k) 1 _ _ _ _ _ north east (c.write_nodes.ensures.certified k live);
      elements = λ place is. for_volts s (λ s. s.current place) 1 _ _ _ _ _ north east (c.write_elements.ensures.certified place is);
      effective = λ t less. effective_for_volts case s t _ _ _ _ _ north east (c.write_effective.ensures.certified t less);
    }
