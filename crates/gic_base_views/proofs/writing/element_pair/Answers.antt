use Rattle.gic_base_views.proofs.writing.element_pair.Goals as goal

pub returns-then-stands-clause-certified : goal.returns-then-stands-clause-certified
returns-then-stands-clause-certified c is = record {
  holds = record { to_north = c.base_current.ensures.holds c.requires.north.holds; to_east = c.base_current-then-stands.ensures.holds c.requires.east.holds };
  narrow = record { north = c.base_current.ensures.narrow c.requires.north.tight; east = c.base_current-then-stands.ensures.narrow c.requires.east.tight };
}
