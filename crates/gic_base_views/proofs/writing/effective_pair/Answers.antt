use Rattle.std.proofs.Common.{ap₂}
use Rattle.gic_fixed.specs.Ends.{Ends}
use Rattle.gic_base_views.proofs.writing.effective_pair.Goals as goal

pub returns-clause-certified : goal.returns-clause-certified
returns-clause-certified c = record {
  certified = record {
    holds = record { to_north = c.base_effective.ensures.holds c.requires.north.holds; to_east = c.base_effective-2.ensures.holds c.requires.east.holds };
    narrow = record { north = c.base_effective.ensures.narrow c.requires.north.tight; east = c.base_effective-2.ensures.narrow c.requires.east.tight };
  };
  zeroed = λ none. ap₂ (λ (n e : Ends). record { north = n; east = e }) (c.base_effective.ensures.zeroed none) (c.base_effective-2.ensures.zeroed none);
}
