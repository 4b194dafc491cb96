use Rattle.gic_base_views.proofs.RightViews.{right_effective, narrow_effective}
use Rattle.gic_base_views.proofs.laws.superposed_effective_law.Goals as goal

pub returns : goal.returns
returns c case stands fields rows t width limits earthed given certified within least = (
  right_effective case stands fields rows width limits earthed given certified least t within,
  narrow_effective case stands fields rows width limits earthed given certified least t within,
)
