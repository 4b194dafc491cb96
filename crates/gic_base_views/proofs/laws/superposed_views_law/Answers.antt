use Rattle.gic_base_views.proofs.RightViews.{right_view, narrow_view}
use Rattle.gic_base_views.proofs.laws.superposed_views_law.Goals as goal

pub returns : goal.returns
returns c case stands fields rows view width limits earthed given certified shown least = (
  right_view case stands fields rows width limits earthed given certified least view shown,
  narrow_view case stands fields rows width limits earthed given certified least view shown,
)
