use Rattle.std.proofs.Common.{◌≡◌, ℕ, ◌<◌, length}
use Rattle.gic_model.specs.Standing.{is_standing}
use Rattle.gic_net.specs.Net.{standing}
use Rattle.gic_view.specs.View.{element_at}
use Rattle.gic_superpose.specs.Rows.{row_at}
use Rattle.gic_superpose.specs.Superposed.{superposed}
use Rattle.gic_base_views.specs.Superposed.{shown_where}
use Rattle.gic_base_views.proofs.showing.fill_elements.Given as goal

abbrev pub invariant-loop-place : goal.invariant-loop-place
invariant-loop-place l = record {
  shown : (p : ℕ) → p < l.place → element_at l.out p ≡ shown_where (is_standing (standing l.net) p) (superposed l.fields (row_at l.rows p));
  rest : l.out ≡ record l.fn.out { elements = l.out.elements };
  count : length l.out.elements ≡ length l.fn.out.elements;
}
