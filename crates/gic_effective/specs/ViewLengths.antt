-- How long the lists of a view of a case are.
use Rattle.std.specs.Prelude.{◌≡◌, length}
use Rattle.gic_case.specs.Lists.{Lists, node_names}
use Rattle.gic_view.specs.View.{View}
use Rattle.gic_winding.specs.ElementList.{elements_of}

-- the view has a place for each node, each element and each transformer of the case
pub record HasViewLengths (case : Lists) (view : View) : Type 0 where
  pub nodes : length view.nodes ≡ length (node_names case)
  pub elements : length view.elements ≡ length (elements_of case).list
  pub transformers : length view.effective ≡ length case.transformers
