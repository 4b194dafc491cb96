-- What a case and a view that a report shows keep.
use Rattle.std.specs.Prelude.{IfSome, IsTrue, All, FitsSigned}
use Rattle.std.specs.Int.{w128}
use Rattle.gic_base.specs.Name.{is_name}
use Rattle.gic_view.specs.View.{View}
use Rattle.gic_fixed.specs.Ends.{Ends}
use Rattle.gic_case.specs.Lists.{Lists}
use Rattle.gic_case.specs.Sound.{names_of}

-- the ends are numbers of 128 bits
pub record AreInRange (e : Ends) : Type 0 where
  pub low_fits : FitsSigned w128 e.low
  pub high_fits : FitsSigned w128 e.high

-- each end of the view is a number of 128 bits
pub record IsViewInRange (view : View) : Type 0 where
  pub nodes : All (λ cell. IfSome cell AreInRange) view.nodes
  pub elements : All (λ cell. IfSome cell AreInRange) view.elements
  pub effective : All AreInRange view.effective

-- each row of the case has a name
abbrev pub HasNames : Lists → Type 0
HasNames case = All (λ name. IsTrue (is_name name)) (names_of case)
