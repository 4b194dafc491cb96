-- Views of which one list changes: two changes of one list are one.
use Rattle.std.proofs.Common.{◌≡◌, List, Option, ap, sym, subst}
use Rattle.gic_fixed.specs.Ends.{Ends}
use Rattle.gic_view.specs.View.{View}

pub nodes_alone : (old mid new : View) (xs : List (Option Ends)) → mid ≡ record old { nodes = mid.nodes } → new ≡ record mid { nodes = xs } → new ≡ record old { nodes = new.nodes }
nodes_alone old mid new xs h e = subst (λ (v : View). v ≡ record old { nodes = v.nodes }) (sym e) (ap (λ (v : View). record v { nodes = xs }) h)

pub elements_alone : (old mid new : View) (xs : List (Option Ends)) → mid ≡ record old { elements = mid.elements } → new ≡ record mid { elements = xs } → new ≡ record old { elements = new.elements }
elements_alone old mid new xs h e = subst (λ (v : View). v ≡ record old { elements = v.elements }) (sym e) (ap (λ (v : View). record v { elements = xs }) h)

pub effective_alone : (old mid new : View) (xs : List Ends) → mid ≡ record old { effective = mid.effective } → new ≡ record mid { effective = xs } → new ≡ record old { effective = new.effective }
effective_alone old mid new xs h e = subst (λ (v : View). v ≡ record old { effective = v.effective }) (sym e) (ap (λ (v : View). record v { effective = xs }) h)
