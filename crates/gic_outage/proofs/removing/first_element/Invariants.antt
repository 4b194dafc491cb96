use Rattle.std.proofs.Common.{◌≡◌, false, take}
use Rattle.std.specs.List.{list_any}
use Rattle.gic_model.specs.Standing.{is_item}
use Rattle.gic_outage.proofs.removing.first_element.Given as goal

-- no element so far is of the item
abbrev pub invariant-loop-place : goal.invariant-loop-place
invariant-loop-place l = list_any (λ e. is_item e.item l.item) (take l.place l.net.network.list) ≡ false
