use Rattle.std.proofs.Common.{◌≡◌, ◌++◌, map, drop}
use Rattle.gic_varied.specs.Grounds.{regrounded}
use Rattle.gic_grounds.specs.Tolerances.{case_ranges}
use Rattle.gic_grounds.specs.Grounded.{extreme_of}
use Rattle.gic_grounds.proofs.grounding.push_grounded.Given as goal

-- the elements so far and what those that are left become are all
abbrev pub invariant-loop-element : goal.invariant-loop-element
invariant-loop-element l =
    let part = regrounded (λ e. extreme_of l.extreme (case_ranges l.case l.percent e)) in
    l.list.items ++ map part (drop l.element-index l.elements) ≡ l.fn.list.items ++ map part l.elements
