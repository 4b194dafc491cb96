-- All that is found in a case.
use Rattle.std.specs.Prelude.{ℕ, ◌≡◌, List, ◌++◌, flat_map}
use Rattle.gic_case.specs.Lists.{Lists, node_names}
use Rattle.gic_winding.specs.ElementList.{elements_of}
use Rattle.gic_review.specs.declared.findings.finding.Finding.{Finding}
use Rattle.gic_review.specs.Ungrounded.{ungrounded_of}
use Rattle.gic_review.specs.Parts.{findings_of_parts, ArePartSizes}
use Rattle.gic_review.specs.Closures.{closures_of}
use Rattle.gic_review.specs.Readings.{values_of}
use Rattle.gic_review.specs.LowAlpha.{low_alpha_told}
use Rattle.gic_review.specs.Sides.{unfit_volts}
use Rattle.gic_review.specs.Outside.{outside_told}

-- the findings in the order of the rules, where the parts of the network have these sizes
abbrev pub findings_with : Lists → (sizes : List ℕ) → List Finding
findings_with c sizes =
    ungrounded_of c.substations (elements_of c).list
    ++ (findings_of_parts (node_names c) sizes
    ++ (closures_of c
    ++ (values_of c
    ++ (flat_map low_alpha_told c.zones
    ++ (unfit_volts c
    ++ flat_map outside_told c.transformers)))))

-- with the sizes that the parts have
pub record AreFindingsOf (c : Lists) (findings : List Finding) : Type 0 where
  pub sizes : List ℕ
  pub of_parts : ArePartSizes (elements_of c) sizes
  pub all : findings ≡ findings_with c sizes
