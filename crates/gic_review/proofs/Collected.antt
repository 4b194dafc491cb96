-- All that is found, rule after rule.
use Rattle.std.proofs.Common.{◌≡◌, List, [], ◌++◌, ap, ◌∙◌, append_assoc}
use Rattle.std.specs.List.{flat_map}
use Rattle.gic_case.specs.Lists.{Lists, node_names}
use Rattle.gic_model.specs.Network.{Network}
use Rattle.gic_winding.specs.ElementList.{elements_of}
use Rattle.gic_review.specs.declared.findings.finding.Finding.{Finding}
use Rattle.gic_review.specs.Ungrounded.{ungrounded_of}
use Rattle.gic_review.specs.Parts.{findings_of_parts}
use Rattle.gic_review.specs.PartSizes.{sizes_of}
use Rattle.gic_review.specs.Closures.{closures_of}
use Rattle.gic_review.specs.Readings.{values_of}
use Rattle.gic_review.specs.LowAlpha.{low_alpha_told}
use Rattle.gic_review.specs.Sides.{unfit_volts}
use Rattle.gic_review.specs.Outside.{outside_told}
use Rattle.gic_review.specs.Findings.{findings_with}

-- what was added to a list stands in front of what comes behind it
behind : (l a m rest : List Finding) → m ≡ l ++ a → m ++ rest ≡ l ++ (a ++ rest)
behind l a m rest e = ap (λ k. k ++ rest) e ∙ append_assoc l a rest

pub collected : (c : Lists) (network : Network) (l0 l1 l2 l3 l4 l5 l6 l7 : List Finding) → network ≡ elements_of c → l0 ≡ [] → l1 ≡ l0 ++ ungrounded_of c.substations network.list
    → l2 ≡ l1 ++ findings_of_parts (node_names c) (sizes_of network) → l3 ≡ l2 ++ closures_of c → l4 ≡ l3 ++ values_of c → l5 ≡ l4 ++ flat_map low_alpha_told c.zones → l6 ≡ l5 ++ unfit_volts c
    → l7 ≡ l6 ++ flat_map outside_told c.transformers → l7 ≡ findings_with c (sizes_of (elements_of c))
collected c network l0 l1 l2 l3 l4 l5 l6 l7 same e0 e1 e2 e3 e4 e5 e6 e7 =
    let ungrounded = ungrounded_of c.substations (elements_of c).list in
    let parts = findings_of_parts (node_names c) (sizes_of (elements_of c)) in
    let from_volts = unfit_volts c ++ flat_map outside_told c.transformers in
    let from_alphas = flat_map low_alpha_told c.zones ++ from_volts in
    let from_values = values_of c ++ from_alphas in
    let from_closures = closures_of c ++ from_values in
    e7
    ∙ behind l5 (unfit_volts c) l6 (flat_map outside_told c.transformers) e6
    ∙ behind l4 (flat_map low_alpha_told c.zones) l5 from_volts e5
    ∙ behind l3 (values_of c) l4 from_alphas e4
    ∙ behind l2 (closures_of c) l3 from_values e3
    ∙ behind l1 parts l2 from_closures (e2 ∙ ap (λ (n : Network). l1 ++ findings_of_parts (node_names c) (sizes_of n)) same)
    ∙ behind l0 ungrounded l1 (parts ++ from_closures) (e1 ∙ ap (λ (n : Network). l0 ++ ungrounded_of c.substations n.list) same)
    ∙ ap (λ l. l ++ findings_with c (sizes_of (elements_of c))) e0
